use Rattle.std.proofs.Common.{◌≡◌, ℕ, List, [], length, arith}
use Rattle.std.proofs.lemmas.List.Elements.{recursion_from_All, All-from_get_or}
use Rattle.transactions.proofs.writing.len_of_tags.Goals as goal

pub returns-clause-fits : goal.returns-clause-fits
returns-clause-fits c =
    let each = All-from_get_or (λ (tag : List ℕ). length tag ≡ 32) c.args.tags.now [] c.told-tags in record {
      some = grind arith;
      few = omega arith;
      each = recursion_from_All (λ (tag : List ℕ). length tag ≡ 32) c.args.tags.now each;
    }
