use Rattle.std.proofs.Common.{◌≡◌, ℕ, List, [], length, sym}
use Rattle.std.proofs.lemmas.List.Elements.{recursion_from_All, All-from_get_or}
use Rattle.messages.proofs.Sizes.{length-tags_spelling}
use Rattle.messages.proofs.framing.room_of_tags.Goals as goal

pub returns-clause-room : goal.returns-clause-room
returns-clause-room c =
    let each = All-from_get_or (λ (tag : List ℕ). length tag ≡ 32) c.args.tags.now [] c.told-tags in
    sym (length-tags_spelling c.args.tags.now (recursion_from_All (λ (tag : List ℕ). length tag ≡ 32) c.args.tags.now each))
