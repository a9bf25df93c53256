use Rattle.std.proofs.Common.{◌≡◌, sym, arith}
use Rattle.std.proofs.lemmas.List.FromFn.{map-range_with_len_more}
use Rattle.authenticators.specs.Keys.{key_between}
use Rattle.authenticators.specs.declared.party.Party.TheVariants.{Client}
use Rattle.authenticators.proofs.key_file.clients_to.Goals as goal

pub loop-from-preserved : goal.loop-from-preserved
loop-from-preserved c =
    rw (c.in_ok-push.ensures.items, c.loop-from.invariant, c.key_between.ensures)
    (sym (map-range_with_len_more (λ from. key_between c.args.lines.now (Client from) c.args.to) 0 c.loop-from.from c.loop-from.from (omega arith)))

pub returns : goal.returns
returns c =
    let end : c.loop-from.from ≡ 1024 = omega arith in
    rw end at c.loop-from.invariant
