use Rattle.std.proofs.Common.{◌≡◌, take, map, length}
use Rattle.schedule_text.specs.Values.{tx_of}
use Rattle.schedule_text.proofs.values.value_of.Given as goal

abbrev pub invariant-loop-line : goal.invariant-loop-line
invariant-loop-line l = l.txs.items ≡ map (tx_of (length l.parties.powers)) (take l.line-index l.lines)
