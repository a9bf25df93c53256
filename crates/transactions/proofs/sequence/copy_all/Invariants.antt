use Rattle.std.proofs.Common.{◌≡◌, take}
use Rattle.transactions.proofs.sequence.copy_all.Given as goal

abbrev pub invariant-loop-entry : goal.invariant-loop-entry
invariant-loop-entry g l = l.all.items ≡ take l.entry-index l.entries
