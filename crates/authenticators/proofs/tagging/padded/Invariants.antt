use Rattle.authenticators.proofs.Blocks.{IsPaddedTo}
use Rattle.authenticators.proofs.tagging.padded.Given as goal

abbrev pub invariant-loop-place : goal.invariant-loop-place
invariant-loop-place l = IsPaddedTo l.place l.key l.pad l.block
