use Rattle.std.proofs.Common.{◌<◌, All, take}
use Rattle.proposal_validity.proofs.standing.past_last.Given as goal

abbrev pub invariant-loop-tx : goal.invariant-loop-tx
invariant-loop-tx l = All (λ tx. tx.client < l.len) (take l.tx-index l.txs)
