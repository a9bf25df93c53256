use Rattle.std.proofs.Common.{◌≡◌, ℕ, All, take}
use Rattle.proposal_validity.specs.Standing.{standing, IsStanding}
use Rattle.proposal_validity.specs.Course.{after, items_of}
use Rattle.proposal_validity.proofs.standing.pass.Given as goal

abbrev pub invariant-loop-tx : goal.invariant-loop-tx
invariant-loop-tx l = record {
  each : (client : ℕ) → standing l.standings client ≡ after client (items_of (take l.tx-index l.txs)) (standing l.initial.standings client);
  small : All IsStanding l.initial.standings → All IsStanding l.standings;
}
