-- The value that was found valid, as a later round begins.
use Rattle.std.proofs.Common.{◌≡◌, ◌<◌, true, Option, Some, None, IfSome, refl, arith}
use Rattle.protocol.specs.declared.types.ValueAt.{ValueAt}
use Rattle.round_states.specs.Seen.{IsFoundBy, stage_begun, stage_round}
use Rattle.round_states.specs.declared.rounds.Propose.{Propose}
use Rattle.round_states.specs.declared.rounds.Round.{Round}
use Rattle.round_states.specs.declared.rounds.Stage.{Stage}
use Rattle.round_states.specs.declared.rounds.Stage.TheVariants as stages

pub found_before : (stage : Stage) (found : Option ValueAt) (r : Round Propose) → (stage_begun stage ≡ true → stage_round stage < r.number) → IfSome found (IsFoundBy stage) → IfSome found (IsFoundBy (stages.Propose r))
found_before stage None r later h = tt
found_before stage (Some l) r later h = record { fits = h.fits; begun = refl; round = let lt = later h.begun in let le = h.round in omega arith }
