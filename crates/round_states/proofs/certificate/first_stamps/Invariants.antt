use Rattle.std.proofs.Common.{◌≡◌, ◌<◌, ℕ, None, take}
use Rattle.std.specs.Prelude.{slice_index_or}
use Rattle.std.specs.List.{position_from}
use Rattle.protocol.specs.Rules.{is_stamp}
use Rattle.round_states.proofs.certificate.first_stamps.Given as goal

abbrev pub invariant-loop-place : goal.invariant-loop-place
invariant-loop-place l = (i : ℕ) → i < 128 → slice_index_or l.firsts i None ≡ position_from (is_stamp l.round l.id i) 0 (take l.place l.stamps)
