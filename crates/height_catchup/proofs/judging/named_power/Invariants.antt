use Rattle.std.proofs.Common.{◌≡◌, ℕ, ◌<◌, length, take, get_or, false}
use Rattle.std.specs.Prelude.{◌==◌}
use Rattle.std.specs.List.{list_any}
use Rattle.height_catchup.proofs.judging.named_power.Given as goal

abbrev pub invariant-loop-precommit : goal.invariant-loop-precommit
invariant-loop-precommit l = record {
  marks : (i : ℕ) → i < 128 → get_or l.marks i false ≡ list_any (λ s. s.sender == i) (take l.precommit-index l.bundle.precommits);
  len : length l.marks ≡ 128;
}
