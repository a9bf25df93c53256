-- The step that is kept as a number.
use Rattle.std.specs.Prelude.{ℕ, ◌==◌, if◌then◌else◌}
use Rattle.protocol.specs.declared.types.Step.{Step}
use Rattle.protocol.specs.declared.types.Step.TheVariants.{Propose, Prevote, Precommit}

abbrev pub step_of : ℕ → Step
step_of number = if number == 0 then Propose else if number == 1 then Prevote else Precommit
