use Rattle.std.proofs.Common.{◌≡◌, Some, map, take}
use Rattle.world_schedule.specs.Reports.{decision_of}
use Rattle.world_schedule.specs.Standings.{Tells}
use Rattle.world_schedule.specs.declared.report.What.TheVariants.{Decided}
use Rattle.world_schedule.proofs.chronicle.Chronicle.tell_decisions.Given as goal

abbrev pub invariant-loop-bundle : goal.invariant-loop-bundle
invariant-loop-bundle l = Tells (Some l.validator) (map (λ b. Decided (decision_of b)) (take l.bundle-index l.decisions)) l.initial.self l.self × (l.self.messages ≡ l.initial.self.messages)
