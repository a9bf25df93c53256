use Rattle.std.proofs.Common.{take}
use Rattle.protocol.specs.Tags.{Setting}
use Rattle.world_schedule.specs.Making.{Scene}
use Rattle.world_schedule.specs.Standings.{Holds}
use Rattle.world_schedule.specs.Validators.{AreUp}
use Rattle.world_schedule.specs.Events.{passes}
use Rattle.world_schedule.specs.Worlds.{has_come, HaveMet}
use Rattle.world_schedule.proofs.validators.Validators.pass.Given as goal

abbrev pub invariant-loop-number : goal.invariant-loop-number
invariant-loop-number l = (c : Setting) (s : Scene) → AreUp c s l.initial.self.each.items → Holds c s.standing.numbered l.initial.chronicle.messages
    → HaveMet c s (passes c (has_come l.brought) l.validators 0 (take l.number s.standing.numbered)) l.initial.self.each.items l.self.each.items l.initial.chronicle l.chronicle
