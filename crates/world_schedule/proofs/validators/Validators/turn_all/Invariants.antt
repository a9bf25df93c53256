use Rattle.std.proofs.Common.{map, take}
use Rattle.protocol.specs.Tags.{Setting}
use Rattle.world_schedule.specs.Making.{Scene}
use Rattle.world_schedule.specs.Standings.{Holds}
use Rattle.world_schedule.specs.Validators.{request_of, AreUp}
use Rattle.world_schedule.specs.Events.{asked_of}
use Rattle.world_schedule.specs.Worlds.{HaveMet}
use Rattle.world_schedule.proofs.validators.Validators.turn_all.Given as goal

abbrev pub invariant-loop-validator : goal.invariant-loop-validator
invariant-loop-validator l = (c : Setting) (s : Scene) → AreUp c s l.initial.self.each.items → Holds c s.standing.numbered l.initial.chronicle.messages
    → HaveMet c s (map (asked_of (request_of l.request)) (take l.validator-index l.validators)) l.initial.self.each.items l.self.each.items l.initial.chronicle l.chronicle
