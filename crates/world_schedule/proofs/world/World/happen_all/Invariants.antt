use Rattle.std.proofs.Common.{◌≡◌, take}
use Rattle.world_parties.specs.Cast.{Cast}
use Rattle.world_schedule.specs.Events.{Course}
use Rattle.world_schedule.specs.Worlds.{Rests, HaveAll}
use Rattle.world_schedule.proofs.world.World.happen_all.Given as goal

abbrev pub invariant-loop-event : goal.invariant-loop-event
invariant-loop-event l = (l.self.event ≡ l.event-index) × (l.self.spent ≡ l.initial.self.spent)
    × ((cast : Cast) (w : Course) → Rests cast w l.initial.self.stage → HaveAll cast w 0 (take l.event-index l.events) l.initial.self l.self)
