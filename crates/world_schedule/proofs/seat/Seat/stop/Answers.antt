use Rattle.std.proofs.Common.{sym, subst}
use Rattle.world_schedule.specs.Restarting.{HasLeft}
use Rattle.world_schedule.proofs.seat.Seat.stop.Goals as goal

pub returns-in_ok-stop-in-Up : goal.returns-in_ok-stop-in-Up
returns-in_ok-stop-in-Up c = λ powers. subst (λ seat. HasLeft powers seat c.in_ok-stop-in-Up.field-0) (sym c.in-Up.is) (c.in_ok-stop-in-Up.ensures powers)
