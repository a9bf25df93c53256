use Rattle.std.proofs.Common.{subst}
use Rattle.world_parties.specs.Cast.{setting_of}
use Rattle.protocol.specs.Tags.{Setting}
use Rattle.world_schedule.specs.Making.{scene_after}
use Rattle.world_schedule.specs.Restarting.{HasReopened}
use Rattle.world_schedule.specs.declared.seat.Seat.TheVariants as seats
use Rattle.world_schedule.proofs.Reopening.{has_restarted, has_not_restarted}
use Rattle.world_schedule.proofs.restarting.Stopped.restart.Goals as goal

pub returns-in_ok-turn-in-Up : goal.returns-in_ok-turn-in-Up
returns-in_ok-turn-in-Up c = λ s stopped holds.
    let d : Setting = setting_of c.args.parties.now in
    let p = c.args.self.number in
    let k = subst (λ seat. HasReopened d s p seat c.args.chronicle.now c.reopen.new.chronicle) c.in-Up.is (c.in_ok-seat.ensures s stopped holds) in
    let j = c.in_ok-turn-in-Up.ensures d (scene_after d s k.0) k.2.up.1 k.2.holds in
    has_restarted d s p c.in-Up.validator (seats.Up c.turn.new.self) c.args.chronicle.now c.reopen.new.chronicle c.turn.new.chronicle k j

pub returns-in_default : goal.returns-in_default
returns-in_default c = λ s stopped holds. has_not_restarted (setting_of c.args.parties.now) s c.args.self.number c.in_ok-seat.seat c.args.chronicle.now c.reopen.new.chronicle c.in_default.not-Up (c.in_ok-seat.ensures s stopped holds)
