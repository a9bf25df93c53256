use Rattle.world_schedule.specs.Validators.{request_of}
use Rattle.world_schedule.specs.Making.{scene_next}
use Rattle.world_schedule.specs.declared.seat.Seat.TheVariants as seats
use Rattle.world_schedule.proofs.Saying.{on_ok_both}
use Rattle.world_schedule.proofs.Turning.{turned_at_once, turned_settled}
use Rattle.world_schedule.proofs.validator.Validator.turn.Goals as goal

pub returns-then-not-self : goal.returns-then-not-self
returns-then-not-self c = λ s scene up holds.
    on_ok_both c.insist.result (c.insist.ensures s scene up holds) (turned_at_once s scene (request_of c.args.request) c.args.self.now (seats.Up c.insist.new.self) c.args.chronicle.now c.insist.new.chronicle up c.if-not-self.true)

pub returns : goal.returns
returns c = λ s scene up holds.
    let k = c.in_ok-_refused.ensures s scene up holds in
    on_ok_both c.insist-2.result (c.insist-2.ensures s (scene_next s scene k.made) k.up.1 k.holds)
    (turned_settled s scene (request_of c.args.request) c.in_ok-_refused._refused c.args.self.now c.call.new.self.number (seats.Up c.call.new.self) (seats.Up c.insist-2.new.self) c.args.chronicle.now c.call.new.chronicle c.insist-2.new.chronicle up c.if-not-self.false k.up.0 k)
