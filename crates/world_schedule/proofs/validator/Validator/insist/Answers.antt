use Rattle.world_schedule.specs.Validators.{request_of}
use Rattle.world_schedule.specs.Making.{scene_next}
use Rattle.world_schedule.specs.declared.seat.Seat.TheVariants as seats
use Rattle.world_schedule.proofs.Turning.{insisted_once, insisted_again}
use Rattle.world_schedule.proofs.validator.Validator.insist.Goals as goal

pub returns-then-not-refused : goal.returns-then-not-refused
returns-then-not-refused c = λ s scene up holds.
    insisted_once s scene (request_of c.args.request) c.in_ok-refused.refused c.args.self.now.number (seats.Up c.call.new.self) c.args.chronicle.now c.call.new.chronicle c.if-not-refused.true (c.in_ok-refused.ensures s scene up holds)

pub returns : goal.returns
returns c = λ s scene up holds.
    let k = c.in_ok-refused.ensures s scene up holds in
    let j = c.in_ok-_settling.ensures s (scene_next s scene k.made) k.up.1 k.holds in
    let i = c.in_ok-_again.ensures s (scene_next s (scene_next s scene k.made) j.made) j.up.1 j.holds in
    insisted_again s scene (request_of c.args.request) c.in_ok-refused.refused c.in_ok-_settling._settling c.in_ok-_again._again c.args.self.now.number c.call.new.self.number c.call-2.new.self.number (seats.Up c.call.new.self) (seats.Up c.call-2.new.self) (seats.Up c.call-3.new.self)
    c.args.chronicle.now c.call.new.chronicle c.call-2.new.chronicle c.call-3.new.chronicle c.if-not-refused.false k.up.0 j.up.0 k j i
