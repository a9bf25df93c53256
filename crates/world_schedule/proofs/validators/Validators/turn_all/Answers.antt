use Rattle.std.proofs.Common.{arith}
use Rattle.world_schedule.specs.Making.{scene_after}
use Rattle.world_schedule.specs.Validators.{request_of}
use Rattle.world_schedule.proofs.InTurn.{met_none, met_more, met_all}
use Rattle.world_schedule.proofs.validators.Validators.turn_all.Goals as goal

pub loop-validator-init : goal.loop-validator-init
loop-validator-init c = λ s scene up holds. met_none s scene c.args.self.now.each.items c.args.chronicle.now up holds

pub loop-validator-preserved : goal.loop-validator-preserved
loop-validator-preserved c = λ s scene up holds.
    let k = c.loop-validator.invariant s scene up holds in
    met_more s scene (request_of c.args.request) c.args.validators.now c.loop-validator.validator-index c.args.self.now.each.items c.loop-validator.self.each.items c.turn.new.self.each.items c.args.chronicle.now c.loop-validator.chronicle c.turn.new.chronicle
    c.loop-validator-test.true k (c.in_ok-turn.ensures s (scene_after s scene k.made) k.leads.up k.leads.holds)

pub returns : goal.returns
returns c = λ s scene up holds.
    met_all s scene (request_of c.args.request) c.args.validators.now c.loop-validator.validator-index c.args.self.now.each.items c.loop-validator.self.each.items c.args.chronicle.now c.loop-validator.chronicle (omega (arith, c.loop-validator-test.false)) (c.loop-validator.invariant s scene up holds)
