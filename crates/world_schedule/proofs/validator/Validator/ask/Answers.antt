use Rattle.std.proofs.Common.{◌<◌, ◌^◌, arith}
use Rattle.world_schedule.proofs.Meeting.{meets_ask}
use Rattle.world_schedule.proofs.validator.Validator.ask.Goals as goal

pub returns-clause-met : goal.returns-clause-met
returns-clause-met c = λ s n h st own health.
    let high : c.args.self.now.core.machine.state.height < 2 ^ 64 = omega (arith, c.height-height.ensures, c.height-height.type_inv) in
    meets_ask s c.args.self.now.number n h c.args.self.now.core c.ask.new.self c.ask.result st health high own c.ask.ensures.answer c.ask.ensures.refusal c.ask.ensures.ok c.ask.ensures.err
