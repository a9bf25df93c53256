use Rattle.std.proofs.Common.{◌∙◌, Some, refl, arith}
use Rattle.protocol.specs.Messages.{Bundle}
use Rattle.world_schedule.specs.Reports.{decision_of}
use Rattle.world_schedule.specs.declared.report.What.TheVariants.{Decided}
use Rattle.world_schedule.proofs.Saying.{tells_none, tells_more, tells_all}
use Rattle.world_schedule.proofs.chronicle.Chronicle.tell_decisions.Goals as goal

pub loop-bundle-init : goal.loop-bundle-init
loop-bundle-init c = (tells_none (Some c.args.validator) c.args.self.now, refl)

pub loop-bundle-preserved : goal.loop-bundle-preserved
loop-bundle-preserved c = (
  tells_more (Some c.args.validator) (λ (b : Bundle). Decided (decision_of b)) c.args.decisions.now c.loop-bundle.bundle-index c.bundle-item.result c.args.self.now c.loop-bundle.self c.tell.new.self c.loop-bundle-test.true c.bundle-item.is c.loop-bundle.invariant.0 c.in_ok-tell.ensures.told,
  c.tell.ensures.messages ∙ c.loop-bundle.invariant.1,
)

pub returns-clause-told : goal.returns-clause-told
returns-clause-told c = tells_all (Some c.args.validator) (λ (b : Bundle). Decided (decision_of b)) c.args.decisions.now c.loop-bundle.bundle-index c.args.self.now c.loop-bundle.self (omega (arith, c.loop-bundle-test.false)) c.loop-bundle.invariant.0
