use Rattle.std.proofs.Common.{◌≡◌, true, subst, refl}
use Rattle.world_parties.specs.Cast.{Cast, is_correct}
use Rattle.world_schedule.proofs.Happenings.{struck}
use Rattle.world_schedule.proofs.Causes.{cause_from, unknown_at}
use Rattle.world_parties.specs.declared.fault.FaultNumber.TheVariants.{OutOfMemory}
use Rattle.world_schedule.specs.declared.event.Event.TheVariants as events
use Rattle.world_schedule.proofs.stage.Stage.fail.Goals as goal

pub returns-clause-ok : goal.returns-clause-ok
returns-clause-ok c = λ cast w at.
    struck cast w c.args.validator c.args.failing c.args.self.now (subst (λ (x : Cast). is_correct x c.args.validator ≡ true) at.parties c.in_ok-to.ensures.ok.1) at

pub returns-in_err-to-clause-cause : goal.returns-in_err-to-clause-cause
returns-in_err-to-clause-cause c = λ cast w at.
    cause_from _ c.from_residual.result _ c.from_residual.ensures.1 (unknown_at c.args.self.now.parties cast w.scene.standing (events.Fail c.args.validator c.args.failing) c.args.validator _ _ at.parties refl c.in_err-to.ensures.err)

pub returns-in_err-strike-clause-cause : goal.returns-in_err-strike-clause-cause
returns-in_err-strike-clause-cause c = λ cast w at. cause_from _ c.from_residual-in_err-strike.result OutOfMemory c.from_residual-in_err-strike.ensures.1 tt
