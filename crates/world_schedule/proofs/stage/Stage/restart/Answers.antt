use Rattle.std.proofs.Common.{◌≡◌, true, sym, subst, refl}
use Rattle.world_parties.specs.Cast.{Cast, setting_of, is_correct}
use Rattle.world_schedule.specs.Standings.{Holds}
use Rattle.world_schedule.specs.Validators.{AreUp}
use Rattle.world_schedule.specs.Restarting.{HaveRestarted}
use Rattle.world_schedule.specs.declared.stage.Stage.{Stage}
use Rattle.world_schedule.proofs.Clauses.{at_ok}
use Rattle.world_schedule.proofs.Happenings.{restarts}
use Rattle.world_schedule.proofs.Causes.{cause_from, unknown_at}
use Rattle.world_schedule.specs.declared.event.Event.TheVariants as events
use Rattle.world_schedule.proofs.stage.Stage.restart.Goals as goal

pub returns-in-Ok-clause-ok : goal.returns-in-Ok-clause-ok
returns-in-Ok-clause-ok c = λ cast w at.
    let old : Stage = c.args.self.now in
    let known : is_correct cast c.args.validator ≡ true = subst (λ (x : Cast). is_correct x c.args.validator ≡ true) at.parties c.in_ok-to.ensures.ok.1 in
    let each = old.validators.each.items in
    let up = subst (λ (x : Cast). AreUp (setting_of x) w.scene each) (sym at.parties) at.up in
    let holds = subst (λ (x : Cast). Holds (setting_of x) w.scene.standing.numbered old.chronicle.messages) (sym at.parties) at.holds in
    let k = at_ok _ c.restart.result (c.restart.ensures w.scene up holds) c.in-Ok.is in
    let there = subst (λ (x : Cast). HaveRestarted (setting_of x) w.scene c.in_ok-to.to each c.restart.new.self.each.items old.chronicle c.restart.new.chronicle) at.parties k in
    restarts cast w c.args.validator c.in_ok-to.to old c.restart.new.self c.restart.new.chronicle c.in_ok-to.ensures.ok.0 known at there

pub returns-in_err-to-clause-cause : goal.returns-in_err-to-clause-cause
returns-in_err-to-clause-cause c = λ cast w at.
    cause_from _ c.from_residual.result _ c.from_residual.ensures.1 (unknown_at c.args.self.now.parties cast w.scene.standing (events.Restart c.args.validator) c.args.validator _ _ at.parties refl c.in_err-to.ensures.err)

pub returns-in-Err-clause-cause : goal.returns-in-Err-clause-cause
returns-in-Err-clause-cause c = λ cast w at. tt
