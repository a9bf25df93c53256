use Rattle.std.proofs.Common.{◌≡◌, true, subst, false, inl, inr}
use Rattle.world_parties.specs.Cast.{Cast, is_correct}
use Rattle.world_schedule.specs.Validators.{request_of}
use Rattle.world_schedule.specs.Worlds.{IsMet}
use Rattle.world_schedule.proofs.Saying.{on_ok_both}
use Rattle.world_schedule.proofs.Happenings.{on_ok_always}
use Rattle.world_schedule.proofs.Causes.{cause_from}
use Rattle.world_schedule.proofs.Ended.{if_err}
use Rattle.world_schedule.specs.Events.{IsUnknown}
use Rattle.world_schedule.proofs.stage.Stage.turn.Goals as goal

pub returns-clause-met : goal.returns-clause-met
returns-clause-met c = λ cast w at.
    on_ok_both c.meet.result (c.meet.ensures.met cast w at) (λ k. subst (λ r. IsMet cast w r (request_of c.args.request) c.args.self.now c.meet.new.self) c.in_ok-to.ensures.ok.0 k)

pub returns-clause-known : goal.returns-clause-known
returns-clause-known c = λ cast e. on_ok_always c.meet.result (subst (λ (x : Cast). is_correct x c.args.validator ≡ true) e c.in_ok-to.ensures.ok.1)

pub returns-in_err-to-clause-unknown : goal.returns-in_err-to-clause-unknown
returns-in_err-to-clause-unknown c = λ cast e.
    cause_from (IsUnknown cast c.args.validator) c.from_residual.result _ c.from_residual.ensures.1 (inr (c.in_err-to.ensures.err.0, subst (λ (x : Cast). is_correct x c.args.validator ≡ false) e c.in_err-to.ensures.err.1))

pub returns-clause-unknown : goal.returns-clause-unknown
returns-clause-unknown c = λ cast e. if_err _ (IsUnknown cast c.args.validator) c.meet.result c.meet.ensures.err (λ fault is. inl is)
