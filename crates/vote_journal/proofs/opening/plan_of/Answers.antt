use Rattle.std.proofs.Common.{◌≡◌, ℕ, List, length, Ok, arith, sym, ap, subst, ◌∙◌}
use Rattle.vote_journal.specs.declared.opening.Plan.{Plan}
use Rattle.vote_journal.specs.Planning.{Comes, IsPlan, IsStage}
use Rattle.vote_journal.proofs.Stops.{plan_behind, plan_err}
use Rattle.vote_journal.proofs.opening.plan_of.Goals as goal

pub returns-in-Ok-Front-clause-plan : goal.returns-in-Ok-Front-clause-plan
returns-in-Ok-Front-clause-plan c = λ powers me bytes h.
    let here = subst (IsStage powers me bytes) c.in-Ok-Front.field-0-is (subst (Comes powers me bytes) c.in-Ok-Front.is h) in
    let same : c.deref.result.now ≡ bytes = c.deref.ensures.value ∙ here.0 in
    subst (λ (x : List ℕ). IsPlan powers me x c.short_plan.result) same (c.short_plan.ensures.plan (omega (arith, here.1, ap length same)) powers me)

pub returns-in-Ok-Records-clause-plan : goal.returns-in-Ok-Records-clause-plan
returns-in-Ok-Records-clause-plan c = λ powers me bytes h.
    let here = subst (IsStage powers me bytes) c.in-Ok-Records.field-0-is (subst (Comes powers me bytes) c.in-Ok-Records.is h) in
    subst (λ (p : Plan). IsPlan powers me bytes (Ok p)) (sym c.plan_behind.ensures) (plan_behind powers me bytes here.0 c.in-Ok-Records.behind here.1 here.2)

pub returns-in-Err-clause-plan : goal.returns-in-Err-clause-plan
returns-in-Err-clause-plan c = λ powers me bytes h. plan_err powers me bytes c.in-Err.fault (subst (Comes powers me bytes) c.in-Err.is h)
