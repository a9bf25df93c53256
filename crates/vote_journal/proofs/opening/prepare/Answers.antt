use Rattle.std.proofs.Common.{◌≡◌, ◌≢◌, inl, inr, ℕ, List, Ok, Err, ◌++◌, take, refl, sym, subst}
use Rattle.std.proofs.lemmas.Result.{err_from_is_err_and}
use Rattle.protocol.specs.Messages.{Record}
use Rattle.vote_journal.specs.declared.fault.JournalFault.{JournalFault}
use Rattle.vote_journal.specs.declared.fault.JournalFault.TheVariants.{Failed, OutOfMemory, BadRecord}
use Rattle.vote_journal.specs.declared.keeping.Kept.{Kept}
use Rattle.vote_journal.specs.declared.opening.Plan.{Plan}
use Rattle.vote_journal.specs.Store.{Just, Only, Adds, NoMore}
use Rattle.vote_journal.specs.Saving.{BegunOpening, added}
use Rattle.vote_journal.specs.Kept.{Keeps}
use Rattle.vote_journal.specs.History.{Opened, AsRead, RefusesAsRead}
use Rattle.vote_journal.specs.Planning.{IsPlan}
use Rattle.vote_journal.proofs.Stops.{plan_opened, opening_leaves}
use Rattle.vote_journal.proofs.opening.prepare.Goals as goal

module _ {S : Type 0} (seen : S → List ℕ) (may_leave : S → List ℕ → Type 0) (powers : List ℕ) (me : ℕ) (old read : S) (before : NoMore (may_leave old) (may_leave read)) (stands : Just (seen read) (may_leave read)) where
  -- what was read can't be opened
  not_planned : (fault : JournalFault) → IsPlan powers me (seen read) (Err fault) → RefusesAsRead seen may_leave powers me fault old read
  not_planned Failed plan = absurd plan
  not_planned OutOfMemory plan = inl ((λ e. cc), before)
  not_planned BadRecord plan = inr (record { read = read; was = record { before = before; stands = stands }; does = ((λ c left. (c, left, λ rs j. j)), λ e. (seen read, stands.0, plan)) })

  -- it is planned for, and the store fails or memory is short
  not_settled : (fault : JournalFault) (p : Plan) (new : S) → fault ≢ BadRecord → IsPlan powers me (seen read) (Ok p) → Adds (BegunOpening p.keep p.fresh p.marked (seen read)) (may_leave read) (may_leave new)
      → RefusesAsRead seen may_leave powers me fault old new
  not_settled fault p new good plan stop = inr (record {
    read = read;
    was = record { before = before; stands = stands };
    does = ((λ c left. opening_leaves powers me (seen read) (seen read) c p (may_leave read) (may_leave read) refl plan stands.0 (λ d h. h) (stop c left)), λ e. absurd (good e));
  })

  settled : (p : Plan) (kept : Kept) (new : S) → kept ≡ p.kept → IsPlan powers me (seen read) (Ok p) → seen new ≡ take p.keep (seen read) ++ added p.fresh p.marked → Only (seen new) (may_leave new)
      → (rs : List Record) × AsRead seen may_leave powers me (Opened rs) old new × Keeps rs kept.decisions.items kept.own.items
  settled p kept new is plan stood only =
      let o = plan_opened powers me (seen read) (seen new) (may_leave read) p plan stands.0 stood in
      (o.rs, record { read = read; was = record { before = before; stands = stands }; does = (o.found, o.whole, only) }, subst (λ (k : Kept). Keeps o.rs k.decisions.items k.own.items) (sym is) o.keeps)

no_plan_fails : (powers : List ℕ) (me : ℕ) (bytes : List ℕ) (e : JournalFault) → IsPlan powers me bytes (Err e) → e ≡ Failed → ⊥
no_plan_fails powers me bytes e plan is = subst (λ (x : JournalFault). IsPlan powers me bytes (Err x)) is plan

pub returns-in_err-plan-clause-failed : goal.returns-in_err-plan-clause-failed
returns-in_err-plan-clause-failed g c =
    let p = err_from_is_err_and c.from_residual.result c.from_residual.ensures.1 in
    let seen = g.S.Store.seen c.read_all.new.store in
    let plan = c.in_err-plan.ensures.plan c.args.powers.now c.args.me seen c.in-Ok.ensures.read.0 in
    rw (p.1, p.2) (λ is. let failed : c.in_err-plan.field-0.0 ≡ Failed = cc in absurd (no_plan_fails c.args.powers.now c.args.me seen c.in_err-plan.field-0.0 plan failed))

pub returns-in_err-plan-clause-refused : goal.returns-in_err-plan-clause-refused
returns-in_err-plan-clause-refused g c =
    let p = err_from_is_err_and c.from_residual.result c.from_residual.ensures.1 in
    let read = c.in-Ok.ensures.read in
    let plan = c.in_err-plan.ensures.plan c.args.powers.now c.args.me (g.S.Store.seen c.read_all.new.store) read.0 in
    rw (p.1, p.2) (not_planned g.S.Store.seen g.S.Store.may_leave c.args.powers.now c.args.me c.args.store.now c.read_all.new.store c.read_all.ensures.stop read.1 c.in_err-plan.field-0.0 plan)

pub settle-requires : goal.settle-requires
settle-requires g c = c.in_ok-plan.ensures.all c.args.powers.now c.args.me (g.S.Store.seen c.read_all.new.store) c.in-Ok.ensures.read.0

pub returns-in-Ok-settle-clause-opened : goal.returns-in-Ok-settle-clause-opened
returns-in-Ok-settle-clause-opened g c =
    let read = c.in-Ok.ensures.read in
    let plan = c.in_ok-plan.ensures.plan c.args.powers.now c.args.me (g.S.Store.seen c.read_all.new.store) read.0 in
    settled g.S.Store.seen g.S.Store.may_leave c.args.powers.now c.args.me c.args.store.now c.read_all.new.store c.read_all.ensures.stop read.1 c.in_ok-plan.plan c.into_kept.result c.settle.new.store
    c.into_kept.ensures plan c.in-Ok-settle.ensures.done.0 c.in-Ok-settle.ensures.done.1

pub returns-in-Err-Device-settle-clause-refused : goal.returns-in-Err-Device-settle-clause-refused
returns-in-Err-Device-settle-clause-refused g c =
    let read = c.in-Ok.ensures.read in
    let plan = c.in_ok-plan.ensures.plan c.args.powers.now c.args.me (g.S.Store.seen c.read_all.new.store) read.0 in
    not_settled g.S.Store.seen g.S.Store.may_leave c.args.powers.now c.args.me c.args.store.now c.read_all.new.store c.read_all.ensures.stop read.1 Failed c.in_ok-plan.plan c.settle.new.store (λ e. cc) plan c.settle.ensures.stop

pub returns-clause-refused : goal.returns-clause-refused
returns-clause-refused g c =
    let read = c.in-Ok.ensures.read in
    let plan = c.in_ok-plan.ensures.plan c.args.powers.now c.args.me (g.S.Store.seen c.read_all.new.store) read.0 in
    not_settled g.S.Store.seen g.S.Store.may_leave c.args.powers.now c.args.me c.args.store.now c.read_all.new.store c.read_all.ensures.stop read.1 OutOfMemory c.in_ok-plan.plan c.settle.new.store (λ e. cc) plan c.settle.ensures.stop
