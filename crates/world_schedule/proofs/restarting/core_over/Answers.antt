use Rattle.std.proofs.Common.{◌≡◌, ◌∙◌, ℕ, sym, ap, subst}
use Rattle.std.specs.Prelude.{reverse}
use Rattle.std.proofs.lemmas.Result.{err_from_is_err_and}
use Rattle.vote_journal.specs.Layout.{IsJournal}
use Rattle.vote_journal.specs.Saving.{KeepsRecords}
use Rattle.world_parties.specs.Cast.{setting_of}
use Rattle.world_schedule.proofs.Reopening.{found_again, kept_by_opening, kept_by_refusal, stands_again}
use Rattle.world_schedule.proofs.restarting.core_over.Goals as goal

pub returns-in-Ok-open-clause-stands : goal.returns-in-Ok-open-clause-stands
returns-in-Ok-open-clause-stands c = λ journal j own.
    let p : ℕ = c.args.number in
    let same : c.in-Ok-copy.powers ≡ c.args.parties.now.powers = c.in-Ok-copy.ensures ∙ c.powers.ensures in
    let before = subst (λ powers. IsJournal powers p c.args.store.store.bytes.items (reverse journal)) (sym same) j in
    let whole = found_again c.in-Ok-copy.powers p c.args.store.store.bytes.items _ _ _ (reverse journal) c.in_ok-opened.ensures.opened before in
    let k = c.in-Ok-open.ensures in
    stands_again (setting_of c.args.parties.now) p journal c.in-Ok.ring c.in-Ok-open.core c.in-Ok.ensures (k.powers ∙ same) k.me k.ring (k.stands (reverse journal) whole) own

pub returns-in-Err-clause-kept : goal.returns-in-Err-clause-kept
returns-in-Err-clause-kept c =
    let p : ℕ = c.args.number in
    let same : c.in-Ok-copy.powers ≡ c.args.parties.now.powers = c.in-Ok-copy.ensures ∙ c.powers.ensures in
    let back : c.store_of.result ≡ c.in_ok-opened.opened.journal.store = c.store_of.ensures ∙ ap (λ o. o.journal.store) c.in-Err.ensures.back in
    let there : c.starved-in-Err.result.store ≡ c.in_ok-opened.opened.journal.store = ap (λ o. o.store) c.starved-in-Err.ensures ∙ back in
    let kept = kept_by_opening c.in-Ok-copy.powers p c.args.store.store.bytes.items c.in_ok-opened.opened.journal.store.store.bytes.items _ _ c.in_ok-opened.ensures.opened in
    subst (λ powers. KeepsRecords powers p c.args.store.store.bytes.items c.starved-in-Err.result.store.store.bytes.items) same (subst (λ m. KeepsRecords c.in-Ok-copy.powers p c.args.store.store.bytes.items m.store.bytes.items) (sym there) kept)

pub returns-in_err-opened-clause-kept : goal.returns-in_err-opened-clause-kept
returns-in_err-opened-clause-kept c =
    let p : ℕ = c.args.number in
    let same : c.in-Ok-copy.powers ≡ c.args.parties.now.powers = c.in-Ok-copy.ensures ∙ c.powers.ensures in
    let left = c.in_err-opened.field-0.0.store.store.bytes.items in
    let to = err_from_is_err_and c.from_residual.result c.from_residual.ensures.1 in
    let kept : KeepsRecords c.args.parties.now.powers p c.args.store.store.bytes.items left = subst (λ powers. KeepsRecords powers p c.args.store.store.bytes.items left) same (kept_by_refusal c.in-Ok-copy.powers p c.args.store.store.bytes.items left c.in_err-opened.ensures.stop) in
    rw (to.1, to.2) kept
