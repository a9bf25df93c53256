use Rattle.std.proofs.Common.{◌≡◌, ◌-◌, ◌+◌, ℕ, List, ◌++◌, length, take, drop, Ok, arith, sym, ap, subst, ◌∙◌}
use Rattle.std.proofs.lemmas.Result.{err_from_is_err_and}
use Rattle.vote_journal.specs.Layout.{IsTorn}
use Rattle.vote_journal.specs.Planning.{Read, IsScan}
use Rattle.vote_journal.proofs.Pieces.{behind_more, left_of}
use Rattle.vote_journal.proofs.stages.Behind.go_on.Goals as goal

pub returns-in_err-standing : goal.returns-in_err-standing
returns-in_err-standing c = λ before h.
    let p = err_from_is_err_and c.from_residual-in_err-standing.result c.from_residual-in_err-standing.ensures.1 in
    let is : c.deref.result.now ≡ c.args.self.left.items ++ c.args.piece.now = c.deref.ensures.value ∙ c.in_ok-extend_from_slice.ensures.items in
    rw (p.1, p.2) (c.in_err-standing.ensures (before ++ c.args.piece.now) (behind_more c.args.powers.now c.args.me before c.args.piece.now c.deref.result.now c.args.self h is))

pub returns : goal.returns
returns c = λ before h.
    let piece = c.args.piece.now in
    let bytes = c.deref.result.now in
    let scan = c.in_ok-standing.field-0 in
    let is : c.deref.result.now ≡ c.args.self.left.items ++ c.args.piece.now = c.deref.ensures.value ∙ c.in_ok-extend_from_slice.ensures.items in
    let found : IsScan c.args.powers.now c.args.me (before ++ piece) bytes (Ok scan) = c.in_ok-standing.ensures (before ++ piece) (behind_more c.args.powers.now c.args.me before piece bytes c.args.self h is) in
    let same : c.deref-2.result.now ≡ c.deref.result.now = c.deref-2.ensures.value ∙ sym c.deref.ensures.value in
    let size : c.len.result ≡ length c.deref.result.now = c.len.ensures ∙ sym c.deref.ensures.len in
    let mid : c.saturating_sub.result ≡ length c.deref.result.now - c.in_ok-standing.field-0.torn = omega (arith, c.saturating_sub.ensures, size) in
    let front : c.split_at.result.0.now ≡ take (length c.deref.result.now - c.in_ok-standing.field-0.torn) c.deref.result.now =
    c.split_at.ensures.front ∙ ap (λ (x : List ℕ). take c.saturating_sub.result x) same ∙ ap (λ (k : ℕ). take k bytes) mid in
    let back : c.split_at.result.1.now ≡ drop (length c.deref.result.now - c.in_ok-standing.field-0.torn) c.deref.result.now =
    c.split_at.ensures.back ∙ ap (λ (x : List ℕ). drop c.saturating_sub.result x) same ∙ ap (λ (k : ℕ). drop k bytes) mid in
    let read : c.in_ok-sum_of.field-0 ≡ c.args.self.read + length (take (length c.deref.result.now - c.in_ok-standing.field-0.torn) c.deref.result.now) = omega (arith, c.in_ok-sum_of.ensures, ap length front) in
    let left = left_of c.args.powers.now c.args.me before piece bytes c.args.self scan c.in_ok-sum_of.field-0 h is found read in
    let items : c.in_ok-to_vec.field-0.items ≡ drop (length c.deref.result.now - c.in_ok-standing.field-0.torn) c.deref.result.now = c.in_ok-to_vec.ensures.items_if_clones_equal (λ x y e. e) ∙ back in
    (subst IsTorn (sym items) left.torn, omega (arith, left.count, ap length items), subst (λ (x : List ℕ). Read c.args.powers.now c.args.me (before ++ piece) scan.kept scan.standing x) (sym items) left.is)
