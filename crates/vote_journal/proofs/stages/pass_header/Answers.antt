use Rattle.std.proofs.Common.{◌≡◌, ◌≤◌, ℕ, List, [], ◌++◌, length, take, drop, true, arith, sym, ap, ◌∙◌}
use Rattle.std.proofs.lemmas.List.{take-append-drop}
use Rattle.std.proofs.lemmas.Result.{err_from_is_err_and}
use Rattle.std.proofs.lemmas.Slice.Eq.{bytes_eq-Decides}
use Rattle.std.specs.Str.{bytes_eq}
use Rattle.vote_journal.specs.Grammar.{header}
use Rattle.vote_journal.proofs.Stops.{not_behind, not_header}
use Rattle.vote_journal.proofs.stages.pass_header.Goals as goal

pub returns-then-not-same_bytes : goal.returns-then-not-same_bytes
returns-then-not-same_bytes c =
    let is : c.deref.result.now ≡ c.args.front.items ++ c.args.piece.now = c.deref.ensures.value ∙ c.in_ok-extend_from_slice.ensures.items in
    let long : 4 ≤ length (c.args.front.items ++ c.args.piece.now) = omega (arith, c.if-len-lt4.false, c.len.ensures, c.deref.ensures.len, ap length is) in
    not_header c.args.powers.now c.args.me (c.args.front.items ++ c.args.piece.now) long (λ e.
    let same : bytes_eq c.split_at.result.0.now header ≡ true = (bytes_eq-Decides c.split_at.result.0.now header).1 (c.split_at.ensures.front ∙ ap (take 4) is ∙ e) in
    let none = c.if-not-same_bytes.ensures in
    absurd cc)

pub returns-in_err-behind : goal.returns-in_err-behind
returns-in_err-behind c =
    let p = err_from_is_err_and c.from_residual-in_err-behind.result c.from_residual-in_err-behind.ensures.1 in
    let is : c.deref.result.now ≡ c.args.front.items ++ c.args.piece.now = c.deref.ensures.value ∙ c.in_ok-extend_from_slice.ensures.items in
    let same : bytes_eq c.split_at.result.0.now header ≡ true = sym c.same_bytes.ensures ∙ c.if-not-same_bytes.false in
    let front : take 4 c.deref.result.now ≡ header = sym c.split_at.ensures.front ∙ (bytes_eq-Decides c.split_at.result.0.now header).0 same in
    let whole : c.args.front.items ++ c.args.piece.now ≡ header ++ c.split_at.result.1.now =
    sym is ∙ sym (take-append-drop 4 c.deref.result.now) ∙ ap (λ (x : List ℕ). x ++ drop 4 c.deref.result.now) front ∙ ap (λ (x : List ℕ). header ++ x) (sym c.split_at.ensures.back) in
    rw (p.1, p.2) (not_behind c.args.powers.now c.args.me (c.args.front.items ++ c.args.piece.now) c.split_at.result.1.now c.in_err-behind.field-0.0 whole (c.in_err-behind.ensures [] (c.new.ensures c.args.powers.now c.args.me)))

pub returns : goal.returns
returns c =
    let is : c.deref.result.now ≡ c.args.front.items ++ c.args.piece.now = c.deref.ensures.value ∙ c.in_ok-extend_from_slice.ensures.items in
    let same : bytes_eq c.split_at.result.0.now header ≡ true = sym c.same_bytes.ensures ∙ c.if-not-same_bytes.false in
    let front : take 4 c.deref.result.now ≡ header = sym c.split_at.ensures.front ∙ (bytes_eq-Decides c.split_at.result.0.now header).0 same in
    let whole : c.args.front.items ++ c.args.piece.now ≡ header ++ c.split_at.result.1.now =
    sym is ∙ sym (take-append-drop 4 c.deref.result.now) ∙ ap (λ (x : List ℕ). x ++ drop 4 c.deref.result.now) front ∙ ap (λ (x : List ℕ). header ++ x) (sym c.split_at.ensures.back) in
    (c.split_at.result.1.now, whole, c.in_ok-behind.ensures [] (c.new.ensures c.args.powers.now c.args.me))
