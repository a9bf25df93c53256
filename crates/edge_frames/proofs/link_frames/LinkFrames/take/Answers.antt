use Rattle.std.proofs.Common.{◌≡◌, ◌<◌, length, get_or, refl, sym, ap, ◌∙◌, arith}
use Rattle.std.proofs.lemmas.List.{get_or_default}
use Rattle.edge_frames.specs.Early.{early, IsStart}
use Rattle.edge_frames.proofs.Placing.{height_of, is_absent, first_is, fits_remove, remove_is_ordered}
use Rattle.edge_frames.proofs.link_frames.LinkFrames.take.Goals as goal

pub returns-in_err-get : goal.returns-in_err-get
returns-in_err-get c =
    let es = c.self.inside.frames.items in
    let at : IsStart c.args.height es c.start_of-place.result = rw c.self.view_is c.start_of-place.ensures in
    rw (c.from_residual.ensures, ← c.self.view_is) (is_absent c.args.height es c.start_of-place.result at c.self.invariant.0 (λ d l same. absurd (omega (arith, c.in_err-get.ensures))), refl)

pub returns-then-branch-height : goal.returns-then-branch-height
returns-then-branch-height c =
    let es = c.self.inside.frames.items in
    let i = c.start_of-place.result in
    let at : IsStart c.args.height es i = rw c.self.view_is c.start_of-place.ensures in
    let here : c.in_ok-get.field-0.now ≡ get_or es i c.in_ok-get.field-0.now = c.in_ok-get.ensures.lookup in
    rw (← c.self.view_is) (
      is_absent c.args.height es i at c.self.invariant.0
          (λ d l same. c.if-branch-height.true (ap height_of here ∙ ap height_of (get_or_default es i _ d l) ∙ same)),
      refl,
    )

pub invariant_of-self-2 : goal.invariant_of-self-2
invariant_of-self-2 c =
    let es = c.self.inside.frames.items in
    let i = c.start_of-place.result in
    let lt : i < length es = omega (arith, c.in_ok-get.ensures) in
    rw c.in_ok-early.ensures.items (remove_is_ordered es i lt c.self.invariant.0, fits_remove i c.in_ok-get.field-0.now es lt c.self.invariant.1)

pub returns : goal.returns
returns c =
    let es = c.self.inside.frames.items in
    let i = c.start_of-place.result in
    let at : IsStart c.args.height es i = rw c.self.view_is c.start_of-place.ensures in
    let lt : i < length es = omega (arith, c.in_ok-get.ensures) in
    let here : c.in_ok-early.early ≡ get_or es i c.in_ok-early.early = c.in_ok-early.ensures.value in
    let looked : c.in_ok-get.field-0.now ≡ get_or es i c.in_ok-get.field-0.now = c.in_ok-get.ensures.lookup in
    let same : c.in_ok-early.early.height ≡ c.args.height = ap height_of (here ∙ get_or_default es i _ _ lt ∙ sym looked) ∙ c.if-branch-height.false in
    rw (← c.self.view_is, c.in_ok-early.ensures.items) (first_is c.args.height es i at c.in_ok-early.early c.in_ok-early.early.frame lt (sym here ∙ ap (λ h. early h c.in_ok-early.early.frame) same))
