use Rattle.std.proofs.Common.{◌∙◌, sym, None}
use Rattle.std.proofs.lemmas.List.{get_or-replicate}
use Rattle.round_states.proofs.Certificates.{first_noted, first_same}
use Rattle.round_states.proofs.certificate.first_stamps.Goals as goal
use Rattle.round_states.proofs.certificate.first_stamps.Goals.{then-is_of, else-is_of}

pub loop-place-init : goal.loop-place-init
loop-place-init c = λ i lt. get_or-replicate 128 i None None lt

pub loop-place-preserved : goal.loop-place-preserved
loop-place-preserved c = λ i lt.
    let stamp = c.index-stamps-place.result in
    let old = c.loop-place.invariant i lt in
    elim c.if-is_of.branch [
      | then-is_of w ↦ rw w.firsts-is (w.note.ensures i lt ∙ first_noted c.args.round i c.loop-place.place c.args.id c.args.stamps.now stamp _ c.loop-place-test.true c.index-stamps-place.is (sym c.is_of.ensures ∙ w.if-is_of.true) old)
      | else-is_of w ↦ rw w.firsts-is (first_same c.args.round i c.loop-place.place c.args.id c.args.stamps.now stamp _ c.loop-place-test.true c.index-stamps-place.is (sym c.is_of.ensures ∙ w.if-is_of.false) old)
    ]
