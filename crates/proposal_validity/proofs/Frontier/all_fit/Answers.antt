use Rattle.std.proofs.Common.{◌≡◌, ◌≤◌, true, false, length, length-set, refl, sym, ◌∙◌, ap, subst, arith}
use Rattle.std.specs.Prelude.{take}
use Rattle.transactions.specs.Grammar.{IsTx}
use Rattle.protocol.specs.Values.{item, fits}
use Rattle.proposal_validity.specs.Standing.{Standing, standing}
use Rattle.proposal_validity.specs.Course.{after, items_of}
use Rattle.proposal_validity.proofs.Follows.{all_fit_more, all_fit_not}
use Rattle.proposal_validity.proofs.Places.{none_marked, marked, left_at_place, left_as_before}
use Rattle.proposal_validity.proofs.Frontier.all_fit.Goals as goal
use Rattle.proposal_validity.proofs.Frontier.all_fit.Goals.{in-Some, in-None}

pub loop-i-init : goal.loop-i-init
loop-i-init c = record { fits = refl; places = none_marked c.args.txs.now 1024; many = refl }

pub returns-then-not-admits : goal.returns-then-not-admits
returns-then-not-admits c =
    let txs = c.args.txs.now in
    let i = c.loop-i.i in
    let t = c.index-txs-i.result in
    let seen = items_of (take i txs) in
    let before = standing c.args.self.now t.client in
    let places = c.loop-i.invariant.places in
    let e : c.match-last_places-client.standing ≡ after t.client seen before = elim c.match-last_places-client.branch [
      | in-Some w ↦ w.standing-is ∙ w.left_by-standing.ensures ∙ sym (left_at_place txs i t.client c.loop-i.last_places w.in-Some.place places w.in-Some.is w.index-txs-place.result w.index-txs-place.is before)
      | in-None w ↦ w.standing-is ∙ w.standing-standing.ensures.standing ∙ sym (left_as_before txs i t.client c.loop-i.last_places places w.in-None.is before)
    ] in
    let f : fits (after t.client seen before) (item t) ≡ false = ap (λ (s : Standing). fits s (item t)) (sym e) ∙ sym c.admits.ensures ∙ c.if-not-admits.true in
    sym (all_fit_not txs i t c.loop-i-test.true c.index-txs-i.is (standing c.args.self.now) f)

pub loop-i-preserved : goal.loop-i-preserved
loop-i-preserved c =
    let txs = c.args.txs.now in
    let i = c.loop-i.i in
    let t = c.index-txs-i.result in
    let seen = items_of (take i txs) in
    let before = standing c.args.self.now t.client in
    let places = c.loop-i.invariant.places in
    let lt = c.loop-i-test.true in
    let e : c.match-last_places-client.standing ≡ after t.client seen before = elim c.match-last_places-client.branch [
      | in-Some w ↦ w.standing-is ∙ w.left_by-standing.ensures ∙ sym (left_at_place txs i t.client c.loop-i.last_places w.in-Some.place places w.in-Some.is w.index-txs-place.result w.index-txs-place.is before)
      | in-None w ↦ w.standing-is ∙ w.standing-standing.ensures.standing ∙ sym (left_as_before txs i t.client c.loop-i.last_places places w.in-None.is before)
    ] in
    let f : fits (after t.client seen before) (item t) ≡ true = ap (λ (s : Standing). fits s (item t)) (sym e) ∙ sym c.admits.ensures ∙ c.if-not-admits.false in
    let spelled : IsTx t = subst IsTx (sym c.index-txs-i.is) (c.requires.spelled i t lt) in
    let few : t.client ≤ 1023 = spelled.body.client in
    let many : length c.loop-i.last_places ≡ 1024 = c.loop-i.invariant.many in
    record {
      fits = all_fit_more txs i t lt c.index-txs-i.is (standing c.args.self.now) c.loop-i.invariant.fits f;
      places = marked txs i t lt c.index-txs-i.is c.loop-i.last_places (omega (arith, few, many)) places;
      many = simp length-set many;
    }
