use Rattle.std.proofs.Common.{◌≡◌, Ok, sym, ap, subst, ◌∙◌}
use Rattle.protocol.specs.Tags.{tx_is_right}
use Rattle.protocol.specs.Refusals.{tagged_tx}
use Rattle.frame_admission.specs.declared.examined.Found.TheVariants as founds
use Rattle.frame_admission.specs.Gate.{admission}
use Rattle.frame_admission.specs.Examined.{IsLetIn, found_of}
use Rattle.part_tests.proofs.tests.examined.queued.Goals as goal

pub submit_found-requires : goal.submit_found-requires
submit_found-requires g c = λ s p ring.
    let m = c.expect-let_in.result.message in
    let here : IsLetIn s p (admission s p c.args.frame.now) (Ok c.expect-let_in.result) = subst (IsLetIn s p (admission s p c.args.frame.now)) c.expect-let_in.ensures (c.let_in.ensures s p ring) in
    let same : founds.Tx c.in-Tx-Tx.is_right ≡ found_of s p m m.body = sym c.in-Tx-Tx.is-1 ∙ here.1 in
    let found : founds.Tx c.in-Tx-Tx.is_right ≡ founds.Tx (tx_is_right s p (tagged_tx c.in-Tx-Tx.tx m)) = same ∙ ap (found_of s p m) c.in-Tx-Tx.is-0 in
    cc
