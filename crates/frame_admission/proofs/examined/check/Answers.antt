use Rattle.frame_admission.proofs.Causes.{tx_checked}
use Rattle.frame_admission.proofs.examined.check.Goals as goal

pub returns-in-Tx-clause-checked : goal.returns-in-Tx-clause-checked
returns-in-Tx-clause-checked c = λ s p h.
    let m = c.args.message.now in
    let verdict = rw (c.requires.bytes, c.sender_of-sender.ensures, c.as_slice.ensures) at (c.check_found-verdict.ensures s p h) in
    tx_checked s p m m.body c.in-Tx.field-0 c.check_found-verdict.result c.is_ok.result c.in-Tx.is verdict c.is_ok.ensures.value
