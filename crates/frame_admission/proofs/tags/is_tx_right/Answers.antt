use Rattle.std.proofs.Common.{◌∙◌}
use Rattle.frame_admission.proofs.Causes.{tx_verdict}
use Rattle.frame_admission.proofs.tags.is_tx_right.Goals as goal

pub returns : goal.returns
returns c = λ s p h. c.is_ok.ensures.value ∙ tx_verdict s p c.args.tx.now c.check_tags.result (rw (c.requires, c.as_slice.ensures) at (c.check_tags.ensures s p h))
