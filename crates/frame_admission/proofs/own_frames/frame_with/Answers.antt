use Rattle.std.proofs.Common.{◌∙◌}
use Rattle.frame_admission.proofs.own_frames.frame_with.Goals as goal

pub returns : goal.returns
returns g c = λ s p h. c.frame_of_body.ensures s p c.args.body.now h c.requires.own (c.deref.ensures.value ∙ c.in_ok-bytes.ensures.spelled)
