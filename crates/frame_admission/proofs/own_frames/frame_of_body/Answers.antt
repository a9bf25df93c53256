use Rattle.std.proofs.Common.{◌∙◌, ap}
use Rattle.authenticators.specs.Ring.{tags_of}
use Rattle.protocol.specs.Messages.{tagged}
use Rattle.frame_admission.proofs.Keys.{tags_made}
use Rattle.frame_admission.proofs.own_frames.frame_of_body.Goals as goal

pub returns : goal.returns
unfolding tagged
returns g c = λ s p b h own spelled. c.frame_of.ensures (tagged s b) spelled
    (c.deref.ensures.value ∙ c.in_ok-tags.ensures.tags ∙ ap (tags_of c.args.ring.now) spelled ∙ tags_made s p c.args.ring.now h b own)
