use Rattle.std.proofs.Common.{◌≡◌, ℕ, ◌∙◌, ap, Some}
use Rattle.authenticators.specs.Ring.{tags_of}
use Rattle.protocol.specs.Messages.{OfVote, precommit, tagged}
use Rattle.frame_admission.proofs.Keys.{tags_made}
use Rattle.frame_admission.proofs.own_frames.own_tags.Goals as goal

pub returns : goal.returns
returns c = λ s p h.
    let vote = λ (sender : ℕ). OfVote (precommit c.args.height c.args.round sender (Some c.args.id)) in
    let mine : c.in-Validator.sender ≡ p = cc (c.in-Validator.ensures, h.me) in
    c.from_vec.ensures ∙ c.in_ok-tag_all.ensures.tags ∙ ap (tags_of c.args.ring.now) (c.deref.ensures.value ∙ c.in_ok-bytes.ensures.spelled)
    ∙ tags_made s p c.args.ring.now h (vote c.in-Validator.sender) c.in-Validator.ensures ∙ ap (λ sender. (tagged s (vote sender)).tags) mine
