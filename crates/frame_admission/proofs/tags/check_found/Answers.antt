use Rattle.std.proofs.Common.{refl, ◌∙◌}
use Rattle.frame_admission.proofs.Keys.{known_sender}
use Rattle.frame_admission.proofs.tags.check_found.Goals as goal

pub returns-then-not-is_right_found : goal.returns-then-not-is_right_found
returns-then-not-is_right_found c = λ s p h. known_sender s p c.args.ring.now h c.in-Validator.me c.args.sender c.in-Some.key.now c.args.bytes.now c.args.tags.now c.is_right_found.result c.count.ensures.whole c.in-Validator.ensures c.in-Some.ensures (rw (← c.count.ensures.count) c.is_right_found.ensures) ∙ (rw c.if-not-is_right_found.true refl)

pub returns : goal.returns
returns c = λ s p h. known_sender s p c.args.ring.now h c.in-Validator.me c.args.sender c.in-Some.key.now c.args.bytes.now c.args.tags.now c.is_right_found.result c.count.ensures.whole c.in-Validator.ensures c.in-Some.ensures (rw (← c.count.ensures.count) c.is_right_found.ensures) ∙ (rw c.if-not-is_right_found.false refl)
