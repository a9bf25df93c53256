use Rattle.std.proofs.Common.{◌≡◌, refl, sym, ap, subst, ◌∙◌}
use Rattle.authenticators.specs.Ring.{tags_of}
use Rattle.messages.specs.Framing.{SpellsFrame}
use Rattle.messages.specs.Grammar.{body_spelling}
use Rattle.client_program.proofs.Memory.{no_memory}
use Rattle.client_program.proofs.framing.frame_with.Goals as goal

pub returns-in-Err-clause-only : goal.returns-in-Err-clause-only
returns-in-Err-clause-only c = λ bytes spells. c.failure_of.ensures (no_memory c.in-Err.fault (body_spelling c.args.body) (c.in-Err.ensures.only (body_spelling c.args.body) (record { lawful = spells.lawful.body; same = refl })))

pub returns-clause-only : goal.returns-clause-only
returns-clause-only c = λ bytes spells.
    let spelled : c.deref.result.now ≡ body_spelling c.args.body = c.deref.ensures.value ∙ c.in-Ok.ensures.ok.same in
    let tags : c.from_vec-tags.result ≡ tags_of c.args.ring.now (body_spelling c.args.body) =
    c.from_vec-tags.ensures ∙ c.in-Ok-tag_all.ensures.tags ∙ ap (λ b. tags_of c.args.ring.now b) spelled in
    c.failure_of-in-Err-spell.ensures (no_memory c.in-Err-spell.fault bytes (c.in-Err-spell.ensures.only bytes
    (subst (λ it. SpellsFrame bytes (record { body = c.args.body; tags = it })) (sym tags) spells)))
