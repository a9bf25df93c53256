use Rattle.std.proofs.Common.{◌≡◌, ◌∙◌, Some}
use Rattle.protocol.specs.Tags.{Validator}
use Rattle.height_catchup.proofs.Finding.{same_test}
use Rattle.height_catchup.proofs.vouching.Wanted.of.Goals as goal

pub returns : goal.returns
returns c c' p ring within =
    let known : Some c.in-Some.key.now ≡ Some (c'.key (Validator c.args.validator) p) = c.in-Some.ensures ∙ ring.from_validators c.args.validator within in
    let mine : Validator c.in-Validator.me ≡ Validator p = c.in-Validator.ensures ∙ ring.me in
    same_test c' p c.args.bundle.now c.args.validator c.count.result c.in-Validator.me c.in-Some.key.now c.in_ok-spelling.field-0.items
    (c.count.ensures.count ∙ ring.count) (cc) (cc) c.in_ok-spelling.ensures
