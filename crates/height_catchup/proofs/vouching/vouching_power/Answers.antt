use Rattle.std.proofs.Common.{◌≡◌, ℕ, ◌<◌, inl, inr, ◌∙◌, sym, ap, refl, false, length, get_or, arith}
use Rattle.std.specs.Prelude.{is_some}
use Rattle.std.proofs.lemmas.Bool.{cases_eq}
use Rattle.std.proofs.lemmas.List.{length-set, get_or-set_same, get_or-set_other}
use Rattle.protocol.specs.Tags.{Setting}
use Rattle.protocol.specs.Rings.{IsRingOf}
use Rattle.protocol.specs.Refusals.{bundle_senders}
use Rattle.height_catchup.proofs.Finding.{same_some, vouches, power_same}
use Rattle.height_catchup.proofs.vouching.vouching_power.Goals as goal

-- what is marked
marked : (c : goal.After-from) (c' : Setting) (p : ℕ) → c'.powers ≡ c.args.powers.now → IsRingOf c' p c.args.ring.now → c.is_some.result ≡ bundle_senders c' p c.args.bundle.now c.loop-validator.validator
marked c c' p same ring =
    let within : c.loop-validator.validator < length c'.powers = rw same (omega arith) in
    c.is_some.ensures ∙ sym (same_some c.in_ok-right_precommit.field-0) ∙ ap is_some (c.in_ok-right_precommit.ensures c' p ring within) ∙ vouches c' p c.args.bundle.now c.loop-validator.validator

pub loop-validator-preserved : goal.loop-validator-preserved
loop-validator-preserved c = record {
  marks = λ c' p i same ring le. elim (cases_eq i c.from.result) [
    | inl here ↦ rw here (get_or-set_same c.loop-validator.marks c.from.result c.is_some.result false (omega arith) ∙ marked c c' p same ring ∙ ap (bundle_senders c' p c.args.bundle.now) (sym c.from.ensures))
    | inr other ↦ get_or-set_other c.loop-validator.marks c.from.result i c.is_some.result false other ∙ c.loop-validator.invariant.marks c' p i same ring (omega arith)
  ];
  len = length-set c.loop-validator.marks c.from.result c.is_some.result ∙ c.loop-validator.invariant.len;
}

pub returns : goal.returns
returns c c' p same ring =
    c.power_of_set.ensures.power (λ i. get_or c.loop-validator.marks i false) (λ i small. refl)
    ∙ power_same c.args.powers.now (λ i. get_or c.loop-validator.marks i false) (bundle_senders c' p c.args.bundle.now) (λ i within. c.loop-validator.invariant.marks c' p i same ring (omega arith))
