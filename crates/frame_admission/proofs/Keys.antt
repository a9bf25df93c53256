-- Whom a ring knows, and the tags that it makes.
use Rattle.std.proofs.Common.{◌≡◌, ℕ, Bool, cond, not, List, length, Some, None, refl, sym, ◌∙◌, inl, inr, arith}
use Rattle.std.proofs.lemmas.Bool.{cases_lt, lt-ltb, le-ltb}
use Rattle.std.proofs.lemmas.Option.{cond_some}
use Rattle.std.proofs.lemmas.Simd.{map-map}
use Rattle.authenticators.specs.Ring.{Ring, IsWhole, incoming, tags_of}
use Rattle.authenticators.specs.Tags.{hmac, is_right}
use Rattle.messages.specs.Grammar.{body_spelling}
use Rattle.protocol.specs.Tags.{Setting, Party, Validator, Client, right}
use Rattle.protocol.specs.Messages.{Body, sender_of, below, tagged}
use Rattle.protocol.specs.Rings.{IsRingOf}
use Rattle.protocol.specs.Refusals.{first_cause, is_known, BadTag}
use Rattle.frame_admission.specs.Gate.{tag_causes}

module _ (c : Setting) (p : ℕ) (ring : Ring) (h : IsRingOf c p ring) where
  -- the key of a known sender
  keys : IsWhole ring → (sender : Party) → incoming ring sender ≡ cond (is_known c sender) (Some (c.key sender p)) None
  keys whole (Validator i) = elim (cases_lt i (length c.powers)) [
    | inl below ↦ rw (lt-ltb i (length c.powers) below) (h.from_validators i below)
    | inr past ↦ rw (le-ltb i (length c.powers) past) (whole.no_further i (omega (arith, h.count)))
  ]
  keys whole (Client i) = h.from_clients i

  -- what a known sender's tags are judged by
  pub known_sender : (me : ℕ) (sender : Party) (key bytes : List ℕ) (tags : List (List ℕ)) (answer : Bool) → IsWhole ring → Validator me ≡ ring.me → Some key ≡ incoming ring sender
      → answer ≡ is_right ring.count key me bytes tags → first_cause (tag_causes c p sender bytes tags) ≡ cond (not answer) (Some BadTag) None
  unfolding right
  known_sender me sender key bytes tags answer whole own e is =
      let found = cond_some (is_known c sender) (c.key sender p) key (sym (e ∙ keys whole sender)) in
      let mine : me ≡ p = cc (own, h.me) in
      rw (is, found.0, found.1, h.count, mine) refl

  -- the tags that the ring's party makes are those of the setting
  pub tags_made : (b : Body) → sender_of b ≡ ring.me → tags_of ring (body_spelling b) ≡ (tagged c b).tags
  unfolding tagged
  tags_made b own = rw (own, h.me, h.to_validators) (map-map (λ key. hmac key (body_spelling b)) (c.key (Validator p)) (below (length c.powers)))
