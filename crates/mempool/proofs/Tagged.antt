-- The tag of a transaction, under the key that the ring has of its client.
use Rattle.std.proofs.Common.{◌≡◌, ℕ, Bool, true, false, cond, ◌&&◌, List, Some, None, refl, sym, ◌∙◌}
use Rattle.authenticators.specs.Ring.{Ring, incoming}
use Rattle.transactions.specs.Grammar.{tx_body_spelling}
use Rattle.protocol.specs.Tags.{Setting, Validator, Client, is_right, right, tx_is_right}
use Rattle.protocol.specs.Rings.{IsRingOf}
use Rattle.protocol.specs.Values.{Tx}

known_key : (known : Bool) (k key : List ℕ) → Some k ≡ cond known (Some key) None → (known ≡ true) × (k ≡ key)
known_key true k key e = (refl, cc)
known_key false k key e = absurd (cc)

same_validator : (a b : ℕ) → Validator a ≡ Validator b → a ≡ b
same_validator a b e = cc

pub tagged_by_known : (c : Setting) (p me : ℕ) (ring : Ring) (key : List ℕ) (t : Tx) → IsRingOf c p ring → incoming ring (Client t.client) ≡ Some key → ring.me ≡ Validator me
    → is_right ring.count key me (tx_body_spelling t) t.tags ≡ tx_is_right c p t
unfolding tx_is_right right
tagged_by_known c p me ring key t is known mine =
    let k = known_key (c.clients t.client) key (c.key (Client t.client) p) (sym known ∙ is.from_clients t.client) in
    let same : me ≡ p = same_validator me p (sym mine ∙ is.me) in
    rw (is.count, k.0, k.1, same) refl

no_key : (known : Bool) (key : List ℕ) → None ≡ cond known (Some key) None → known ≡ false
no_key true key e = absurd (cc)
no_key false key e = refl

pub untagged_by_unknown : (c : Setting) (p : ℕ) (ring : Ring) (t : Tx) → IsRingOf c p ring → incoming ring (Client t.client) ≡ None → tx_is_right c p t ≡ false
unfolding tx_is_right
untagged_by_unknown c p ring t is none = rw (no_key (c.clients t.client) (c.key (Client t.client) p) (sym none ∙ is.from_clients t.client)) refl

both : (a b : Bool) → (a && b) ≡ true → a ≡ true
both true b e = refl
both false b e = absurd (cc)

-- the client of a transaction with a right tag is known
pub known_by_right : (c : Setting) (p : ℕ) (t : Tx) → tx_is_right c p t ≡ true → c.clients t.client ≡ true
unfolding tx_is_right
known_by_right c p t is = both (c.clients t.client) (right c p (Client t.client) (tx_body_spelling t) t.tags) is
