-- Tags, one validator after the other.
use Rattle.std.proofs.Common.{◌≡◌, ℕ, ◌+◌, List, [], ◌∷◌, ◌++◌, length, add-one, refl, Option, None, map, ap, ◌∙◌}
use Rattle.std.proofs.lemmas.List.{map_push}
use Rattle.messages.specs.Grammar.{body_spelling}
use Rattle.protocol.specs.Tags.{Party, hmac}
use Rattle.protocol.specs.Messages.{Body, Message, below, sender_of, tagged}
use Rattle.world_parties.specs.Keys.{key_between, setting, tag_for, tags_for}

pub tags_none : (right : Option (List ℕ)) (from : Party) (body : List ℕ) → tags_for right from 0 body ≡ []
unfolding below
tags_none right from body = refl

pub tags_more : (right : Option (List ℕ)) (from : Party) (n : ℕ) (body : List ℕ) → tags_for right from (n + 1) body ≡ tags_for right from n body ++ tag_for right from body n ∷ []
unfolding below
tags_more right from n body = rw add-one (map_push (tag_for right from body) (below n) n)

-- right tags for everyone
pub tagged_by : (powers : List ℕ) (clients : ℕ) (body : Body) (from : Party) (tags : List (List ℕ)) → sender_of body ≡ from
    → tags ≡ tags_for None from (length powers) (body_spelling body) → let m : Message = record { body = body; tags = tags } in m ≡ tagged (setting powers clients) body
unfolding tagged
tagged_by powers clients body from tags sender e = rw (e, ← sender) refl

-- ---- keys that are kept

pub no_keys : (from : Party) → map (key_between from) (below 0) ≡ []
unfolding below
no_keys from = refl

pub more_keys : (from : Party) (n : ℕ) → map (key_between from) (below (n + 1)) ≡ map (key_between from) (below n) ++ key_between from n ∷ []
unfolding below
more_keys from n = rw add-one (map_push (key_between from) (below n) n)

-- the tags under the keys are the right ones
under_keys : (from : Party) (body : List ℕ) (places : List ℕ) → map (λ (key : List ℕ). hmac key body) (map (key_between from) places) ≡ map (tag_for None from body) places
under_keys from body [] = refl
under_keys from body (q ∷ places) = ap (λ (rest : List (List ℕ)). hmac (key_between from q) body ∷ rest) (under_keys from body places)

pub tags_by_keys : (from : Party) (keys : List (List ℕ)) (body : List ℕ) → keys ≡ map (key_between from) (below (length keys)) → map (λ (key : List ℕ). hmac key body) keys ≡ tags_for None from (length keys) body
tags_by_keys from keys body is = ap (map (λ (key : List ℕ). hmac key body)) is ∙ under_keys from body (below (length keys))
