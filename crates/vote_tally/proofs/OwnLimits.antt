-- The answer to a validator's message depends on that validator's kept messages alone.
use Rattle.std.proofs.Common.{◌≡◌, ℕ, Bool, true, false, ◌&&◌, not, nat_le, ◌+◌, ap, sym, ◌∙◌, refl, List, [], ◌∷◌, eqb, length}
use Rattle.std.specs.List.{list_any, count_by, filter}
use Rattle.std.proofs.lemmas.List.Sums.{length-filter}
use Rattle.std.proofs.lemmas.Map.Views.{any-filter_same}
use Rattle.std.proofs.lemmas.Bool.{eq-eqb, and_parts}
use Rattle.messages.proofs.Equality.{vote_eq_decides, proposal_eq_decides}
use Rattle.protocol.specs.Messages.{Proposal, Vote, proposal_eq, vote_eq}
use Rattle.protocol.specs.Refusals.{is_full, has_two}
use Rattle.vote_tally.specs.Kept.{Kept}
use Rattle.vote_tally.specs.Faults.{vote_fault, proposal_fault, HasSameFrom, proposals_from, votes_from}

-- what passes a test is found among what passes a wider one
filter_at : {X : Type 0} (p q : X → Bool) (x : X) (xs : List X) (b c : Bool) → q x ≡ b → p x ≡ c → (c ≡ true → b ≡ true) → filter p (filter q xs) ≡ filter p xs → filter p (filter q (x ∷ xs)) ≡ filter p (x ∷ xs)
filter_at p q x xs true true e f wider ih = rw (e, f, ih) refl
filter_at p q x xs true false e f wider ih = rw (e, f) ih
filter_at p q x xs false true e f wider ih = absurd (let h : false ≡ true = wider refl in cc)
filter_at p q x xs false false e f wider ih = rw (e, f) ih

filter_within : {X : Type 0} (p q : X → Bool) → ((x : X) → p x ≡ true → q x ≡ true) → (xs : List X) → filter p (filter q xs) ≡ filter p xs
filter_within p q wider [] = refl
filter_within p q wider (x ∷ xs) = filter_at p q x xs (q x) (p x) refl refl (wider x) (filter_within p q wider xs)

count_within : {X : Type 0} (p q : X → Bool) → ((x : X) → p x ≡ true → q x ≡ true) → (xs : List X) → count_by p (filter q xs) ≡ count_by p xs
count_within {X = X} p q wider xs = sym (length-filter p (filter q xs)) ∙ ap (λ (ys : List X). length ys) (filter_within p q wider xs) ∙ length-filter p xs

vote_eq_sender : (a b : Vote) → vote_eq a b ≡ true → eqb b.sender a.sender ≡ true
vote_eq_sender a b same = let e : a ≡ b = (vote_eq_decides a b).0 same in eq-eqb _ _ (ap (λ (v : Vote). v.sender) (sym e))

proposal_eq_sender : (a b : Proposal) → proposal_eq a b ≡ true → eqb b.sender a.sender ≡ true
proposal_eq_sender a b same = let e : a ≡ b = (proposal_eq_decides a b).0 same in eq-eqb _ _ (ap (λ (q : Proposal). q.sender) (sym e))

repeats : (v : Vote) (votes : List Vote) → list_any (vote_eq v) votes ≡ list_any (vote_eq v) (votes_from v.sender votes)
repeats v votes = sym (any-filter_same (vote_eq v) (λ (w : Vote). eqb w.sender v.sender) true (λ w e. vote_eq_sender v w e) votes)

repeats_proposal : (q : Proposal) (proposals : List Proposal) → list_any (proposal_eq q) proposals ≡ list_any (proposal_eq q) (proposals_from q.sender proposals)
repeats_proposal q proposals = sym (any-filter_same (proposal_eq q) (λ (w : Proposal). eqb w.sender q.sender) true (λ w e. proposal_eq_sender q w e) proposals)

full : (me i : ℕ) (proposals : List Proposal) (votes : List Vote) → is_full me proposals votes i ≡ (not (eqb i me) && nat_le 512 (length (proposals_from i proposals) + length (votes_from i votes)))
full me i proposals votes = rw (length-filter (λ (q : Proposal). eqb q.sender i) proposals, length-filter (λ (v : Vote). eqb v.sender i) votes) refl

two : (q : Proposal) (proposals : List Proposal) → has_two proposals q ≡ has_two (proposals_from q.sender proposals) q
two q proposals = ap (λ n. nat_le 2 n) (sym (count_within (λ (other : Proposal). eqb other.round q.round && eqb other.sender q.sender) (λ (other : Proposal). eqb other.sender q.sender) (λ other e. (and_parts _ _ e).1) proposals))

pub vote_law : (a b : Kept) (v : Vote) → HasSameFrom v.sender a b → vote_fault a v ≡ vote_fault b v
vote_law a b v same = rw (repeats v a.votes, repeats v b.votes, full a.me v.sender a.proposals a.votes, full b.me v.sender b.proposals b.votes, same.me, same.proposals, same.votes) refl

pub proposal_law : (a b : Kept) (q : Proposal) → HasSameFrom q.sender a b → proposal_fault a q ≡ proposal_fault b q
proposal_law a b q same = rw (repeats_proposal q a.proposals, repeats_proposal q b.proposals, full a.me q.sender a.proposals a.votes, full b.me q.sender b.proposals b.votes, two q a.proposals, two q b.proposals, same.me, same.proposals, same.votes) refl
