-- A validator's own votes, kept or released, are in its journal.
use Rattle.std.proofs.Common.{◌≡◌, ℕ, inl, inr, List, [], ◌∷◌, ◌++◌, refl, sym, ◌∙◌, ap, subst, Option, Some, None, flat_map, append-nil, option_to_list}
use Rattle.protocol.specs.Tags.{Setting}
use Rattle.protocol.specs.Messages.{◌∈◌, Act, Proposing, Prevoting, Precommitting, Record, Own, Decided, Vote, Body, OfTx, OfProposal, OfVote, OfAsk, OfBundle, body_of, own_body}
use Rattle.protocol.specs.State.{State}
use Rattle.protocol.specs.Rules.{keeping, keeping_own, released_by}
use Rattle.protocol.specs.Restart.{height_of, own_since, votes_in}
use Rattle.protocol.specs.Premises.{Honesty}
use Rattle.protocol.specs.Laws.{Grows}
use Rattle.protocol.proofs.Membership.{in_append, in_flat_map}
use Rattle.protocol.proofs.Locking.{Mark}
use Rattle.protocol.proofs.Marks.{vote_mark, marks_of}
use Rattle.protocol.proofs.Backing.{Marks, Extends, IsCovered, IsBodyCovered, KeepsWell, keeps_more, keeps_joined, keeps_none}
use Rattle.protocol.proofs.Reasons.{HasReason}

-- ---- what a firing keeps

pub keeping_votes : (s : State) (b : Body) → (keeping s b).votes ≡ s.votes ++ votes_in b
keeping_votes s (OfVote v) = refl
keeping_votes s (OfProposal q) = sym (append-nil s.votes)
keeping_votes s (OfTx t) = sym (append-nil s.votes)
keeping_votes s (OfAsk a) = sym (append-nil s.votes)
keeping_votes s (OfBundle b) = sym (append-nil s.votes)

pub keeping_height : (s : State) (b : Body) → (keeping s b).height ≡ s.height
keeping_height s (OfVote v) = refl
keeping_height s (OfProposal q) = refl
keeping_height s (OfTx t) = refl
keeping_height s (OfAsk a) = refl
keeping_height s (OfBundle b) = refl

-- ---- own votes

-- of this height and sender, and in the journal
pub record IsOwnVote (p height : ℕ) (j : List Record) (v : Vote) : Type 0 where
  pub sender : v.sender ≡ p
  pub of_height : v.height ≡ height
  pub saved : vote_mark v ∈ marks_of j

newest_own : (p height round : ℕ) (act : Act) (j : List Record) (v : Vote) → v ∈ votes_in (body_of p height round act) → IsOwnVote p height (Own height round act ∷ j) v
newest_own p height round (Proposing r u) j v i = absurd i
newest_own p height round (Prevoting x) j v (inl e) = record { sender = ap (λ (u : Vote). u.sender) e; of_height = ap (λ (u : Vote). u.height) e; saved = inl (ap vote_mark e) }
newest_own p height round (Prevoting x) j v (inr e) = absurd e
newest_own p height round (Precommitting x) j v (inl e) = record { sender = ap (λ (u : Vote). u.sender) e; of_height = ap (λ (u : Vote). u.height) e; saved = inl (ap vote_mark e) }
newest_own p height round (Precommitting x) j v (inr e) = absurd e

older_mark : (r : Record) (j : List Record) (m : Mark) → m ∈ marks_of j → m ∈ marks_of (r ∷ j)
older_mark (Own h r act) j m k = inr k
older_mark (Decided b) j m k = k

older_own : (p height : ℕ) (r : Record) (j : List Record) (v : Vote) → IsOwnVote p height j v → IsOwnVote p height (r ∷ j) v
older_own p height r j v k = record { sender = k.sender; of_height = k.of_height; saved = older_mark r j (vote_mark v) k.saved }

-- those since the last decision
body_own : (p : ℕ) (j : List Record) → Grows j → (b : Body) → b ∈ own_since p j → (v : Vote) → v ∈ votes_in b → IsOwnVote p (height_of j) j v
body_own p [] g b k v i = absurd k
body_own p (Decided d ∷ j) g b k v i = absurd k
body_own p (Own h r act ∷ j) g b k v i = elim (in_append b (own_since p j) (body_of p h r act ∷ []) k) [
  | inl l ↦ older_own p (height_of j) (Own h r act) j v (body_own p j g.2 b l v i)
  | inr (inl l) ↦ subst (λ n. IsOwnVote p n (Own h r act ∷ j) v) g.0 (newest_own p h r act j v (subst (λ a. v ∈ votes_in a) l i))
  | inr (inr l) ↦ absurd l
]

-- the vote of a saved record
pub saved_mark : (p : ℕ) (r : Record) (j : List Record) (v : Vote) → r ∈ j → own_body p r ≡ Some (OfVote v) → vote_mark v ∈ marks_of j
saved_mark p r [] v k e = absurd k
saved_mark p (Own h round act) (x ∷ j) v (inl k) e =
    let same : OfVote v ≡ body_of p h round act = cc in
    subst (λ (y : Record). vote_mark v ∈ marks_of (y ∷ j)) k (newest_own p h round act j v (subst (λ a. v ∈ votes_in a) same (inl refl))).saved
saved_mark p (Decided d) (x ∷ j) v (inl k) e = absurd (let none : None ≡ Some (OfVote v) = e in cc)
saved_mark p r (x ∷ j) v (inr k) e = older_mark x j (vote_mark v) (saved_mark p r j v k e)

module _ (c : Setting) (h : Honesty) where
  own_covered : (new : Marks c h) (p height : ℕ) (j : List Record) → ((m : Mark) → m ∈ marks_of j → m ∈ new p) → (v : Vote) → IsOwnVote p height j v → IsCovered c h new v
  own_covered new p height j has v k = λ _. subst (λ q. vote_mark v ∈ new q) (sym k.sender) (has (vote_mark v) k.saved)

  -- what is sent again
  pub since_covered : (new : Marks c h) (p : ℕ) (j : List Record) → Grows j → ((m : Mark) → m ∈ marks_of j → m ∈ new p) → (b : Body) → b ∈ own_since p j → IsBodyCovered c h new b
  since_covered new p j g has b k v i = own_covered new p (height_of j) j has v (body_own p j g b k v i)

  -- what a restart keeps
  pub since_keeps : (new : Marks c h) (p : ℕ) (j : List Record) → Grows j → ((m : Mark) → m ∈ marks_of j → m ∈ new p) → KeepsWell c h new (height_of j) (flat_map votes_in (own_since p j))
  since_keeps new p j g has = record {
    covered = λ v i. let f = in_flat_map votes_in v (own_since p j) i in own_covered new p (height_of j) j has v (body_own p j g f.0 f.1 v f.2);
    of_height = λ v i. let f = in_flat_map votes_in v (own_since p j) i in (body_own p j g f.0 f.1 v f.2).of_height;
  }

  -- what a firing keeps
  pub fired_keeps : (old new : Marks c h) (p : ℕ) (s t : State) (j : List Record) (o : Option Record) → HasReason c h old s j t o → KeepsWell c h old s.height s.votes → Extends c h old new → ((m : Mark) → m ∈ marks_of (option_to_list o ++ j) → m ∈ new p)
      → KeepsWell c h new (keeping_own t (released_by p o)).height (keeping_own t (released_by p o)).votes
  fired_keeps old new p s t j None r k more has = subst (KeepsWell c h new t.height) (sym r.0) (subst (λ a. KeepsWell c h new a s.votes) (sym r.1) (keeps_more c h old new more s.height s.votes k))
  fired_keeps old new p s t j (Some (Own height round act)) r k more has =
      let b = body_of p height round act in
      let before : KeepsWell c h new t.height t.votes = subst (KeepsWell c h new t.height) (sym r.0) (subst (λ a. KeepsWell c h new a s.votes) (sym r.1) (keeps_more c h old new more s.height s.votes k)) in
      let one : KeepsWell c h new height (votes_in b) = record {
        covered = λ v i. own_covered new p height (Own height round act ∷ j) has v (newest_own p height round act j v i);
        of_height = λ v i. (newest_own p height round act j v i).of_height;
      } in
      let joined : KeepsWell c h new t.height (t.votes ++ votes_in b) = keeps_joined c h new t.height t.votes (votes_in b) before (subst (λ a. KeepsWell c h new a (votes_in b)) (r.2 ∙ sym r.1) one) in
      subst (λ a. KeepsWell c h new a (keeping t b).votes) (sym (keeping_height t b)) (subst (KeepsWell c h new t.height) (sym (keeping_votes t b)) joined)
  fired_keeps old new p s t j (Some (Decided b)) r k more has = subst (KeepsWell c h new t.height) (sym r.0) (keeps_none c h new t.height)

  -- what a firing releases
  pub released_covered : (new : Marks c h) (p : ℕ) (o : Option Record) (j : List Record) → ((m : Mark) → m ∈ marks_of (option_to_list o ++ j) → m ∈ new p) → (b : Body) → b ∈ option_to_list (released_by p o) → IsBodyCovered c h new b
  released_covered new p None j has b k = absurd k
  released_covered new p (Some (Own height round act)) j has b (inl k) = λ v i. own_covered new p height (Own height round act ∷ j) has v (newest_own p height round act j v (subst (λ a. v ∈ votes_in a) k i))
  released_covered new p (Some (Own height round act)) j has b (inr k) = absurd k
  released_covered new p (Some (Decided d)) j has b k = absurd k
