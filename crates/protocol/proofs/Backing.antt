-- Votes of journals in the words of the lemmas on locks: what more votes leave standing, and that a quorum of kept votes is one of journals.
use Rattle.std.proofs.Common.{◌≡◌, ℕ, true, false, ◌&&◌, inl, inr, List, [], ◌∷◌, ◌++◌, refl, sym, subst, Option, Some, None, eqb-true}
use Rattle.std.specs.Prelude.{◌==◌}
use Rattle.std.proofs.lemmas.Bool.{and_parts}
use Rattle.powers.specs.Power.{is_quorum}
use Rattle.messages.proofs.Equality.{content_eq_decides}
use Rattle.protocol.specs.Values.{Id, id}
use Rattle.protocol.specs.Tags.{Setting}
use Rattle.protocol.specs.Messages.{◌∈◌, Step, Propose, Prevote, Precommit, step_eq, step_of, step_of_vote, content_eq, Record, Own, Decided, Vote, Body}
use Rattle.protocol.specs.Tally.{power_for, senders, is_vote, is_vote_for}
use Rattle.protocol.specs.State.{State, Node}
use Rattle.protocol.specs.Restart.{votes_in}
use Rattle.protocol.specs.Premises.{Honesty, IsCorrect}
use Rattle.protocol.proofs.Membership.{in_append, any_found}
use Rattle.protocol.proofs.Locking.{History, Mark, mark, Supported, Reason}
use Rattle.protocol.proofs.Marks.{content_of, vote_mark, marks_of}

pub step_same : (a b : Step) → step_eq a b ≡ true → a ≡ b
step_same Propose Propose e = refl
step_same Prevote Prevote e = refl
step_same Precommit Precommit e = refl
step_same Propose Prevote e = absurd (let k : false ≡ true = e in cc)
step_same Propose Precommit e = absurd (let k : false ≡ true = e in cc)
step_same Prevote Propose e = absurd (let k : false ≡ true = e in cc)
step_same Prevote Precommit e = absurd (let k : false ≡ true = e in cc)
step_same Precommit Propose e = absurd (let k : false ≡ true = e in cc)
step_same Precommit Prevote e = absurd (let k : false ≡ true = e in cc)

-- what a vote that counts is of
pub record Counts (round : ℕ) (step : Step) (content : Option Id) (i : ℕ) (v : Vote) : Type 0 where
  pub round_is : v.round ≡ round
  pub step_is : step_of_vote v.step ≡ step
  pub content_is : v.content ≡ content
  pub sender_is : v.sender ≡ i

pub counts : (round : ℕ) (step : Step) (content : Option Id) (i : ℕ) (v : Vote) → is_vote_for round step content v && (v.sender == i) ≡ true → Counts round step content i v
counts round step content i v e =
    let a = and_parts (is_vote_for round step content v) (v.sender == i) e in
    let b = and_parts (is_vote round step v) (content_eq v.content content) a.0 in
    let d = and_parts (v.round == round) (step_eq (step_of_vote v.step) step) b.0 in
    record { round_is = eqb-true v.round round d.0; step_is = step_same (step_of_vote v.step) step d.1; content_is = (content_eq_decides v.content content).0 b.1; sender_is = eqb-true v.sender i a.1 }

module _ (c : Setting) (h : Honesty) where
  -- ---- more marks keep what the earlier ones supported

  abbrev pub Marks : Type 0
  Marks = ℕ → List Mark

  abbrev pub history : Marks → History
  history marks = record { powers = c.powers; liars = h.liars; marks = marks }

  abbrev pub Extends : Marks → Marks → Type 0
  Extends old new = (i : ℕ) (m : Mark) → m ∈ old i → m ∈ new i

  pub supported_more : (old new : Marks) → Extends old new → (step : Step) (height round : ℕ) (x : Id) → Supported (history old) step height round x → Supported (history new) step height round x
  supported_more old new more step height round x s = record { members = s.members; enough = s.enough; voted = λ i a b d. more i _ (s.voted i a b d) }

  reason_more : (old new : Marks) → Extends old new → (step : Step) (height round : ℕ) (x : Option Id) (e : List Mark) → Reason (history old) step height round x e → Reason (history new) step height round x e
  reason_more old new more Propose height round x e r = tt
  reason_more old new more Prevote height round None e r = tt
  reason_more old new more Prevote height round (Some x) e (inl k) = inl k
  reason_more old new more Prevote height round (Some x) e (inr k) = inr (record { valid_round = k.valid_round; below = k.below; quorum = supported_more old new more _ _ _ _ k.quorum; allowed = k.allowed })
  reason_more old new more Precommit height round None e r = tt
  reason_more old new more Precommit height round (Some x) e r = supported_more old new more _ _ _ _ r

  -- each own message of a journal has its reason, and each decision its quorum
  abbrev pub IsBacked : History → List Record → Type 0
  IsBacked hs [] = Unit {0}
  IsBacked hs (Own h r act ∷ rest) = Reason hs (step_of act) h r (content_of act) (marks_of rest) × IsBacked hs rest
  IsBacked hs (Decided b ∷ rest) = Supported hs Precommit b.height b.round (id b.value) × IsBacked hs rest

  pub backed_more : (old new : Marks) → Extends old new → (j : List Record) → IsBacked (history old) j → IsBacked (history new) j
  backed_more old new more [] b = tt
  backed_more old new more (Own h r act ∷ rest) b = (reason_more old new more (step_of act) h r (content_of act) (marks_of rest) b.0, backed_more old new more rest b.1)
  backed_more old new more (Decided d ∷ rest) b = (supported_more old new more _ _ _ _ b.0, backed_more old new more rest b.1)

  -- ---- votes

  -- a vote that a correct validator sent is in its journal
  abbrev pub IsCovered : Marks → Vote → Type 0
  IsCovered marks v = IsCorrect c h v.sender → vote_mark v ∈ marks v.sender

  -- so is the one of a body
  abbrev pub IsBodyCovered : Marks → Body → Type 0
  IsBodyCovered marks b = (v : Vote) → v ∈ votes_in b → IsCovered marks v

  pub covered_more : (old new : Marks) → Extends old new → (v : Vote) → IsCovered old v → IsCovered new v
  covered_more old new more v k = λ ok. more v.sender (vote_mark v) (k ok)

  -- kept votes are of the height, and covered
  pub record KeepsWell (marks : Marks) (height : ℕ) (votes : List Vote) : Type 0 where
    pub covered : (v : Vote) → v ∈ votes → IsCovered marks v
    pub of_height : (v : Vote) → v ∈ votes → v.height ≡ height

  pub keeps_none : (marks : Marks) (height : ℕ) → KeepsWell marks height []
  keeps_none marks height = record { covered = λ v i. absurd i; of_height = λ v i. absurd i }

  pub keeps_more : (old new : Marks) → Extends old new → (height : ℕ) (votes : List Vote) → KeepsWell old height votes → KeepsWell new height votes
  keeps_more old new more height votes k = record { covered = λ v i. covered_more old new more v (k.covered v i); of_height = k.of_height }

  pub keeps_joined : (marks : Marks) (height : ℕ) (votes others : List Vote) → KeepsWell marks height votes → KeepsWell marks height others → KeepsWell marks height (votes ++ others)
  keeps_joined marks height votes others k l = record {
    covered = λ v i. elim (in_append v votes others i) [ inl a ↦ k.covered v a | inr a ↦ l.covered v a ];
    of_height = λ v i. elim (in_append v votes others i) [ inl a ↦ k.of_height v a | inr a ↦ l.of_height v a ];
  }

  abbrev pub marks_in : (ℕ → Node) → Marks
  marks_in nodes i = marks_of (nodes i).journal

  -- ---- a quorum of kept votes

  vote_marked : (marks : Marks) (height round : ℕ) (step : Step) (x : Option Id) (i : ℕ) (v : Vote) → IsCovered marks v → v.height ≡ height → Counts round step x i v → IsCorrect c h i → mark step height round x ∈ marks i
  vote_marked marks height round step x i v cov hei k ok =
      let same : vote_mark v ≡ mark step height round x = cc (hei, k.round_is, k.step_is, k.content_is) in
      let there : vote_mark v ∈ marks v.sender = cov (subst (λ n. IsCorrect c h n) (sym k.sender_is) ok) in
      subst (λ (n : Mark). n ∈ marks i) same (subst (λ n. vote_mark v ∈ marks n) k.sender_is there)

  pub kept_quorum : (marks : Marks) (s : State) → KeepsWell marks s.height s.votes → (round : ℕ) (step : Step) (x : Id) → is_quorum c.powers (power_for c.powers s.votes round step (Some x)) ≡ true → Supported (history marks) step s.height round x
  kept_quorum marks s k round step x q = record {
    members = senders s.votes (is_vote_for round step (Some x));
    enough = q;
    voted = λ i a b d. let f = any_found (λ (v : Vote). is_vote_for round step (Some x) v && (v.sender == i)) s.votes b in
        vote_marked marks s.height round step (Some x) i f.0 (k.covered f.0 f.1) (k.of_height f.0 f.1) (counts round step (Some x) i f.0 f.2) (a, d);
  }
