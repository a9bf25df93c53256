-- A message that comes, and a restart, leave a node with nothing of others but what it held and what came.
use Rattle.std.proofs.Common.{◌≡◌, ℕ, inl, inr, Bool, true, false, cond, List, [], ◌∷◌, ◌++◌, refl, sym, subst, Option, Some, None, Ok, option_to_list}
use Rattle.std.specs.Prelude.{◌==◌}
use Rattle.messages.specs.Framing.{message_of}
use Rattle.protocol.specs.Values.{Tx, Item, item}
use Rattle.protocol.specs.Tags.{Setting}
use Rattle.protocol.specs.Messages.{◌∈◌, Act, Record, Own, Decided, Proposal, Vote, Bundle, Body, OfTx, OfProposal, OfVote, OfAsk, OfBundle, Message, body_of, own_body}
use Rattle.protocol.specs.State.{Node, Rule, DecideByBundle}
use Rattle.protocol.specs.Rules.{holds, saved, changed}
use Rattle.protocol.specs.Restart.{restart, opened, own_since, proposals_in, votes_in}
use Rattle.protocol.specs.Queues.{pick}
use Rattle.protocol.specs.Refusals.{context, tagged_tx}
use Rattle.protocol.specs.Arrivals.{taken_in, bundles_of, replies}
use Rattle.protocol.specs.World.{Cut, InArrival, InFiring, is_bundles, cut_record}
use Rattle.protocol.specs.Laws.{Grows}
use Rattle.protocol.proofs.Membership.{in_append, in_flat_map, each_pushed}
use Rattle.protocol.proofs.Waiting.{queued_in}
use Rattle.protocol.proofs.Arrivals.{IsTaken, come_cases, try_cases}
use Rattle.protocol.proofs.Marks.{marks_of}
use Rattle.protocol.proofs.Covered.{since_keeps}
use Rattle.unforged_worlds.proofs.Held.{AreSent, IsHeld, RecordsHeld, NodeHeld, RuleHeld}
use Rattle.unforged_worlds.proofs.Fired.{OwnCast, joined_held, fired_saves}

-- ---- what a journal lets a node say

-- the body is that of an own message of the journal
pub record IsOwnOf (p : ℕ) (j : List Record) (b : Body) : Type 0 where
  pub height : ℕ
  pub round : ℕ
  pub act : Act
  pub there : Own height round act ∈ j
  pub is : b ≡ body_of p height round act

own_later : (p : ℕ) (r : Record) (j : List Record) (b : Body) → IsOwnOf p j b → IsOwnOf p (r ∷ j) b
own_later p r j b k = record { height = k.height; round = k.round; act = k.act; there = inr k.there; is = k.is }

pub since_own : (p : ℕ) (j : List Record) (b : Body) → b ∈ own_since p j → IsOwnOf p j b
since_own p [] b i = absurd i
since_own p (Decided d ∷ j) b i = absurd i
since_own p (Own height round act ∷ j) b i = elim (in_append b (own_since p j) (body_of p height round act ∷ []) i) [
  | inl l ↦ own_later p (Own height round act) j b (since_own p j b l)
  | inr (inl e) ↦ record { height = height; round = round; act = act; there = inl refl; is = e }
  | inr (inr none) ↦ absurd none
]

-- the bundles of a height are those of decisions
pub bundles_decided : (height : ℕ) (j : List Record) (b : Body) → b ∈ bundles_of height j → (d : Bundle) × (Decided d ∈ j) × (b ≡ OfBundle d)
bundles_decided height [] b i = absurd i
bundles_decided height (Own own_height round act ∷ j) b i = let k = bundles_decided height j b i in (k.0, inr k.1, k.2)
bundles_decided height (Decided d ∷ j) b i = at_test (d.height == height) (bundles_decided height j b) i
  where
    at_test : (t : Bool) → (b ∈ bundles_of height j → (e : Bundle) × (Decided e ∈ j) × (b ≡ OfBundle e)) → b ∈ cond t (OfBundle d ∷ bundles_of height j) (bundles_of height j) → (e : Bundle) × (Decided e ∈ (Decided d ∷ j)) × (b ≡ OfBundle e)
    at_test true rest (inl e) = (d, inl refl, e)
    at_test true rest (inr l) = let k = rest l in (k.0, inr k.1, k.2)
    at_test false rest l = let k = rest l in (k.0, inr k.1, k.2)

module _ (IsSent : Item → Type 0) (IsCast : Vote → Type 0) where
  pub own_held : (p : ℕ) (j : List Record) → RecordsHeld IsSent IsCast p j → (b : Body) → IsOwnOf p j b → IsHeld IsSent IsCast b
  own_held p j held b k = subst (IsHeld IsSent IsCast) (sym k.is) (held (Own k.height k.round k.act) k.there)

  -- ---- a restart

  of_proposal : (b : Body) → IsHeld IsSent IsCast b → (q : Proposal) → q ∈ proposals_in b → AreSent IsSent IsCast q.value.txs
  of_proposal (OfProposal u) k q (inl e) = subst (λ (a : Proposal). AreSent IsSent IsCast a.value.txs) (sym e) k
  of_proposal (OfProposal u) k q (inr none) = absurd none
  of_proposal (OfTx t) k q i = absurd i
  of_proposal (OfVote v) k q i = absurd i
  of_proposal (OfAsk a) k q i = absurd i
  of_proposal (OfBundle b) k q i = absurd i

  of_vote : (b : Body) → IsHeld IsSent IsCast b → (v : Vote) → v ∈ votes_in b → IsCast v
  of_vote (OfVote u) k v (inl e) = subst IsCast (sym e) k
  of_vote (OfVote u) k v (inr none) = absurd none
  of_vote (OfTx t) k v i = absurd i
  of_vote (OfProposal q) k v i = absurd i
  of_vote (OfAsk a) k v i = absurd i
  of_vote (OfBundle b) k v i = absurd i

  pub opened_held : (c : Setting) (p : ℕ) (j : List Record) → Grows j → RecordsHeld IsSent IsCast p j → NodeHeld IsSent IsCast p (opened p j)
  unfolding restart
  opened_held c p j g held = record {
    journal = held;
    state = record {
      proposals = λ q i. let f = in_flat_map proposals_in q (own_since p j) i in of_proposal f.0 (own_held p j held f.0 (since_own p j f.0 f.1)) q f.2;
      votes = λ v i. let f = in_flat_map votes_in v (own_since p j) i in (
        of_vote f.0 (own_held p j held f.0 (since_own p j f.0 f.1)) v f.2,
        (since_keeps c (record { liars = λ q. false; clients = λ q. false }) (λ q. marks_of j) p j g (λ m k. k)).of_height v i,
      );
      found = tt;
    };
    queues = λ t i. absurd i;
  }

  -- ---- an arrival

  pub taken_held : (c : Setting) (p : ℕ) (n : Node) → NodeHeld IsSent IsCast p n → (m : Message) (b : Body) → IsTaken c p n.state m b → IsHeld IsSent IsCast b → NodeHeld IsSent IsCast p (taken_in n m b).node
  taken_held c p n w m (OfProposal q) t k = record {
    journal = w.journal;
    state = record { proposals = each_pushed (λ (a : Proposal). AreSent IsSent IsCast a.value.txs) n.state.proposals q w.state.proposals k; votes = w.state.votes; found = w.state.found };
    queues = w.queues;
  }
  taken_held c p n w m (OfVote v) t k = record {
    journal = w.journal;
    state = record { proposals = w.state.proposals; votes = each_pushed (λ (u : Vote). IsCast u × (u.height ≡ n.state.height)) n.state.votes v w.state.votes (k, t.height v (inl refl)); found = w.state.found };
    queues = w.queues;
  }
  taken_held c p n w m (OfTx x) t k = record {
    journal = w.journal;
    state = record { proposals = w.state.proposals; votes = w.state.votes; found = w.state.found };
    queues = λ u i. elim (queued_in (tagged_tx x m) u n.queues i) [ inl e ↦ one u (inl e) | inr j ↦ w.queues u j ];
  }
    where
      one : (a : Tx) → a ∈ (tagged_tx x m ∷ []) → IsSent (item a)
      one a (inl e) = subst (λ (y : Tx). IsSent (item y)) (sym e) k
      one a (inr none) = absurd none
  taken_held c p n w m (OfAsk a) t k = record { journal = w.journal; state = record { proposals = w.state.proposals; votes = w.state.votes; found = w.state.found }; queues = w.queues }
  taken_held c p n w m (OfBundle b) t k = record { journal = w.journal; state = record { proposals = w.state.proposals; votes = w.state.votes; found = w.state.found }; queues = w.queues }

  -- what an ask is answered by is in the journal
  pub replies_decided : (n : Node) (asked b : Body) → b ∈ replies n asked → (d : Bundle) × (Decided d ∈ n.journal) × (b ≡ OfBundle d)
  replies_decided n (OfAsk a) b i = bundles_decided a.height n.journal b i
  replies_decided n (OfTx t) b i = absurd i
  replies_decided n (OfProposal q) b i = absurd i
  replies_decided n (OfVote v) b i = absurd i
  replies_decided n (OfBundle d) b i = absurd i

  -- ---- a cut

  -- what these bytes bring
  abbrev pub BytesHeld : List ℕ → Type 0
  BytesHeld bytes = (m : Message) → message_of bytes ≡ Ok m → IsHeld IsSent IsCast m.body

  abbrev pub CutHeld : Option Cut → Type 0
  CutHeld None = Unit {0}
  CutHeld (Some (InArrival bytes)) = BytesHeld bytes
  CutHeld (Some (InFiring k)) = Unit {0}

  -- the own votes of these records were cast
  abbrev pub VotesCast : ℕ → List Record → Type 0
  VotesCast p rs = (r : Record) (v : Vote) → r ∈ rs → own_body p r ≡ Some (OfVote v) → IsCast v

  own_cast : (p : ℕ) (o : Option Record) → VotesCast p (option_to_list o) → OwnCast IsSent IsCast p o
  own_cast p None k v e = absurd (let f : None ≡ Some (OfVote v) = e in cc)
  own_cast p (Some r) k v e = k r v (inl refl) e

  saved_joined : (c : Setting) (p : ℕ) (n : Node) → NodeHeld IsSent IsCast p n → (k : Rule) → holds (context c p) n.state k ≡ true → RuleHeld IsSent IsCast k
      → VotesCast p (option_to_list (saved (context c p) (pick n.queues) n.state k)) → RecordsHeld IsSent IsCast p (option_to_list (saved (context c p) (pick n.queues) n.state k) ++ n.journal)
  saved_joined c p n w k e u votes =
      let o = saved (context c p) (pick n.queues) n.state k in
      joined_held IsSent IsCast p (changed n.state k).height o n.journal (fired_saves IsSent IsCast c p n w k e u (own_cast p o votes)) w.journal

  pub other_held : (k : Rule) → is_bundles k ≡ false → RuleHeld IsSent IsCast k
  other_held (DecideByBundle b) e = absurd (let f : true ≡ false = e in cc)
  other_held _ e = tt

  -- the record that a stop cut holds no more
  pub cut_held : (c : Setting) (p : ℕ) (n : Node) → NodeHeld IsSent IsCast p n → (cut : Option Cut) → CutHeld cut → VotesCast p (cut_record c p n cut) → RecordsHeld IsSent IsCast p (cut_record c p n cut ++ n.journal)
  cut_held c p n w None k votes = w.journal
  cut_held c p n w (Some (InArrival bytes)) k votes = come_cases c p n (message_of bytes)
      (λ o. VotesCast p (option_to_list o.wrote) → RecordsHeld IsSent IsCast p (option_to_list o.wrote ++ n.journal))
      (λ _. w.journal)
      (λ m b _ _ _ _. w.journal)
      (λ m b em eb e given. saved_joined c p n w (DecideByBundle b) e (subst (IsHeld IsSent IsCast) eb (k m em)) given)
      votes
  cut_held c p n w (Some (InFiring rule)) k votes = try_cases c p n rule
      (λ o. VotesCast p (option_to_list o.wrote) → RecordsHeld IsSent IsCast p (option_to_list o.wrote ++ n.journal))
      (λ _. w.journal)
      (λ nb e given. saved_joined c p n w rule e (other_held rule nb) given)
      votes
