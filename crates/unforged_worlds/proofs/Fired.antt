-- A rule that fires says and keeps nothing of others that its node didn't hold.
use Rattle.std.proofs.Common.{◌≡◌, ℕ, suc, inl, inr, true, List, [], ◌∷◌, ◌++◌, refl, sym, subst, Option, Some, None, eqb-true, option_to_list, map, find}
use Rattle.std.specs.Prelude.{◌==◌, ◌&&◌}
use Rattle.std.specs.Str.{bytes_eq}
use Rattle.std.proofs.lemmas.Bool.{and_parts, cond_both}
use Rattle.powers.specs.Power.{proposer}
use Rattle.transactions.proofs.Equality.{value_eq_decides}
use Rattle.protocol.specs.Values.{Id, Value, Item, id}
use Rattle.protocol.specs.Tags.{Setting}
use Rattle.protocol.specs.Messages.{◌∈◌, step_eq, precommit, Signed, Proposal, Vote, Bundle, OfVote, OfBundle, Proposing, Prevoting, Precommitting, Record, Own, Decided, body_of}
use Rattle.protocol.specs.Tally.{senders, is_vote_for}
use Rattle.protocol.specs.declared.types.Step.{Step}
use Rattle.protocol.specs.declared.types.Step.TheVariants.{Propose, Prevote, Precommit}
use Rattle.protocol.specs.declared.types.ValueAt.{ValueAt}
use Rattle.protocol.specs.declared.types.Stamp.{Stamp}
use Rattle.protocol.specs.State.{State, Node, Rule, Start, PrevoteFresh, PrevoteAgain, AwaitPrevotes, Lock, PrecommitNil, AwaitPrecommits, Decide, DecideByBundle, SkipRound, TimedOut}
use Rattle.protocol.specs.Rules.{holds, saved, changed, keeping_own, released_by, starts, proposal_of, is_proposed, times_out, certificate, signed_by, is_stamp}
use Rattle.protocol.specs.Queues.{pick, all_waiting, drop_delivered}
use Rattle.protocol.specs.Refusals.{context, certified, is_vouching}
use Rattle.protocol.specs.Arrivals.{firing, is_decision}
use Rattle.protocol.proofs.Membership.{in_map, in_flat_map, any_found, found_in, each_pushed}
use Rattle.protocol.proofs.Waiting.{picked_waits, dropped_in}
use Rattle.protocol.proofs.Asked.{asked}
use Rattle.protocol.proofs.Backing.{counts}
use Rattle.protocol.proofs.Marks.{is_precommit, same_vote}
use Rattle.unforged_worlds.proofs.Held.{AreSent, AreCast, IsHeld, RecordHeld, RecordsHeld, FoundHeld, StateHeld, NodeHeld, RuleHeld}

in_option : {X : Type 0} (x : X) (o : Option X) → x ∈ option_to_list o → o ≡ Some x
in_option x None i = absurd i
in_option x (Some y) (inl e) = λ j. Some (sym e j)
in_option x (Some y) (inr i) = absurd i

module _ (IsSent : Item → Type 0) (IsCast : Vote → Type 0) where
  -- ---- what it saves

  -- the vote that this lets go, if any, was cast
  abbrev pub OwnCast : ℕ → Option Record → Type 0
  OwnCast p o = (v : Vote) → released_by p o ≡ Some (OfVote v) → IsCast v

  -- what is saved at this height
  abbrev pub SavedHeld : ℕ → ℕ → Option Record → Type 0
  SavedHeld p height None = Unit {0}
  SavedHeld p height (Some (Own own_height round act)) = (own_height ≡ height) × IsHeld IsSent IsCast (body_of p own_height round act)
  SavedHeld p height (Some (Decided b)) = IsHeld IsSent IsCast (OfBundle b)

  -- who is counted for the value voted for it
  counted : (s : State) → StateHeld IsSent IsCast s → (r : ℕ) (x : Id) (i : ℕ) → senders s.votes (is_vote_for r Precommit (Some x)) i ≡ true → IsCast (precommit s.height r i (Some x))
  counted s k r x i e =
      let f = any_found _ s.votes e in
      let is = counts r Precommit (Some x) i f.0 f.2 in
      let v = k.votes f.0 f.1 in
      subst IsCast (same_vote f.0 (precommit s.height r i (Some x)) (is_precommit f.0.step is.step_is) v.1 is.round_is is.sender_is is.content_is) v.0

  signed_cast : (c : Setting) (p : ℕ) (s : State) → StateHeld IsSent IsCast s → (r : ℕ) (x : Id) (i : ℕ) (z : Signed) → z ∈ signed_by (context c p) s r x i → IsCast (precommit s.height r z.sender (Some x))
  signed_cast c p s k r x i z = cond_both (senders s.votes (is_vote_for r Precommit (Some x)) i) _ [] (λ l. z ∈ l → IsCast (precommit s.height r z.sender (Some x)))
      (λ e. cond_both (i == p) _ _ (λ l. z ∈ l → IsCast (precommit s.height r z.sender (Some x))) (λ _ j. own e j) (λ _ j. other e j))
      (λ _ j. absurd j)
    where
      named : senders s.votes (is_vote_for r Precommit (Some x)) i ≡ true → z.sender ≡ i → IsCast (precommit s.height r z.sender (Some x))
      named e same = subst (λ n. IsCast (precommit s.height r n (Some x))) (sym same) (counted s k r x i e)

      own : senders s.votes (is_vote_for r Precommit (Some x)) i ≡ true → z ∈ (record { sender = i; tags = (context c p).own_tags s.height r x } ∷ []) → IsCast (precommit s.height r z.sender (Some x))
      own e (inl same) = named e (λ j. (same j).sender)
      own e (inr none) = absurd none

      other : senders s.votes (is_vote_for r Precommit (Some x)) i ≡ true → z ∈ map (λ (stamp : Stamp). stamp.signed) (option_to_list (find (is_stamp r x i) s.stamps)) → IsCast (precommit s.height r z.sender (Some x))
      other e j =
          let a = in_map (λ (stamp : Stamp). stamp.signed) z (option_to_list (find (is_stamp r x i) s.stamps)) j in
          let f = found_in (is_stamp r x i) s.stamps a.0 (in_option a.0 (find (is_stamp r x i) s.stamps) a.1) in
          let same : a.0.signed.sender ≡ i = eqb-true a.0.signed.sender i (and_parts ((a.0.round == r) && bytes_eq a.0.id x) (a.0.signed.sender == i) f.passes).1 in
          named e (subst (λ (y : Signed). y.sender ≡ i) a.2 same)

  certificate_cast : (c : Setting) (p : ℕ) (s : State) → StateHeld IsSent IsCast s → (r : ℕ) (x : Id) → AreCast IsSent IsCast s.height r x (certificate (context c p) s r x)
  certificate_cast c p s k r x z i = let f = in_flat_map (signed_by (context c p) s r x) z _ i in signed_cast c p s k r x f.0 z f.2

  certified_cast : (c : Setting) (p : ℕ) (b : Bundle) → AreCast IsSent IsCast b.height b.round b.id b.precommits → AreCast IsSent IsCast b.height b.round b.id (certified c p b)
  unfolding certified
  certified_cast c p b k z i =
      let f = in_flat_map (λ j. option_to_list (find (is_vouching c p b j) b.precommits)) z _ i in
      k z (found_in (is_vouching c p b f.0) b.precommits z (in_option z (find (is_vouching c p b f.0) b.precommits) f.2)).there

  proposed_sent : (powers : List ℕ) (s : State) → StateHeld IsSent IsCast s → (round : ℕ) (v : Value) → is_proposed powers s round v ≡ true → AreSent IsSent IsCast v.txs
  proposed_sent powers s k round v e =
      let f = any_found _ s.proposals e in
      subst (λ (u : Value). AreSent IsSent IsCast u.txs) ((value_eq_decides f.0.value v).0 (and_parts _ _ f.2).1) (k.proposals f.0 f.1)

  starts_held : (c : Setting) (p : ℕ) (s : State) (r : ℕ) (picked : Value) → AreSent IsSent IsCast picked.txs → FoundHeld IsSent IsCast s.valid_value → SavedHeld p s.height (starts (context c p) s r picked)
  starts_held c p s r picked kp kl = cond_both (proposer c.powers s.height r == p) _ _ (SavedHeld p s.height) (λ _. by_value s.valid_value kl) (λ _. tt)
    where
      by_value : (o : Option ValueAt) → FoundHeld IsSent IsCast o → SavedHeld p s.height (Some (proposal_of s r picked o))
      by_value None l = (refl, kp)
      by_value (Some a) l = (refl, l)

  timed_held : (c : Setting) (p : ℕ) (s : State) (kind : Step) (picked : Value) → AreSent IsSent IsCast picked.txs → FoundHeld IsSent IsCast s.valid_value → OwnCast p ((times_out s kind).saves (context c p) picked)
      → SavedHeld p (times_out s kind).next.height ((times_out s kind).saves (context c p) picked)
  timed_held c p s Propose picked kp kl own = (refl, own _ refl)
  timed_held c p s Prevote picked kp kl own = (refl, own _ refl)
  timed_held c p s Precommit picked kp kl own = starts_held c p s (suc s.round) picked kp kl

  saved_held : (c : Setting) (p : ℕ) (picked : Value) (s : State) → StateHeld IsSent IsCast s → AreSent IsSent IsCast picked.txs → (k : Rule) → holds (context c p) s k ≡ true → RuleHeld IsSent IsCast k
      → OwnCast p (saved (context c p) picked s k) → SavedHeld p (changed s k).height (saved (context c p) picked s k)
  saved_held c p picked s w kp Start e u own = starts_held c p s 0 picked kp w.found
  saved_held c p picked s w kp (PrevoteFresh v) e u own = (refl, own _ refl)
  saved_held c p picked s w kp (PrevoteAgain r v) e u own = (refl, own _ refl)
  saved_held c p picked s w kp AwaitPrevotes e u own = tt
  saved_held c p picked s w kp (Lock v) e u own = cond_both (step_eq s.step Prevote) (Some (Own s.height s.round (Precommitting (Some v)))) None (λ o. OwnCast p o → SavedHeld p s.height o) (λ _ given. (refl, given _ refl)) (λ _ _. tt) own
  saved_held c p picked s w kp PrecommitNil e u own = (refl, own _ refl)
  saved_held c p picked s w kp AwaitPrecommits e u own = tt
  saved_held c p picked s w kp (Decide r v) e u own = (proposed_sent c.powers s w r v (asked (context c p) s (Decide r v) e).proposed, certificate_cast c p s w r (id v))
  saved_held c p picked s w kp (DecideByBundle b) e u own = (u.0, certified_cast c p b u.1)
  saved_held c p picked s w kp (SkipRound r) e u own = starts_held c p s r picked kp w.found
  saved_held c p picked s w kp (TimedOut t) e u own = timed_held c p s t.kind picked kp w.found own

  pub joined_held : (p height : ℕ) (o : Option Record) (j : List Record) → SavedHeld p height o → RecordsHeld IsSent IsCast p j → RecordsHeld IsSent IsCast p (option_to_list o ++ j)
  joined_held p height None j k held r i = held r i
  joined_held p height (Some (Own own_height round act)) j k held r (inl e) = subst (RecordHeld IsSent IsCast p) (sym e) k.1
  joined_held p height (Some (Decided b)) j k held r (inl e) = subst (RecordHeld IsSent IsCast p) (sym e) k
  joined_held p height (Some a) j k held r (inr i) = held r i

  -- ---- what it keeps

  timed_changes : (s : State) → StateHeld IsSent IsCast s → (kind : Step) → StateHeld IsSent IsCast (times_out s kind).next
  timed_changes s w Propose = record { proposals = w.proposals; votes = w.votes; found = w.found }
  timed_changes s w Prevote = record { proposals = w.proposals; votes = w.votes; found = w.found }
  timed_changes s w Precommit = record { proposals = w.proposals; votes = w.votes; found = w.found }

  changed_held : (c : Setting) (p : ℕ) (s : State) → StateHeld IsSent IsCast s → (k : Rule) → holds (context c p) s k ≡ true → StateHeld IsSent IsCast (changed s k)
  changed_held c p s w Start e = record { proposals = w.proposals; votes = w.votes; found = w.found }
  changed_held c p s w (PrevoteFresh v) e = record { proposals = w.proposals; votes = w.votes; found = w.found }
  changed_held c p s w (PrevoteAgain r v) e = record { proposals = w.proposals; votes = w.votes; found = w.found }
  changed_held c p s w AwaitPrevotes e = record { proposals = w.proposals; votes = w.votes; found = w.found }
  changed_held c p s w (Lock v) e = record { proposals = w.proposals; votes = w.votes; found = proposed_sent c.powers s w s.round v (asked (context c p) s (Lock v) e).proposed }
  changed_held c p s w PrecommitNil e = record { proposals = w.proposals; votes = w.votes; found = w.found }
  changed_held c p s w AwaitPrecommits e = record { proposals = w.proposals; votes = w.votes; found = w.found }
  changed_held c p s w (Decide r v) e = record { proposals = λ q i. absurd i; votes = λ u i. absurd i; found = tt }
  changed_held c p s w (DecideByBundle b) e = record { proposals = λ q i. absurd i; votes = λ u i. absurd i; found = tt }
  changed_held c p s w (SkipRound r) e = record { proposals = w.proposals; votes = w.votes; found = w.found }
  changed_held c p s w (TimedOut t) e = timed_changes s w t.kind

  keeping_held : (p : ℕ) (s : State) → StateHeld IsSent IsCast s → (o : Option Record) → SavedHeld p s.height o → StateHeld IsSent IsCast (keeping_own s (released_by p o))
  keeping_held p s w None k = w
  keeping_held p s w (Some (Own height round (Proposing vr v))) k = record {
    proposals = each_pushed (λ (q : Proposal). AreSent IsSent IsCast q.value.txs) s.proposals _ w.proposals k.1;
    votes = w.votes;
    found = w.found;
  }
  keeping_held p s w (Some (Own height round (Prevoting x))) k = record {
    proposals = w.proposals;
    votes = each_pushed (λ (v : Vote). IsCast v × (v.height ≡ s.height)) s.votes _ w.votes (k.1, k.0);
    found = w.found;
  }
  keeping_held p s w (Some (Own height round (Precommitting v))) k = record {
    proposals = w.proposals;
    votes = each_pushed (λ (u : Vote). IsCast u × (u.height ≡ s.height)) s.votes _ w.votes (k.1, k.0);
    found = w.found;
  }
  keeping_held p s w (Some (Decided b)) k = w

  pub fired_saves : (c : Setting) (p : ℕ) (n : Node) → NodeHeld IsSent IsCast p n → (k : Rule) → holds (context c p) n.state k ≡ true → RuleHeld IsSent IsCast k → OwnCast p (saved (context c p) (pick n.queues) n.state k)
      → SavedHeld p (changed n.state k).height (saved (context c p) (pick n.queues) n.state k)
  fired_saves c p n w k e u own = saved_held c p (pick n.queues) n.state w.state (λ t i. w.queues t (picked_waits n.queues t i)) k e u own

  pub fired_held : (c : Setting) (p : ℕ) (n : Node) → NodeHeld IsSent IsCast p n → (k : Rule) → holds (context c p) n.state k ≡ true → RuleHeld IsSent IsCast k → OwnCast p (saved (context c p) (pick n.queues) n.state k)
      → NodeHeld IsSent IsCast p (firing c p n k).node
  fired_held c p n w k e u own =
      let o = saved (context c p) (pick n.queues) n.state k in
      let after = keeping_own (changed n.state k) (released_by p o) in
      let s : SavedHeld p (changed n.state k).height o = fired_saves c p n w k e u own in
      record {
        journal = joined_held p (changed n.state k).height o n.journal s w.journal;
        state = keeping_held p (changed n.state k) (changed_held c p n.state w.state k e) o s;
        queues = cond_both (is_decision k) (drop_delivered after.delivered n.queues) n.queues (λ a. AreSent IsSent IsCast (all_waiting a)) (λ _ t i. w.queues t (dropped_in after.delivered t n.queues i)) (λ _. w.queues);
      }
