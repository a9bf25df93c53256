-- Nothing stands against a message exactly where it is taken in.
use Rattle.std.proofs.Common.{◌≡◌, ◌↔◌, ℕ, suc, ◌^◌, inl, inr, Bool, true, false, cond, not, ◌&&◌, ◌||◌, Option, None, List, [], ◌∷◌, ◌++◌, refl, ap, subst, eqb-true, eq-eqb}
use Rattle.std.specs.Prelude.{is_none, ◌==◌, nat_lt, nat_le}
use Rattle.std.proofs.lemmas.Bool.{and_parts, and_from, not-false, not-true, cases_Bool, or_cases, or_left, or_right, ltb-false, leb-true, le-leb, leb-false, lt-ltb, ltb-true, le-ltb, lt-leb}
use Rattle.powers.specs.Power.{power, is_quorum}
use Rattle.powers.proofs.Quorums.{quorum_more}
use Rattle.protocol.specs.declared.standing.Standing.{Standing}
use Rattle.protocol.specs.Values.{Tx, Item, item, fits, session_wanted, number_wanted}
use Rattle.protocol.specs.Tags.{Setting, tx_is_right}
use Rattle.protocol.specs.Messages.{Signed, Proposal, Vote, Ask, Bundle, Body, OfTx, OfProposal, OfVote, OfAsk, OfBundle, Message}
use Rattle.protocol.specs.State.{State, Queue, Node}
use Rattle.protocol.specs.Refusals.{Cause, ◌↪◌, first_cause, answering, NotQueued, causes, accepts, sender_causes, proposal_causes, vote_causes, ask_causes, tx_causes, judge_causes, bundle_causes, is_ahead, bundle_senders, named_senders, tagged_tx}
use Rattle.protocol.proofs.Membership.{any_found, any_in}
use Rattle.protocol.proofs.Arrivals.{NoneStand, none_stand}
use Rattle.message_laws.specs.Taken.{takes, takes_tx, takes_proposal, takes_vote, takes_bundle, is_tagged, TakenLaw}

-- ---- causes

none_first : {R : Type 0} (xs : List (Cause R)) → NoneStand xs → is_none (first_cause xs) ≡ true
none_first [] k = refl
none_first (x ∷ xs) k = rw k.0 (none_first xs k.1)

answering_none : {R S : Type 0} (f : R → S) (xs : List (Cause R)) → NoneStand xs → NoneStand (answering f xs)
answering_none f [] k = tt
answering_none f (x ∷ xs) k = (k.0, answering_none f xs k.1)

none_answering : {R S : Type 0} (f : R → S) (xs : List (Cause R)) → NoneStand (answering f xs) → NoneStand xs
none_answering f [] k = tt
none_answering f (x ∷ xs) k = (k.0, none_answering f xs k.1)

joined_none : {R : Type 0} (xs ys : List (Cause R)) → NoneStand xs → NoneStand ys → NoneStand (xs ++ ys)
joined_none [] ys k l = l
joined_none (x ∷ xs) ys k l = (k.0, joined_none xs ys k.1 l)

-- ---- tests

is_not : (b : Bool) → b ≡ true → not b ≡ false
is_not b e = rw e refl

isnt : (b : Bool) → b ≡ false → not b ≡ true
isnt b e = rw e refl

neither : (a b : Bool) → a ≡ false → b ≡ false → (a || b) ≡ false
neither a b e f = rw (e, f) refl

first_isnt : (a b : Bool) → (a || b) ≡ false → a ≡ false
first_isnt false b e = refl
first_isnt true b e = e

second_isnt : (a b : Bool) → (a || b) ≡ false → b ≡ false
second_isnt false b e = e
second_isnt true b e = absurd (let k : true ≡ false = e in cc)

within : (most n : ℕ) → nat_lt most n ≡ false → nat_le n most ≡ true
within most n e = le-leb _ _ (ltb-false _ _ e)

beyond : (most n : ℕ) → nat_le n most ≡ true → nat_lt most n ≡ false
beyond most n e = le-ltb _ _ (leb-true _ _ e)

below : (most n : ℕ) → nat_le most n ≡ false → nat_lt n most ≡ true
below most n e = lt-ltb _ _ (leb-false _ _ e)

above : (most n : ℕ) → nat_lt n most ≡ true → nat_le most n ≡ false
above most n e = lt-leb _ _ (ltb-true _ _ e)

-- ---- each kind of message

-- the next item of a client isn't ahead of it
next_not_ahead : (s : Standing) (t : Tx) → fits s (item t) ≡ true → is_ahead s t ≡ false
next_not_ahead s t e = at_close s.closed refl (and_parts (t.session == session_wanted s) (t.number == number_wanted s) e).0
  where
    at_close : (b : Bool) → s.closed ≡ b → (t.session == cond s.closed (suc s.session) s.session) ≡ true → is_ahead s t ≡ false
    at_close true k f =
        let same : (t.session == suc s.session) ≡ true = subst (λ (c : Bool). (t.session == cond c (suc s.session) s.session) ≡ true) k f in
        is_not _ (or_right (t.session == s.session) (s.closed && (t.session == suc s.session)) (and_from s.closed (t.session == suc s.session) k same))
    at_close false k f =
        let same : (t.session == s.session) ≡ true = subst (λ (c : Bool). (t.session == cond c (suc s.session) s.session) ≡ true) k f in
        is_not _ (or_left (t.session == s.session) (s.closed && (t.session == suc s.session)) same)

module _ (c : Setting) (p : ℕ) where
  tx_taken : (d : List Item) (queues : List Queue) (t : Tx) → NoneStand (tx_causes c p d queues t) → takes_tx c p d queues t ≡ true
  tx_taken d queues t k =
      and_from _ _ (and_from _ _ (and_from _ _ (and_from _ _ (isnt _ k.0) (not-false _ k.1.1.0)) (isnt _ (neither _ _ k.1.1.1.0 k.1.1.1.1.0))) (not-false _ k.1.1.1.1.1.1.0)) (below 64 _ k.1.1.1.1.1.1.1.0)

  takes_no_cause : (d : List Item) (queues : List Queue) (t : Tx) → takes_tx c p d queues t ≡ true → NoneStand (tx_causes c p d queues t)
  unfolding tx_is_right
  takes_no_cause d queues t e =
      let room = and_parts _ _ e in
      let next = and_parts _ _ room.0 in
      let new = and_parts _ _ next.0 in
      let tag = and_parts _ _ new.0 in
      let old = not-true _ new.1 in
      (not-true _ tag.0, (is_not _ (and_parts _ _ tag.1).0, (is_not _ tag.1, (first_isnt _ _ old, (second_isnt _ _ old, (next_not_ahead _ t next.1, (is_not _ next.1, (above 64 _ room.1, tt))))))))

  proposal_taken : (powers : List ℕ) (s : State) (q : Proposal) → NoneStand (proposal_causes powers p s q) → takes_proposal powers p s q ≡ true
  proposal_taken powers s q k =
      and_from _ _ (and_from _ _ (and_from _ _ (and_from _ _ (and_from _ _ (not-false _ k.0) (within 1000000 _ k.1.0)) (within _ _ k.1.1.0)) (not-false _ k.1.1.1.0)) (isnt _ k.1.1.1.1.0)) (isnt _ k.1.1.1.1.1.0)

  takes_no_proposal_cause : (powers : List ℕ) (s : State) (q : Proposal) → takes_proposal powers p s q ≡ true → NoneStand (proposal_causes powers p s q)
  takes_no_proposal_cause powers s q e =
      let room = and_parts _ _ e in
      let new = and_parts _ _ room.0 in
      let turn = and_parts _ _ new.0 in
      let near = and_parts _ _ turn.0 in
      let round = and_parts _ _ near.0 in
      (is_not _ round.0, (beyond 1000000 _ round.1, (beyond _ _ near.1, (is_not _ turn.1, (not-true _ new.1, (not-true _ room.1, tt))))))

  vote_taken : (s : State) (v : Vote) → NoneStand (vote_causes p s v) → takes_vote p s v ≡ true
  vote_taken s v k = and_from _ _ (and_from _ _ (not-false _ k.0) (within 1000000 _ k.1.0)) (isnt _ (neither _ _ k.1.1.0 k.1.1.1.0))

  takes_no_vote_cause : (s : State) (v : Vote) → takes_vote p s v ≡ true → NoneStand (vote_causes p s v)
  takes_no_vote_cause s v e =
      let new = and_parts _ _ e in
      let round = and_parts _ _ new.0 in
      let none = not-true _ new.1 in
      (is_not _ round.0, (beyond 1000000 _ round.1, (first_isnt _ _ none, (second_isnt _ _ none, tt))))

  -- who has a right precommit in the bundle is named in it
  vouched_named : (b : Bundle) (i : ℕ) → bundle_senders c p b i ≡ true → named_senders b i ≡ true
  unfolding bundle_senders
  vouched_named b i e = let f = any_found _ b.precommits e in any_in (λ (s : Signed). s.sender == i) f.0 b.precommits f.1 (and_parts _ _ f.2).0

  bundle_taken : (s : State) (b : Bundle) → NoneStand (bundle_causes c p s b) → takes_bundle c p s b ≡ true
  bundle_taken s b k =
      let height = and_parts (b.height == s.height) (nat_lt b.height (2 ^ 48)) (not-false _ k.0) in
      and_from _ _ (and_from _ _ (and_from _ _ (and_from _ _ height.0 height.1) (not-false _ k.1.0)) (not-false _ k.1.1.1.0)) (not-false _ k.1.1.1.1.0)

  takes_no_bundle_cause : (s : State) (b : Bundle) → takes_bundle c p s b ≡ true → NoneStand (bundle_causes c p s b)
  takes_no_bundle_cause s b e =
      let good = and_parts _ _ e in
      let quorum = and_parts _ _ good.0 in
      let digest = and_parts _ _ quorum.0 in
      let height = and_parts (b.height == s.height) (nat_lt b.height (2 ^ 48)) digest.0 in
      let named : is_quorum c.powers (power c.powers (named_senders b)) ≡ true = quorum_more c.powers (bundle_senders c p b) (named_senders b) (λ i _ t. vouched_named b i t) quorum.1 in
      (is_not _ (and_from _ _ height.0 height.1), (is_not _ digest.1, (is_not _ named, (is_not _ quorum.1, (is_not _ good.1, tt)))))

  tagged_none : (b : Body) (tags : List (List ℕ)) → is_tagged c p b tags ≡ true → NoneStand (sender_causes c p b tags)
  tagged_none b tags e = let k = and_parts _ _ e in (is_not _ k.0, (is_not _ k.1, tt))

  taken : (n : Node) (m : Message) (b : Body) → NoneStand (causes c p n m b) → takes c p n m b ≡ true
  taken n m (OfTx t) k = tx_taken n.state.delivered n.queues (tagged_tx t m) (none_answering NotQueued (tx_causes c p n.state.delivered n.queues (tagged_tx t m)) k)
  taken n m (OfProposal q) k = and_from _ _ (and_from _ _ (not-false _ k.0) (not-false _ k.1.0)) (proposal_taken c.powers n.state q k.1.1)
  taken n m (OfVote v) k = and_from _ _ (and_from _ _ (not-false _ k.0) (not-false _ k.1.0)) (vote_taken n.state v k.1.1)
  taken n m (OfAsk a) k = and_from _ _ (and_from _ _ (not-false _ k.0) (not-false _ k.1.0)) (not-false _ k.1.1.0)
  taken n m (OfBundle b) k = and_from _ _ (and_from _ _ (not-false _ k.0) (not-false _ k.1.0)) (bundle_taken n.state b k.1.1)

  stands_not : (n : Node) (m : Message) (b : Body) → takes c p n m b ≡ true → NoneStand (causes c p n m b)
  stands_not n m (OfTx t) e = answering_none NotQueued (tx_causes c p n.state.delivered n.queues (tagged_tx t m)) (takes_no_cause n.state.delivered n.queues (tagged_tx t m) e)
  stands_not n m (OfProposal q) e = let k = and_parts _ _ e in joined_none (sender_causes c p (OfProposal q) m.tags) (proposal_causes c.powers p n.state q) (tagged_none (OfProposal q) m.tags k.0) (takes_no_proposal_cause c.powers n.state q k.1)
  stands_not n m (OfVote v) e = let k = and_parts _ _ e in joined_none (sender_causes c p (OfVote v) m.tags) (vote_causes p n.state v) (tagged_none (OfVote v) m.tags k.0) (takes_no_vote_cause n.state v k.1)
  stands_not n m (OfAsk a) e =
      let k = and_parts _ _ e in
      let none : NoneStand (ask_causes n.state a) = (is_not _ k.1, tt) in
      joined_none (sender_causes c p (OfAsk a) m.tags) (ask_causes n.state a) (tagged_none (OfAsk a) m.tags k.0) none
  stands_not n m (OfBundle b) e = let k = and_parts _ _ e in joined_none (sender_causes c p (OfBundle b) m.tags) (bundle_causes c p n.state b) (tagged_none (OfBundle b) m.tags k.0) (takes_no_bundle_cause n.state b k.1)

pub taken_law : TakenLaw
taken_law c p n m = (λ e. taken c p n m m.body (none_stand (causes c p n m m.body) e), λ e. none_first (causes c p n m m.body) (stands_not c p n m m.body e))
