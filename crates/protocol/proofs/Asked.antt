-- What a rule that holds has asked, by names.
use Rattle.std.proofs.Common.{◌≡◌, ℕ, ◌<◌, ◌^◌, true, false, Some, None, eqb-true, ltb-true}
use Rattle.std.proofs.lemmas.Bool.{and_parts, not-true}
use Rattle.powers.specs.Power.{power, is_quorum}
use Rattle.protocol.specs.Values.{Value, id, valid}
use Rattle.protocol.specs.Messages.{Propose, Prevote, Precommit, step_eq, Bundle}
use Rattle.protocol.specs.State.{Context, State, Rule, Timeout, Start, PrevoteFresh, PrevoteAgain, AwaitPrevotes, Lock, PrecommitNil, AwaitPrecommits, Decide, DecideByBundle, SkipRound, TimedOut}
use Rattle.protocol.specs.Rules.{holds, holds_timed, at_step, quorum_for, quorum_any, is_proposed, is_proposed_from, weak_at}
use Rattle.std.proofs.lemmas.Slice.Eq.{bytes_eq-Decides}

pub record AsksPrevoteFresh (g : Context) (s : State) (v : Value) : Type 0 where
  pub at : at_step s Propose ≡ true
  pub proposed : is_proposed_from g.powers s s.round None v ≡ true

pub record AsksPrevoteAgain (g : Context) (s : State) (r : ℕ) (v : Value) : Type 0 where
  pub at : at_step s Propose ≡ true
  pub earlier : r < s.round
  pub proposed : is_proposed_from g.powers s s.round (Some r) v ≡ true
  pub quorum : quorum_for g.powers s r Prevote (Some (id v)) ≡ true

pub record AsksAwaitPrevotes (g : Context) (s : State) : Type 0 where
  pub at : at_step s Prevote ≡ true
  pub quorum : quorum_any g.powers s s.round Prevote ≡ true
  pub first : s.prevotes_awaited ≡ false

pub record AsksLock (g : Context) (s : State) (v : Value) : Type 0 where
  pub begun : s.begun ≡ true
  pub voting : step_eq s.step Propose ≡ false
  pub proposed : is_proposed g.powers s s.round v ≡ true
  pub quorum : quorum_for g.powers s s.round Prevote (Some (id v)) ≡ true
  pub is_valid : valid s.delivered v ≡ true
  pub first : s.value_found ≡ false

pub record AsksPrecommitNil (g : Context) (s : State) : Type 0 where
  pub at : at_step s Prevote ≡ true
  pub quorum : quorum_for g.powers s s.round Prevote None ≡ true

pub record AsksAwaitPrecommits (g : Context) (s : State) : Type 0 where
  pub begun : s.begun ≡ true
  pub quorum : quorum_any g.powers s s.round Precommit ≡ true
  pub first : s.precommits_awaited ≡ false

pub record AsksDecide (g : Context) (s : State) (r : ℕ) (v : Value) : Type 0 where
  pub room : s.height < 2 ^ 48
  pub proposed : is_proposed g.powers s r v ≡ true
  pub quorum : quorum_for g.powers s r Precommit (Some (id v)) ≡ true
  pub is_valid : valid s.delivered v ≡ true

pub record AsksBundle (g : Context) (s : State) (b : Bundle) : Type 0 where
  pub room : s.height < 2 ^ 48
  pub height : b.height ≡ s.height
  pub digest : b.id ≡ id b.value
  pub quorum : is_quorum g.powers (power g.powers (g.vouches b)) ≡ true
  pub is_valid : valid s.delivered b.value ≡ true

pub record AsksSkipRound (g : Context) (s : State) (r : ℕ) : Type 0 where
  pub begun : s.begun ≡ true
  pub above : s.round < r
  pub weak : weak_at g.powers s r ≡ true

pub record AsksTimedOut (s : State) (t : Timeout) : Type 0 where
  pub height : t.height ≡ s.height
  pub round : t.round ≡ s.round
  pub step : holds_timed s t t.kind ≡ true

abbrev pub Asks : Context → State → Rule → Type 0
Asks g s Start = s.begun ≡ false
Asks g s (PrevoteFresh v) = AsksPrevoteFresh g s v
Asks g s (PrevoteAgain r v) = AsksPrevoteAgain g s r v
Asks g s AwaitPrevotes = AsksAwaitPrevotes g s
Asks g s (Lock v) = AsksLock g s v
Asks g s PrecommitNil = AsksPrecommitNil g s
Asks g s AwaitPrecommits = AsksAwaitPrecommits g s
Asks g s (Decide r v) = AsksDecide g s r v
Asks g s (DecideByBundle b) = AsksBundle g s b
Asks g s (SkipRound r) = AsksSkipRound g s r
Asks g s (TimedOut t) = AsksTimedOut s t

pub asked : (g : Context) (s : State) (k : Rule) → holds g s k ≡ true → Asks g s k
asked g s Start h = not-true _ h
asked g s (PrevoteFresh v) h = let a = and_parts _ _ h in record { at = a.0; proposed = a.1 }
asked g s (PrevoteAgain r v) h =
    let c = and_parts _ _ h in
    let b = and_parts _ _ c.0 in
    let a = and_parts _ _ b.0 in
    record { at = a.0; earlier = ltb-true _ _ a.1; proposed = b.1; quorum = c.1 }
asked g s AwaitPrevotes h = let b = and_parts _ _ h in let a = and_parts _ _ b.0 in record { at = a.0; quorum = a.1; first = not-true _ b.1 }
asked g s (Lock v) h =
    let e = and_parts _ _ h in
    let d = and_parts _ _ e.0 in
    let c = and_parts _ _ d.0 in
    let b = and_parts _ _ c.0 in
    let a = and_parts _ _ b.0 in
    record { begun = a.0; voting = not-true _ a.1; proposed = b.1; quorum = c.1; is_valid = d.1; first = not-true _ e.1 }
asked g s PrecommitNil h = let a = and_parts _ _ h in record { at = a.0; quorum = a.1 }
asked g s AwaitPrecommits h = let b = and_parts _ _ h in let a = and_parts _ _ b.0 in record { begun = a.0; quorum = a.1; first = not-true _ b.1 }
asked g s (Decide r v) h =
    let c = and_parts _ _ h in
    let b = and_parts _ _ c.0 in
    let a = and_parts _ _ b.0 in
    record { room = ltb-true _ _ a.0; proposed = a.1; quorum = b.1; is_valid = c.1 }
asked g s (DecideByBundle b) h =
    let q = and_parts _ _ h in
    let p = and_parts _ _ q.0 in
    let o = and_parts _ _ p.0 in
    let n = and_parts _ _ o.0 in
    record { room = ltb-true _ _ n.0; height = eqb-true _ _ n.1; digest = (bytes_eq-Decides _ _).0 o.1; quorum = p.1; is_valid = q.1 }
asked g s (SkipRound r) h = let b = and_parts _ _ h in let a = and_parts _ _ b.0 in record { begun = a.0; above = ltb-true _ _ a.1; weak = b.1 }
asked g s (TimedOut t) h = let b = and_parts _ _ h in let a = and_parts _ _ b.0 in record { height = eqb-true _ _ a.0; round = eqb-true _ _ a.1; step = b.1 }
