-- What one validator's variables have to do with its journal, over every event: height, delivered list, lock and place are as the journal tells.
use Rattle.std.proofs.Common.{◌≡◌, ℕ, suc, ◌<◌, ◌≤◌, Bool, true, false, cond, not, List, [], ◌∷◌, ◌++◌, refl, sym, ◌∙◌, ap, subst, arith, Option, Some, None, eqb-true, option_to_list, le_refl}
use Rattle.std.specs.Prelude.{is_none, unwrap_or, ◌==◌}
use Rattle.std.proofs.lemmas.Bool.{and_parts, cond_both, and_from}
use Rattle.powers.specs.Power.{proposer}
use Rattle.messages.specs.Framing.{message_of}
use Rattle.protocol.specs.Values.{Value, items, id}
use Rattle.protocol.specs.Tags.{Setting}
use Rattle.protocol.specs.Messages.{Step, Propose, Prevote, Precommit, step_number, step_eq, step_of, Act, Proposing, Prevoting, Precommitting, Bundle, Body, Record, Own, Decided, Message, OfTx, OfProposal, OfVote, OfAsk, OfBundle}
use Rattle.protocol.specs.State.{State, Node, ValueAt, Rule, Start, PrevoteFresh, PrevoteAgain, AwaitPrevotes, Lock, PrecommitNil, AwaitPrecommits, Decide, DecideByBundle, SkipRound, TimedOut, Timeout}
use Rattle.protocol.specs.Rules.{holds, holds_timed, saved, changed, keeping, keeping_own, released_by, started, starts, proposal_of, decided, at_step, times_out, certificate, content_if}
use Rattle.protocol.specs.Restart.{restart, opened, height_of, delivered_of, lock_of, lock_by, last_place}
use Rattle.protocol.specs.Queues.{pick}
use Rattle.protocol.specs.Refusals.{context}
use Rattle.protocol.specs.Arrivals.{firing, taken_in, kept_message}
use Rattle.protocol.specs.World.{World, Event, Sends, Comes, Fires, Asks, Resends, Restarts, happens, run, beginning, cut_record, moved, Cut}
use Rattle.protocol.specs.Laws.{place, IsAfter, Grows, LockLaw}
use Rattle.protocol.specs.Lawful.{IsReached, Tied}
use Rattle.protocol.proofs.Asked.{asked}
use Rattle.protocol.proofs.Arrivals.{come_cases, try_cases, cut_cases}

-- ---- places

after_last : (b : Bool) (last : Option (ℕ × Step)) (round : ℕ) (step : Step) (r : ℕ) (st : Step) → b ≡ true → IsReached b last round step → place step round < place st r → IsAfter last r st
after_last true None round step r st e i h = tt
after_last true (Some a) round step r st e i h = omega arith
after_last false last round step r st e i h = cc

after_none : (b : Bool) (last : Option (ℕ × Step)) (round : ℕ) (step : Step) (r : ℕ) (st : Step) → b ≡ false → IsReached b last round step → IsAfter last r st
after_none true last round step r st e i = cc
after_none false last round step r st e i = subst (λ o. IsAfter o r st) (sym i) tt

reached_after : (last : Option (ℕ × Step)) (r : ℕ) (st : Step) → IsAfter last r st → IsReached true last r st
reached_after None r st i = tt
reached_after (Some a) r st i = omega arith

reached_more : (b : Bool) (last : Option (ℕ × Step)) (round : ℕ) (step : Step) (r : ℕ) (st : Step) → b ≡ true → IsReached b last round step → place step round ≤ place st r → IsReached true last r st
reached_more true None round step r st e i h = tt
reached_more true (Some a) round step r st e i h = omega arith
reached_more false last round step r st e i h = cc

step_small : (st : Step) → step_number st ≤ 2
step_small Propose = omega arith
step_small Prevote = omega arith
step_small Precommit = omega arith

-- ---- what a firing changes

-- a state t that differs from s in no field that the journal's decisions tell of
pub record Alike (s t : State) : Type 0 where
  pub height : t.height ≡ s.height
  pub delivered : t.delivered ≡ s.delivered

-- an own message joins
joins : (s t : State) (j : List Record) (act : Act) → Tied s j → Alike s t → t.begun ≡ true → t.lock ≡ lock_by t.round act s.lock
    → place (step_of act) t.round ≤ place t.step t.round → IsAfter (last_place j) t.round (step_of act) → Tied t (Own s.height t.round act ∷ j)
joins s t j act w a begun lock reached after = record {
  height = a.height ∙ w.height;
  delivered = a.delivered ∙ w.delivered;
  lock = lock ∙ ap (lock_by t.round act) w.lock;
  grows = (w.height, after, w.grows);
  last = subst (λ b. IsReached b (Some (t.round, step_of act)) t.round t.step) (sym begun) reached;
}

-- nothing joins
stays : (s t : State) (j : List Record) → Tied s j → Alike s t → t.lock ≡ s.lock → IsReached t.begun (last_place j) t.round t.step → Tied t j
stays s t j w a lock last = record { height = a.height ∙ w.height; delivered = a.delivered ∙ w.delivered; lock = lock ∙ w.lock; grows = w.grows; last = last }

starts_tied : (c : Setting) (p : ℕ) (picked : Value) (s : State) (j : List Record) (r : ℕ) → Tied s j → IsAfter (last_place j) r Propose → Tied (started s r) (option_to_list (starts (context c p) s r picked) ++ j)
starts_tied c p picked s j r w after = cond_both (proposer c.powers s.height r == p) _ _ (λ o. Tied (started s r) (option_to_list o ++ j))
    (λ _. by_value s.valid_value)
    (λ _. stays s (started s r) j w (record { height = refl; delivered = refl }) refl (reached_after _ r Propose after))
  where
    by_value : (o : Option ValueAt) → Tied (started s r) (proposal_of s r picked o ∷ j)
    by_value None = joins s (started s r) j (Proposing None picked) w (record { height = refl; delivered = refl }) refl refl (omega arith) after
    by_value (Some l) = joins s (started s r) j (Proposing (Some l.round) l.value) w (record { height = refl; delivered = refl }) refl refl (omega arith) after

decides_tied : (s : State) (j : List Record) (b : Bundle) → Tied s j → b.height ≡ s.height → Tied (decided s b.value) (Decided b ∷ j)
decides_tied s j b w e = record {
  height = ap suc w.height;
  delivered = ap (λ d. d ++ items b.value) w.delivered;
  lock = refl;
  grows = (e ∙ w.height, w.grows);
  last = refl;
}

at_step_parts : (s : State) (step : Step) → at_step s step ≡ true → (s.begun ≡ true) × (step_number s.step ≡ step_number step)
at_step_parts s step h = let k = and_parts s.begun (step_eq s.step step) h in (k.0, eqb-true _ _ k.1)

-- a vote at the step before
votes_tied : (s t : State) (j : List Record) (step : Step) (act : Act) → Tied s j → Alike s t → t.begun ≡ s.begun → t.round ≡ s.round → at_step s step ≡ true → step_number step < step_number (step_of act)
    → t.step ≡ step_of act → t.lock ≡ lock_by t.round act s.lock → Tied t (Own s.height t.round act ∷ j)
votes_tied s t j step act w a begun round at less now lock =
    let k = at_step_parts s step at in
    joins s t j act w a (begun ∙ k.0) lock (let e = ap step_number now in omega arith) (after_last s.begun (last_place j) s.round s.step t.round (step_of act) k.0 w.last (let e = k.1 in omega arith))

timed_tied : (c : Setting) (p : ℕ) (picked : Value) (s : State) (j : List Record) (t : Timeout) (kind : Step) → Tied s j → holds_timed s t kind ≡ true
    → Tied (times_out s kind).next (option_to_list ((times_out s kind).saves (context c p) picked) ++ j)
timed_tied c p picked s j t Propose w h = votes_tied s (record s { step = Prevote }) j Propose (Prevoting None) w (record { height = refl; delivered = refl }) refl refl h (omega arith) refl refl
timed_tied c p picked s j t Prevote w h = votes_tied s (record s { step = Precommit }) j Prevote (Precommitting None) w (record { height = refl; delivered = refl }) refl refl h (omega arith) refl refl
timed_tied c p picked s j t Precommit w h = starts_tied c p picked s j (suc s.round) w
    (after_last s.begun _ s.round s.step (suc s.round) Propose (and_parts _ _ h).0 w.last (let e = step_small s.step in omega arith))

-- Lock, at the step of prevotes or after it
locks_tied : (s : State) (j : List Record) (v : Value) → Tied s j → s.begun ≡ true → (b : Bool) → step_eq s.step Prevote ≡ b
    → Tied (record s { lock = cond b (Some (record { round = s.round; value = v })) s.lock; step = Precommit; valid_value = Some (record { round = s.round; value = v }); value_found = true })
    (option_to_list (cond b (Some (Own s.height s.round (Precommitting (Some v)))) None) ++ j)
locks_tied s j v w begun true now = votes_tied s (record s { lock = Some (record { round = s.round; value = v }); step = Precommit; valid_value = Some (record { round = s.round; value = v }); value_found = true })
    j Prevote (Precommitting (Some v)) w (record { height = refl; delivered = refl }) refl refl (and_from _ _ begun now) (omega arith) refl refl
locks_tied s j v w begun false now = stays s (record s { step = Precommit; valid_value = Some (record { round = s.round; value = v }); value_found = true }) j w (record { height = refl; delivered = refl }) refl
    (subst (λ b. IsReached b (last_place j) s.round Precommit) (sym begun) (reached_more s.begun (last_place j) s.round s.step s.round Precommit begun w.last (let e = step_small s.step in omega arith)))

changed_tied : (c : Setting) (p : ℕ) (picked : Value) (s : State) (j : List Record) (k : Rule) → Tied s j → holds (context c p) s k ≡ true → Tied (changed s k) (option_to_list (saved (context c p) picked s k) ++ j)
changed_tied c p picked s j Start w h = starts_tied c p picked s j 0 w (after_none s.begun _ _ _ 0 Propose (asked (context c p) s Start h) w.last)
changed_tied c p picked s j (PrevoteFresh v) w h = votes_tied s (changed s (PrevoteFresh v)) j Propose (Prevoting (content_if _ v)) w (record { height = refl; delivered = refl }) refl refl (asked (context c p) s (PrevoteFresh v) h).at (omega arith) refl refl
changed_tied c p picked s j (PrevoteAgain r v) w h = votes_tied s (changed s (PrevoteAgain r v)) j Propose (Prevoting (content_if _ v)) w (record { height = refl; delivered = refl }) refl refl (asked (context c p) s (PrevoteAgain r v) h).at (omega arith) refl refl
changed_tied c p picked s j AwaitPrevotes w h = stays s (changed s AwaitPrevotes) j w (record { height = refl; delivered = refl }) refl w.last
changed_tied c p picked s j (Lock v) w h = locks_tied s j v w (asked (context c p) s (Lock v) h).begun (step_eq s.step Prevote) refl
changed_tied c p picked s j PrecommitNil w h = votes_tied s (changed s PrecommitNil) j Prevote (Precommitting None) w (record { height = refl; delivered = refl }) refl refl (asked (context c p) s PrecommitNil h).at (omega arith) refl refl
changed_tied c p picked s j AwaitPrecommits w h = stays s (changed s AwaitPrecommits) j w (record { height = refl; delivered = refl }) refl w.last
changed_tied c p picked s j (Decide r v) w h = decides_tied s j (record { height = s.height; sender = p; round = r; id = id v; value = v; precommits = certificate (context c p) s r (id v) }) w refl
changed_tied c p picked s j (DecideByBundle b) w h = decides_tied s j (record b { sender = p; precommits = (context c p).certified b }) w (asked (context c p) s (DecideByBundle b) h).height
changed_tied c p picked s j (SkipRound r) w h =
    let k = asked (context c p) s (SkipRound r) h in
    let above : s.round < r = k.above in
    starts_tied c p picked s j r w (after_last s.begun _ s.round s.step r Propose k.begun w.last (let e = step_small s.step in omega arith))
changed_tied c p picked s j (TimedOut t) w h = timed_tied c p picked s j t t.kind w (asked (context c p) s (TimedOut t) h).step

-- ---- what is kept doesn't matter to it

keeping_tied : (s : State) (j : List Record) (b : Body) → Tied s j → Tied (keeping s b) j
keeping_tied s j (OfProposal q) w = record { height = w.height; delivered = w.delivered; lock = w.lock; grows = w.grows; last = w.last }
keeping_tied s j (OfVote v) w = record { height = w.height; delivered = w.delivered; lock = w.lock; grows = w.grows; last = w.last }
keeping_tied s j (OfTx t) w = w
keeping_tied s j (OfAsk t) w = w
keeping_tied s j (OfBundle t) w = w

keeping_own_tied : (s : State) (j : List Record) (o : Option Body) → Tied s j → Tied (keeping_own s o) j
keeping_own_tied s j None w = w
keeping_own_tied s j (Some b) w = keeping_tied s j b w

pub kept_tied : (s : State) (j : List Record) (m : Message) (b : Body) → Tied s j → Tied (kept_message s m b) j
kept_tied s j m (OfProposal q) w = keeping_tied s j (OfProposal q) w
kept_tied s j m (OfVote v) w = record { height = w.height; delivered = w.delivered; lock = w.lock; grows = w.grows; last = w.last }
kept_tied s j m (OfTx t) w = w
kept_tied s j m (OfAsk t) w = w
kept_tied s j m (OfBundle t) w = w

-- ---- nodes

abbrev pub IsTied : Node → Type 0
IsTied n = Tied n.state n.journal

pub fired_tied : (c : Setting) (p : ℕ) (n : Node) (k : Rule) → IsTied n → holds (context c p) n.state k ≡ true → IsTied (firing c p n k).node
fired_tied c p n k w h =
    let o = saved (context c p) (pick n.queues) n.state k in
    keeping_own_tied (changed n.state k) (option_to_list o ++ n.journal) (released_by p o) (changed_tied c p (pick n.queues) n.state n.journal k w h)

restart_reached : (o : Option (ℕ × Step)) → IsReached (not (is_none o)) o (unwrap_or o (0, Propose)).0 (unwrap_or o (0, Propose)).1
restart_reached None = refl
restart_reached (Some a) = le_refl _

pub restart_tied : (p : ℕ) (j : List Record) → Grows j → Tied (restart p j) j
unfolding restart
restart_tied p j g = record { height = refl; delivered = refl; lock = refl; grows = g; last = restart_reached (last_place j) }

-- ---- worlds

abbrev pub AllTied : (ℕ → Node) → Type 0
AllTied nodes = (p : ℕ) → IsTied (nodes p)

pub with_tied : (nodes : ℕ → Node) (p : ℕ) (n : Node) → AllTied nodes → IsTied n → AllTied (λ q. cond (q == p) n (nodes q))
with_tied nodes p n a t q = cond_both (q == p) n (nodes q) IsTied (λ _. t) (λ _. a q)

cut_grows : (c : Setting) (p : ℕ) (n : Node) (cut : Option Cut) → IsTied n → Grows (cut_record c p n cut ++ n.journal)
cut_grows c p n cut t = cut_cases c p n cut (λ rs. Grows (rs ++ n.journal)) t.grows (λ k e _. (fired_tied c p n k t e).grows)

pub happens_tied : (c : Setting) (w : World) (e : Event) → AllTied w.nodes → AllTied (happens c w e).nodes
happens_tied c w (Sends client op) a = a
happens_tied c w (Comes p bytes) a = come_cases c p (w.nodes p) (message_of bytes) (λ o. AllTied (moved w p o).nodes) (with_tied w.nodes p (w.nodes p) a (a p))
    (λ m b _ _ _. with_tied w.nodes p (taken_in (w.nodes p) m b).node a (kept_tied (w.nodes p).state (w.nodes p).journal m b (a p)))
    (λ m b _ _ h. with_tied w.nodes p (firing c p (w.nodes p) (DecideByBundle b)).node a (fired_tied c p (w.nodes p) (DecideByBundle b) (a p) h))
happens_tied c w (Fires p k) a = try_cases c p (w.nodes p) k (λ o. AllTied (moved w p o).nodes) (with_tied w.nodes p (w.nodes p) a (a p))
    (λ _ h. with_tied w.nodes p (firing c p (w.nodes p) k).node a (fired_tied c p (w.nodes p) k (a p) h))
happens_tied c w (Asks p) a = with_tied w.nodes p (w.nodes p) a (a p)
happens_tied c w (Resends p) a = with_tied w.nodes p (w.nodes p) a (a p)
happens_tied c w (Restarts p cut) a = with_tied w.nodes p (opened p (cut_record c p (w.nodes p) cut ++ (w.nodes p).journal)) a (restart_tied p (cut_record c p (w.nodes p) cut ++ (w.nodes p).journal) (cut_grows c p (w.nodes p) cut (a p)))

run_tied : (c : Setting) (w : World) (es : List Event) → AllTied w.nodes → AllTied (run c w es).nodes
run_tied c w [] a = a
run_tied c w (e ∷ es) a = run_tied c (happens c w e) es (happens_tied c w e a)

pub beginning_tied : (c : Setting) → AllTied (beginning c).nodes
beginning_tied c p = restart_tied p [] tt

-- after every run
pub always_tied : (c : Setting) (events : List Event) (p : ℕ) → IsTied ((run c (beginning c) events).nodes p)
always_tied c events = run_tied c (beginning c) events (beginning_tied c)

pub lock_law : LockLaw
lock_law c events p = let t = always_tied c events p in (t.delivered, t.height, t.lock)
