-- What is delivered keeps each client's order.
use Rattle.std.proofs.Common.{◌≡◌, ℕ, suc, ◌⊎◌, inl, inr, true, cond, List, [], ◌∷◌, ◌++◌, refl, subst, Option, Some, None, eqb-true, option_to_list}
use Rattle.std.specs.Prelude.{◌==◌}
use Rattle.std.specs.List.{list_all}
use Rattle.std.proofs.lemmas.Bool.{cond_both, and_parts, cases_Bool}
use Rattle.powers.specs.Power.{proposer}
use Rattle.protocol.specs.Values.{Value, Item, items, of, fresh, in_turn, fifo, valid}
use Rattle.protocol.specs.Tags.{Setting}
use Rattle.protocol.specs.Messages.{Step, Propose, Prevote, Precommit, step_eq, Record, Own, Decided}
use Rattle.protocol.specs.State.{State, Node, ValueAt, Rule, Start, PrevoteFresh, PrevoteAgain, AwaitPrevotes, Lock, PrecommitNil, AwaitPrecommits, Decide, DecideByBundle, SkipRound, TimedOut}
use Rattle.protocol.specs.Rules.{holds, saved, starts, proposal_of, times_out}
use Rattle.protocol.specs.Restart.{delivered_of, opened}
use Rattle.protocol.specs.Queues.{pick}
use Rattle.protocol.specs.Refusals.{context}
use Rattle.protocol.specs.Arrivals.{taken_in, firing}
use Rattle.protocol.specs.World.{World, Event, Sends, Comes, Fires, Asks, Resends, Restarts, happens, run, beginning, cut_record, delivered, moved}
use Rattle.protocol.specs.Lawful.{Tied}
use Rattle.protocol.specs.Laws.{FifoLaw}
use Rattle.messages.specs.Framing.{message_of}
use Rattle.protocol.proofs.Asked.{asked}
use Rattle.protocol.proofs.Arrivals.{come_cases, try_cases, cut_cases}
use Rattle.protocol.proofs.Local.{IsTied, AllTied, happens_tied, beginning_tied}

-- a decided value is valid
abbrev DecidesValid : State → Option Record → Type 0
DecidesValid s None = Unit {0}
DecidesValid s (Some (Own h r act)) = Unit {0}
DecidesValid s (Some (Decided b)) = valid s.delivered b.value ≡ true

starts_valid : (c : Setting) (p : ℕ) (s : State) (r : ℕ) (picked : Value) → DecidesValid s (starts (context c p) s r picked)
starts_valid c p s r picked = cond_both (proposer c.powers s.height r == p) _ _ (DecidesValid s) (λ _. by_value s.valid_value) (λ _. tt)
  where
    by_value : (o : Option ValueAt) → DecidesValid s (Some (proposal_of s r picked o))
    by_value None = tt
    by_value (Some l) = tt

timed_valid : (c : Setting) (p : ℕ) (picked : Value) (s : State) (kind : Step) → DecidesValid s ((times_out s kind).saves (context c p) picked)
timed_valid c p picked s Propose = tt
timed_valid c p picked s Prevote = tt
timed_valid c p picked s Precommit = starts_valid c p s (suc s.round) picked

saved_valid : (c : Setting) (p : ℕ) (picked : Value) (s : State) (k : Rule) → holds (context c p) s k ≡ true → DecidesValid s (saved (context c p) picked s k)
saved_valid c p picked s Start h = starts_valid c p s 0 picked
saved_valid c p picked s (PrevoteFresh v) h = tt
saved_valid c p picked s (PrevoteAgain r v) h = tt
saved_valid c p picked s AwaitPrevotes h = tt
saved_valid c p picked s (Lock v) h = cond_both (step_eq s.step Prevote) _ _ (DecidesValid s) (λ _. tt) (λ _. tt)
saved_valid c p picked s PrecommitNil h = tt
saved_valid c p picked s AwaitPrecommits h = tt
saved_valid c p picked s (Decide r v) h = (asked (context c p) s (Decide r v) h).is_valid
saved_valid c p picked s (DecideByBundle b) h = (asked (context c p) s (DecideByBundle b) h).is_valid
saved_valid c p picked s (SkipRound r) h = starts_valid c p s r picked
saved_valid c p picked s (TimedOut t) h = timed_valid c p picked s t.kind

abbrev IsFifo : List Record → Type 0
IsFifo j = fifo (delivered_of j) ≡ true

more_fifo : (s : State) (j : List Record) (o : Option Record) → Tied s j → DecidesValid s o → IsFifo j → IsFifo (option_to_list o ++ j)
unfolding valid
more_fifo s j None t d f = f
more_fifo s j (Some (Own h r act)) t d f = f
more_fifo s j (Some (Decided b)) t d f = subst (λ l. fifo (l ++ items b.value) ≡ true) t.delivered (and_parts _ _ d).0

abbrev AllFifo : (ℕ → Node) → Type 0
AllFifo nodes = (p : ℕ) → IsFifo (nodes p).journal

with_fifo : (nodes : ℕ → Node) (p : ℕ) (n : Node) → AllFifo nodes → IsFifo n.journal → AllFifo (λ q. cond (q == p) n (nodes q))
with_fifo nodes p n a t q = cond_both (q == p) n (nodes q) (λ (m : Node). IsFifo m.journal) (λ _. t) (λ _. a q)

fired_fifo : (c : Setting) (p : ℕ) (n : Node) (k : Rule) → IsTied n → holds (context c p) n.state k ≡ true → IsFifo n.journal → IsFifo (firing c p n k).node.journal
fired_fifo c p n k t h f = more_fifo n.state n.journal (saved (context c p) (pick n.queues) n.state k) t (saved_valid c p (pick n.queues) n.state k h) f

happens_fifo : (c : Setting) (w : World) (e : Event) → AllTied w.nodes → AllFifo w.nodes → AllFifo (happens c w e).nodes
happens_fifo c w (Sends client op) t a = a
happens_fifo c w (Comes p bytes) t a = come_cases c p (w.nodes p) (message_of bytes) (λ o. AllFifo (moved w p o).nodes) (with_fifo w.nodes p (w.nodes p) a (a p))
    (λ m b _ _ _. with_fifo w.nodes p (taken_in (w.nodes p) m b).node a (a p))
    (λ m b _ _ h. with_fifo w.nodes p (firing c p (w.nodes p) (DecideByBundle b)).node a (fired_fifo c p (w.nodes p) (DecideByBundle b) (t p) h (a p)))
happens_fifo c w (Fires p k) t a = try_cases c p (w.nodes p) k (λ o. AllFifo (moved w p o).nodes) (with_fifo w.nodes p (w.nodes p) a (a p))
    (λ _ h. with_fifo w.nodes p (firing c p (w.nodes p) k).node a (fired_fifo c p (w.nodes p) k (t p) h (a p)))
happens_fifo c w (Asks p) t a = with_fifo w.nodes p (w.nodes p) a (a p)
happens_fifo c w (Resends p) t a = with_fifo w.nodes p (w.nodes p) a (a p)
happens_fifo c w (Restarts p cut) t a = with_fifo w.nodes p (opened p (cut_record c p (w.nodes p) cut ++ (w.nodes p).journal)) a
    (cut_cases c p (w.nodes p) cut (λ rs. IsFifo (rs ++ (w.nodes p).journal)) (a p) (λ k h _. fired_fifo c p (w.nodes p) k (t p) h (a p)))

run_fifo : (c : Setting) (w : World) (es : List Event) → AllTied w.nodes → AllFifo w.nodes → AllFifo (run c w es).nodes
run_fifo c w [] t a = a
run_fifo c w (e ∷ es) t a = run_fifo c (happens c w e) es (happens_tied c w e t) (happens_fifo c w e t a)

beginning_fifo : (c : Setting) → AllFifo (beginning c).nodes
unfolding fifo
beginning_fifo c p = refl

-- from the items that stand to every client
turn_of : (d e : List Item) (client : ℕ) → list_all (λ (t : Item). in_turn fresh (of t.client e)) d ≡ true → (in_turn fresh (of client e) ≡ true) ⊎ (of client d ≡ [])
turn_of [] e client h = inr refl
turn_of (t ∷ d) e client h =
    let k = and_parts _ _ h in
    elim (cases_Bool (t.client == client)) [
      | inl y ↦ inl (subst (λ n. in_turn fresh (of n e) ≡ true) (eqb-true _ _ y) k.0)
      | inr n ↦ elim (turn_of d e client k.1) [ inl z ↦ inl z | inr z ↦ inr (rw n z) ]
    ]

every_client : (d : List Item) → fifo d ≡ true → (client : ℕ) → in_turn fresh (of client d) ≡ true
unfolding fifo
every_client d f client = elim (turn_of d d client f) [ inl k ↦ k | inr k ↦ rw k refl ]

pub fifo_law : FifoLaw
fifo_law c events p client = every_client (delivered (run c (beginning c) events) p) (run_fifo c (beginning c) events (beginning_tied c) (beginning_fifo c) p) client
