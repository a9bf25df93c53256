-- What a validator of any run saves may follow what it saved before.
use Rattle.std.proofs.Common.{ltb-true, eqb-true, sym, ◌≡◌, ℕ, suc, ◌+◌, ◌*◌, ◌^◌, ◌<◌, ◌≤◌, inl, inr, Bool, true, false, cond, List, [], ◌∷◌, ◌++◌, refl, subst, Option, Some, None, eq-eqb, lt-ltb, option_to_list, ltb-false, arith}
use Rattle.std.specs.Prelude.{◌==◌, ◌||◌, nat_lt}
use Rattle.std.proofs.lemmas.Bool.{cond_both, and_from, and_parts, cases_Bool}
use Rattle.powers.specs.Power.{IsQuorum, proposer}
use Rattle.messages.specs.Framing.{message_of}
use Rattle.protocol.specs.Values.{Value, id, valid}
use Rattle.protocol.specs.Tags.{Setting}
use Rattle.protocol.specs.declared.types.ValueAt.{ValueAt}
use Rattle.protocol.specs.declared.types.Step.{Step}
use Rattle.protocol.specs.declared.types.Step.TheVariants.{Propose, Prevote, Precommit}
use Rattle.protocol.specs.Messages.{Act, Bundle, Body, Message, step_number, step_eq, step_of, Record, Own, Decided}
use Rattle.protocol.specs.State.{Context, State, Node, Rule, Start, PrevoteFresh, PrevoteAgain, AwaitPrevotes, Lock, PrecommitNil, AwaitPrecommits, Decide, DecideByBundle, SkipRound, TimedOut}
use Rattle.protocol.specs.Rules.{holds, saved, starts, proposal_of, times_out}
use Rattle.protocol.specs.Restart.{delivered_of, height_of, last_place, opened}
use Rattle.protocol.specs.Queues.{pick}
use Rattle.protocol.specs.Refusals.{context, named_senders}
use Rattle.protocol.specs.Arrivals.{firing, taken_in}
use Rattle.protocol.specs.World.{World, Event, Sends, Comes, Fires, Asks, Resends, Restarts, happens, run, beginning, cut_record, moved}
use Rattle.protocol.specs.Laws.{place, IsAfter, Grows}
use Rattle.protocol.proofs.Asked.{asked}
use Rattle.protocol.proofs.Arrivals.{IsTaken, come_cases, try_cases, cut_cases}
use Rattle.protocol.proofs.Local.{fired_tied, kept_tied, restart_tied}
use Rattle.protocol.proofs.Certificates.{OptionCertified, saved_certified, taken_stamped, fired_keeps, opened_keeps}
use Rattle.vote_journal.specs.Order.{may_follow, is_after}
use Rattle.vote_journal.specs.Grammar.{IsRecord}
use Rattle.vote_journal.specs.Stopping.{Fits}
use Rattle.vote_journal.specs.Laws.{EachFollows, IsMade, EachMade, IsLawful, FollowsLaw}
use Rattle.vote_journal.proofs.Deciding.{certificate_rising, certified_rising}

-- ---- what is decided is of a height that decides, and its value might be delivered next

abbrev OptionValid : List Record → Option Record → Type 0
OptionValid j None = Unit {0}
OptionValid j (Some (Own h r act)) = Unit {0}
OptionValid j (Some (Decided b)) = (b.height < 2 ^ 48) × (valid (delivered_of j) b.value ≡ true)

starts_valid : (g : Context) (s : State) (r : ℕ) (v : Value) (j : List Record) → OptionValid j (starts g s r v)
starts_valid g s r v j = cond_both (proposer g.powers s.height r == g.me) _ _ (OptionValid j) (λ _. by_value s.valid_value) (λ _. tt)
  where
    by_value : (o : Option ValueAt) → OptionValid j (Some (proposal_of s r v o))
    by_value None = tt
    by_value (Some l) = tt

timed_valid : (g : Context) (s : State) (v : Value) (kind : Step) (j : List Record) → OptionValid j ((times_out s kind).saves g v)
timed_valid g s v Propose j = tt
timed_valid g s v Prevote j = tt
timed_valid g s v Precommit j = starts_valid g s (suc s.round) v j

saved_valid : (g : Context) (v : Value) (s : State) (j : List Record) (k : Rule) → s.delivered ≡ delivered_of j → holds g s k ≡ true → OptionValid j (saved g v s k)
saved_valid g v s j Start same h = starts_valid g s 0 v j
saved_valid g v s j (PrevoteFresh u) same h = tt
saved_valid g v s j (PrevoteAgain r u) same h = tt
saved_valid g v s j AwaitPrevotes same h = tt
saved_valid g v s j (Lock u) same h = cond_both (step_eq s.step Prevote) _ _ (OptionValid j) (λ _. tt) (λ _. tt)
saved_valid g v s j PrecommitNil same h = tt
saved_valid g v s j AwaitPrecommits same h = tt
saved_valid g v s j (Decide r u) same h = let a = asked g s (Decide r u) h in (a.room, subst (λ d. valid d u ≡ true) same a.is_valid)
saved_valid g v s j (DecideByBundle b) same h = let a = asked g s (DecideByBundle b) h in (omega (arith, a.height, a.room), subst (λ d. valid d b.value ≡ true) same a.is_valid)
saved_valid g v s j (SkipRound r) same h = starts_valid g s r v j
saved_valid g v s j (TimedOut t) same h = timed_valid g s v t.kind j

-- ---- places

step_small : (step : Step) → step_number step ≤ 2
step_small Propose = omega arith
step_small Prevote = omega arith
step_small Precommit = omega arith

right_of : (a b : Bool) → b ≡ true → (a || b) ≡ true
right_of true b e = refl
right_of false b e = e

left_of : (a b : Bool) → a ≡ true → (a || b) ≡ true
left_of true b e = refl
left_of false b e = absurd cc

not_less : (a b : ℕ) → nat_lt a b ≡ false → b ≤ a
not_less a b e = omega (arith, ltb-false a b e)

same_round : (old new before now : ℕ) → before ≤ 2 → now ≤ 2 → new ≤ old → 3 * old + before < 3 * new + now → (old ≡ new) × (before < now)
same_round old new before now b n le lt = (omega (arith, b, n, le, lt), omega (arith, b, n, le, lt))

later_place : (old : ℕ × Step) (round : ℕ) (step : Step) → place old.1 old.0 < place step round → is_after (Some old) round step ≡ true
later_place old round step lt = elim (cases_Bool (nat_lt old.0 round)) [
  | inl t ↦ left_of (nat_lt old.0 round) _ t
  | inr f ↦ (let k = same_round old.0 round (step_number old.1) (step_number step) (step_small old.1) (step_small step) (not_less old.0 round f) lt in
      right_of (nat_lt old.0 round) _ (and_from _ _ (eq-eqb old.0 round k.0) (lt-ltb _ _ k.1)))
]

after_last : (last : Option (ℕ × Step)) (round : ℕ) (step : Step) → IsAfter last round step → is_after last round step ≡ true
after_last None round step a = refl
after_last (Some old) round step a = later_place old round step a

from_place : (old : ℕ × Step) (round : ℕ) (step : Step) → is_after (Some old) round step ≡ true → place old.1 old.0 < place step round
from_place old round step e = elim (cases_Bool (nat_lt old.0 round)) [
  | inl t ↦ omega (arith, ltb-true _ _ t, step_small old.1)
  | inr f ↦ (let k = and_parts (old.0 == round) _ (rw f at e) in let same = eqb-true _ _ k.0 in let less = ltb-true _ _ k.1 in omega (arith, same, less))
]

from_after : (last : Option (ℕ × Step)) (round : ℕ) (step : Step) → is_after last round step ≡ true → IsAfter last round step
from_after None round step e = tt
from_after (Some old) round step e = from_place old round step e

-- ---- what a rule that holds saves may follow

grown_follows : (powers : List ℕ) (h r : ℕ) (act : Act) (j : List Record) → Grows (Own h r act ∷ j) → may_follow powers j (Own h r act) ≡ true
unfolding may_follow
grown_follows powers h r act j g = and_from _ _ (eq-eqb h (height_of j) g.0) (after_last (last_place j) r (step_of act) g.1)

decided_follows : (powers : List ℕ) (b : Bundle) (j : List Record) → Grows (Decided b ∷ j) → b.height < 2 ^ 48 → IsQuorum powers (named_senders b) → valid (delivered_of j) b.value ≡ true → may_follow powers j (Decided b) ≡ true
unfolding may_follow
decided_follows powers b j g few q v = and_from _ _ (and_from _ _ (and_from _ _ (eq-eqb b.height (height_of j) g.0) (lt-ltb _ _ few)) q) v

record_follows : (c : Setting) (p : ℕ) (o : Option Record) (j : List Record) → Grows (option_to_list o ++ j) → OptionCertified c p o → OptionValid j o → EachFollows c.powers j → EachFollows c.powers (option_to_list o ++ j)
record_follows c p None j g q v f = f
record_follows c p (Some (Own h r act)) j g q v f = (grown_follows c.powers h r act j g, f)
record_follows c p (Some (Decided b)) j g q v f = (decided_follows c.powers b j g v.0 q.1 v.1, f)

-- ---- how what a rule that holds decides is made

abbrev OptionMade : ℕ → Option Record → Type 0
OptionMade me None = Unit {0}
OptionMade me (Some (Own h r act)) = Unit {0}
OptionMade me (Some (Decided b)) = IsMade me b

starts_made : (c : Setting) (p : ℕ) (s : State) (r : ℕ) (v : Value) → OptionMade p (starts (context c p) s r v)
starts_made c p s r v = cond_both (proposer c.powers s.height r == p) _ _ (OptionMade p) (λ _. by_value s.valid_value) (λ _. tt)
  where
    by_value : (o : Option ValueAt) → OptionMade p (Some (proposal_of s r v o))
    by_value None = tt
    by_value (Some l) = tt

timed_made : (c : Setting) (p : ℕ) (s : State) (v : Value) (kind : Step) → OptionMade p ((times_out s kind).saves (context c p) v)
timed_made c p s v Propose = tt
timed_made c p s v Prevote = tt
timed_made c p s v Precommit = starts_made c p s (suc s.round) v

saved_made : (c : Setting) (p : ℕ) (v : Value) (s : State) (k : Rule) → holds (context c p) s k ≡ true → OptionMade p (saved (context c p) v s k)
saved_made c p v s Start h = starts_made c p s 0 v
saved_made c p v s (PrevoteFresh u) h = tt
saved_made c p v s (PrevoteAgain r u) h = tt
saved_made c p v s AwaitPrevotes h = tt
saved_made c p v s (Lock u) h = cond_both (step_eq s.step Prevote) _ _ (OptionMade p) (λ _. tt) (λ _. tt)
saved_made c p v s PrecommitNil h = tt
saved_made c p v s AwaitPrecommits h = tt
saved_made c p v s (Decide r u) h = record { sender = refl; name = refl; order = certificate_rising c p s r (id u) }
saved_made c p v s (DecideByBundle b) h = record { sender = refl; name = (asked (context c p) s (DecideByBundle b) h).digest; order = certified_rising c p b }
saved_made c p v s (SkipRound r) h = starts_made c p s r v
saved_made c p v s (TimedOut t) h = timed_made c p s v t.kind

record_made : (me : ℕ) (o : Option Record) (j : List Record) → OptionMade me o → EachMade me j → EachMade me (option_to_list o ++ j)
record_made me None j m e = e
record_made me (Some (Own h r act)) j m e = e
record_made me (Some (Decided b)) j m e = (m, e)

-- ---- nodes

pub fired_lawful : (c : Setting) (p : ℕ) (n : Node) (k : Rule) → IsLawful c p n → holds (context c p) n.state k ≡ true → IsLawful c p (firing c p n k).node
fired_lawful c p n k l h =
    let tied = fired_tied c p n k l.tied h in
    record {
      tied = tied;
      keeps = fired_keeps c p n k l.keeps;
      follows = record_follows c p (saved (context c p) (pick n.queues) n.state k) n.journal tied.grows (saved_certified c p (pick n.queues) n.state l.keeps k h) (saved_valid (context c p) (pick n.queues) n.state n.journal k l.tied.delivered h) l.follows;
      made = record_made p (saved (context c p) (pick n.queues) n.state k) n.journal (saved_made c p (pick n.queues) n.state k h) l.made;
    }

pub taken_lawful : (c : Setting) (p : ℕ) (n : Node) (m : Message) (b : Body) → IsLawful c p n → IsTaken c p n.state m b → IsLawful c p (taken_in n m b).node
taken_lawful c p n m b l t = record { tied = kept_tied n.state n.journal m b l.tied; keeps = taken_stamped c p n.state m b t l.keeps; follows = l.follows; made = l.made }

-- records each of which may follow those before it grow
each_grows : (powers : List ℕ) (j : List Record) → EachFollows powers j → Grows j
unfolding may_follow
each_grows powers [] f = tt
each_grows powers (Own h r act ∷ rest) f = let a = and_parts _ _ f.0 in (eqb-true _ _ a.0, from_after (last_place rest) r (step_of act) a.1, each_grows powers rest f.1)
each_grows powers (Decided b ∷ rest) f = (eqb-true _ _ (and_parts _ _ (and_parts _ _ (and_parts _ _ f.0).0).0).0, each_grows powers rest f.1)

pub opened_lawful : (c : Setting) (p : ℕ) (j : List Record) → EachFollows c.powers j → EachMade p j → IsLawful c p (opened p j)
opened_lawful c p j f m = record { tied = restart_tied p j (each_grows c.powers j f); keeps = opened_keeps c p j; follows = f; made = m }

-- ---- for those who save

-- what a rule that holds saves may follow what its node saved before, and is made as its record has to be
pub rule_saves : (c : Setting) (p : ℕ) (n : Node) (k : Rule) (r : Record) → IsLawful c p n → holds (context c p) n.state k ≡ true → saved (context c p) (pick n.queues) n.state k ≡ Some r
    → EachFollows c.powers (r ∷ n.journal) × EachMade p (r ∷ n.journal)
rule_saves c p n k r l h e =
    let next = fired_lawful c p n k l h in (
      subst (λ (o : Option Record). EachFollows c.powers (option_to_list o ++ n.journal)) e next.follows,
      subst (λ (o : Option Record). EachMade p (option_to_list o ++ n.journal)) e next.made,
    )

-- a record that is made so has a spelling where its fields are within their ranges
pub record_fits : (p : ℕ) (r : Record) (j : List Record) → Fits p r → EachMade p (r ∷ j) → IsRecord p r
record_fits p (Own h round act) j f m = f
record_fits p (Decided b) j f m = record { fits = f; sender = m.0.sender; name = m.0.name; order = m.0.order }

-- ---- in any run

abbrev AreLawful : Setting → (ℕ → Node) → Type 0
AreLawful c nodes = (p : ℕ) → IsLawful c p (nodes p)

with_lawful : (c : Setting) (nodes : ℕ → Node) (p : ℕ) (n : Node) → AreLawful c nodes → IsLawful c p n → AreLawful c (λ q. cond (q == p) n (nodes q))
with_lawful c nodes p n a l q = cond_both (q == p) n (nodes q) (IsLawful c q) (λ e. subst (λ i. IsLawful c i n) (sym (eqb-true q p e)) l) (λ _. a q)

happens_lawful : (c : Setting) (w : World) (e : Event) → AreLawful c w.nodes → AreLawful c (happens c w e).nodes
happens_lawful c w (Sends client op) a = a
happens_lawful c w (Comes p bytes) a = come_cases c p (w.nodes p) (message_of bytes) (λ o. AreLawful c (moved w p o).nodes) (with_lawful c w.nodes p (w.nodes p) a (a p))
    (λ m b _ _ t. with_lawful c w.nodes p (taken_in (w.nodes p) m b).node a (taken_lawful c p (w.nodes p) m b (a p) t))
    (λ m b _ _ h. with_lawful c w.nodes p (firing c p (w.nodes p) (DecideByBundle b)).node a (fired_lawful c p (w.nodes p) (DecideByBundle b) (a p) h))
happens_lawful c w (Fires p k) a = try_cases c p (w.nodes p) k (λ o. AreLawful c (moved w p o).nodes) (with_lawful c w.nodes p (w.nodes p) a (a p))
    (λ _ h. with_lawful c w.nodes p (firing c p (w.nodes p) k).node a (fired_lawful c p (w.nodes p) k (a p) h))
happens_lawful c w (Asks p) a = with_lawful c w.nodes p (w.nodes p) a (a p)
happens_lawful c w (Resends p) a = with_lawful c w.nodes p (w.nodes p) a (a p)
happens_lawful c w (Restarts p cut) a = with_lawful c w.nodes p (opened p (cut_record c p (w.nodes p) cut ++ (w.nodes p).journal)) a
    (opened_lawful c p (cut_record c p (w.nodes p) cut ++ (w.nodes p).journal)
    (cut_cases c p (w.nodes p) cut (λ rs. EachFollows c.powers (rs ++ (w.nodes p).journal)) (a p).follows (λ k h _. (fired_lawful c p (w.nodes p) k (a p) h).follows))
    (cut_cases c p (w.nodes p) cut (λ rs. EachMade p (rs ++ (w.nodes p).journal)) (a p).made (λ k h _. (fired_lawful c p (w.nodes p) k (a p) h).made)))

run_lawful : (c : Setting) (w : World) (events : List Event) → AreLawful c w.nodes → AreLawful c (run c w events).nodes
run_lawful c w [] a = a
run_lawful c w (e ∷ events) a = run_lawful c (happens c w e) events (happens_lawful c w e a)

pub follows : FollowsLaw
follows c events p = let l = run_lawful c (beginning c) events (λ q. opened_lawful c q [] tt tt) p in (l.follows, l.made)
