-- The one order in which the code fires rules: the first stage that names a rule names the next one.
use Rattle.std.specs.Prelude.{◌≡◌, ℕ, ◌<◌, ◌^◌, Bool, true, false, cond, not, ◌&&◌, Option, Some, None, List, ◌++◌, map, find, option_map, is_none, nat_lt, max, fold, take}
use Rattle.protocol.specs.Values.{Value, id, valid}
use Rattle.protocol.specs.Messages.{Propose, Prevote, Precommit, step_eq, Proposal, Vote}
use Rattle.protocol.specs.State.{Context, State, Rule, Start, PrevoteFresh, PrevoteAgain, AwaitPrevotes, Lock, PrecommitNil, AwaitPrecommits, Decide, SkipRound}
use Rattle.protocol.specs.Rules.{holds, stands_at, quorum_for, quorum_any, weak_at}

-- ---- the lowest and the highest

-- the proposal is of a lower round than the best so far
abbrev pub is_sooner : Proposal → Option Proposal → Bool
is_sooner q None = true
is_sooner q (Some best) = nat_lt q.round best.round

abbrev pub sooner : (Proposal → Bool) → Option Proposal → Proposal → Option Proposal
sooner test best q = cond (test q && is_sooner q best) (Some q) best

-- of the proposals that pass, the first of the lowest round
abbrev pub soonest : (Proposal → Bool) → List Proposal → Option Proposal
soonest test qs = fold (sooner test) None qs

abbrev pub higher : Option ℕ → ℕ → ℕ
higher None r = r
higher (Some best) r = max best r

-- of the numbers that pass, the highest
abbrev pub highest : (ℕ → Bool) → List ℕ → Option ℕ
highest test rs = fold (λ best r. cond (test r) (Some (higher best r)) best) None rs

-- ---- the stages, in the order in which they are tried

abbrev pub starting : State → Option Rule
starting s = cond s.begun None (Some Start)

-- the lowest round first
abbrev pub is_decidable : List ℕ → State → Proposal → Bool
is_decidable powers s q = stands_at powers s q.round q && valid s.delivered q.value && quorum_for powers s q.round Precommit (Some (id q.value))

abbrev pub deciding : List ℕ → State → Option Rule
deciding powers s = cond (nat_lt s.height (2 ^ 48)) (option_map (λ (q : Proposal). Decide q.round q.value) (soonest (is_decidable powers s) s.proposals)) None

-- the rounds of kept messages
abbrev pub rounds_of : State → List ℕ
rounds_of s = map (λ (q : Proposal). q.round) s.proposals ++ map (λ (v : Vote). v.round) s.votes

-- the highest round first
abbrev pub skipping : List ℕ → State → Option Rule
skipping powers s = option_map SkipRound (highest (λ r. nat_lt s.round r && weak_at powers s r) (rounds_of s))

abbrev pub is_fresh : List ℕ → State → Proposal → Bool
is_fresh powers s q = stands_at powers s s.round q && is_none q.valid_round

abbrev pub prevoting : List ℕ → State → Option Rule
prevoting powers s = cond (step_eq s.step Propose) (option_map (λ (q : Proposal). PrevoteFresh q.value) (find (is_fresh powers s) s.proposals)) None

-- the proposal's valid round is an earlier one, and has a quorum for its value
abbrev pub is_backed : List ℕ → State → Value → Option ℕ → Bool
is_backed powers s v None = false
is_backed powers s v (Some r) = nat_lt r s.round && quorum_for powers s r Prevote (Some (id v))

abbrev pub is_again : List ℕ → State → Proposal → Bool
is_again powers s q = stands_at powers s s.round q && is_backed powers s q.value q.valid_round

abbrev pub again : Proposal → Option ℕ → Option Rule
again q None = None
again q (Some r) = Some (PrevoteAgain r q.value)

abbrev pub again_of : Option Proposal → Option Rule
again_of None = None
again_of (Some q) = again q q.valid_round

abbrev pub prevoting_again : List ℕ → State → Option Rule
prevoting_again powers s = cond (step_eq s.step Propose) (again_of (find (is_again powers s) s.proposals)) None

abbrev pub is_lockable : List ℕ → State → Proposal → Bool
is_lockable powers s q = stands_at powers s s.round q && valid s.delivered q.value && quorum_for powers s s.round Prevote (Some (id q.value))

abbrev pub locking : List ℕ → State → Option Rule
locking powers s = cond (not (step_eq s.step Propose) && not s.value_found) (option_map (λ (q : Proposal). Lock q.value) (find (is_lockable powers s) s.proposals)) None

abbrev pub giving_up : List ℕ → State → Option Rule
giving_up powers s = cond (step_eq s.step Prevote && quorum_for powers s s.round Prevote None) (Some PrecommitNil) None

abbrev pub awaiting_prevotes : List ℕ → State → Option Rule
awaiting_prevotes powers s = cond (step_eq s.step Prevote && not s.prevotes_awaited && quorum_any powers s s.round Prevote) (Some AwaitPrevotes) None

abbrev pub awaiting_precommits : List ℕ → State → Option Rule
awaiting_precommits powers s = cond (not s.precommits_awaited && quorum_any powers s s.round Precommit) (Some AwaitPrecommits) None

abbrev pub or_next : Option Rule → Option Rule → Option Rule
or_next (Some k) other = Some k
or_next None other = other

-- the first rule that holds, but a timeout's or a bundle's
unfoldable pub enabled : List ℕ → State → Option Rule
enabled powers s =
    or_next (starting s)
    (or_next (deciding powers s)
    (or_next (skipping powers s)
    (or_next (prevoting powers s)
    (or_next (prevoting_again powers s)
    (or_next (locking powers s)
    (or_next (giving_up powers s)
    (or_next (awaiting_prevotes powers s)
    (awaiting_precommits powers s))))))))

-- ---- the order, said without the stages

-- the place of a rule's row; a timeout's and a bundle's rules have none
abbrev pub row : Rule → ℕ
row Start = 0
row (Decide r v) = 1
row (SkipRound r) = 2
row (PrevoteFresh v) = 3
row (PrevoteAgain r v) = 4
row (Lock v) = 5
row PrecommitNil = 6
row AwaitPrevotes = 7
row AwaitPrecommits = 8
row _ = 9

-- The lower round decides first, the higher round is skipped to first, and otherwise the earlier row is first.
abbrev pub comes_before : Rule → Rule → Bool
comes_before (Decide r v) (Decide q u) = nat_lt r q
comes_before (SkipRound r) (SkipRound q) = nat_lt q r
comes_before j k = nat_lt (row j) (row k)

-- as it was when n proposals were kept
abbrev pub with_first : ℕ → State → State
with_first n s = record s { proposals = take n s.proposals }

-- where the order names no rule, none holds but a timeout's or a bundle's
abbrev pub QuietLaw : Type 0
QuietLaw = (g : Context) (s : State) → enabled g.powers s ≡ None → (k : Rule) → row k < 9 → holds g s k ≡ false

-- a rule that the order names is neither a timeout's nor a bundle's, and holds
abbrev pub EnabledLaw : Type 0
EnabledLaw = (g : Context) (s : State) (k : Rule) → enabled g.powers s ≡ Some k → (row k < 9) × (holds g s k ≡ true)

-- No rule that comes before the one that the order names holds. Of rules of which neither comes before the other, it is the one whose proposal was kept first: it holds as soon as one of them does.
abbrev pub FirstLaw : Type 0
FirstLaw = (g : Context) (s : State) (j k : Rule) → enabled g.powers s ≡ Some k →
    (comes_before j k ≡ true → holds g s j ≡ false)
    × (comes_before j k ≡ false → comes_before k j ≡ false → (n : ℕ) → holds g (with_first n s) j ≡ true → holds g (with_first n s) k ≡ true)
