-- Why firing ends: each internal rule leaves less of the heights, of the rounds of a height, and of a round.
use Rattle.std.proofs.Common.{◌≡◌, ℕ, ◌+◌, ◌-◌, ◌*◌, ◌<◌, ◌^◌, Bool, true, false, cond, Option, Some, None, refl, arith}
use Rattle.std.proofs.lemmas.Bool.{and_parts}
use Rattle.protocol.specs.Values.{Value}
use Rattle.protocol.specs.Messages.{Body, OfTx, OfProposal, OfVote, OfAsk, OfBundle, step_eq}
use Rattle.protocol.specs.declared.types.Step.{Step}
use Rattle.protocol.specs.declared.types.Step.TheVariants.{Propose, Prevote, Precommit}
use Rattle.protocol.specs.State.{Context, State, Start, PrevoteFresh, AwaitPrevotes, Lock, PrecommitNil, AwaitPrecommits, Decide, SkipRound}
use Rattle.protocol.specs.Rules.{holds, at_step, keeping_own, changed, fired, released_by, saved}
use Rattle.protocol.specs.Order.{row}
use Rattle.protocol.proofs.Asked.{asked}
use Rattle.round_states.specs.Steps.{proposal_at}
use Rattle.round_machine.specs.Naming.{rule_of, prevote_again, IsPlaced}
use Rattle.round_machine.specs.declared.rule.Rule.{Rule as Name}
use Rattle.round_machine.specs.declared.rule.Rule.TheVariants as names

-- the firings that a round has left, at most: of its steps, and of the three rules that fire once
abbrev pub of_step : Step → ℕ
of_step Propose = 2
of_step Prevote = 1
of_step Precommit = 0

abbrev pub once : Bool → ℕ
once has_fired = cond has_fired 0 1

abbrev pub of_round : Step → Bool → Bool → Bool → ℕ
of_round step awaited found awaited_last = of_step step + once awaited + once found + once awaited_last

-- that a height has left: eight for each later round of 32 bits
abbrev pub of_height : Bool → ℕ → ℕ → ℕ
of_height false round steps = 8 * 2 ^ 32 + 6
of_height true round steps = 8 * (2 ^ 32 - round) + steps

-- and that a validator has left
abbrev pub left : State → ℕ
left s = (8 * 2 ^ 32 + 7) * (2 ^ 48 - s.height) + of_height s.begun s.round (of_round s.step s.prevotes_awaited s.value_found s.precommits_awaited)

kept_left : (s : State) (b : Option Body) → left (keeping_own s b) ≡ left s
kept_left s None = refl
kept_left s (Some (OfTx t)) = refl
kept_left s (Some (OfProposal q)) = refl
kept_left s (Some (OfVote v)) = refl
kept_left s (Some (OfAsk a)) = refl
kept_left s (Some (OfBundle b)) = refl

-- ---- over plain variables

start_less : (begun : Bool) (round steps : ℕ) → begun ≡ false → of_height true 0 5 < of_height begun round steps
start_less false round steps e = omega arith
start_less true round steps e = absurd cc

skip_less : (begun : Bool) (own round steps : ℕ) → begun ≡ true → own < round → round < 2 ^ 32 → of_height true round 5 < of_height begun own steps
skip_less true own round steps e later fits = omega arith
skip_less false own round steps e later fits = absurd cc

within : (begun : Bool) (round more less : ℕ) → begun ≡ true → less < more → of_height begun round less < of_height begun round more
within true round more less e lt = omega arith
within false round more less e lt = absurd cc

past_propose : (step : Step) → step_eq step Propose ≡ true → of_step Prevote < of_step step
past_propose Propose e = omega arith
past_propose Prevote e = absurd (let f : false ≡ true = e in cc)
past_propose Precommit e = absurd (let f : false ≡ true = e in cc)

past_prevote : (step : Step) → step_eq step Prevote ≡ true → of_step Precommit < of_step step
past_prevote Prevote e = omega arith
past_prevote Propose e = absurd (let f : false ≡ true = e in cc)
past_prevote Precommit e = absurd (let f : false ≡ true = e in cc)

fires_once : (has_fired : Bool) → has_fired ≡ false → once true < once has_fired
fires_once false e = omega arith
fires_once true e = absurd cc

-- ---- at a state

-- a firing within the round
round_less : (s : State) (step : Step) (awaited found awaited_last : Bool) → s.begun ≡ true → of_round step awaited found awaited_last < of_round s.step s.prevotes_awaited s.value_found s.precommits_awaited
    → left (record s { step = step; prevotes_awaited = awaited; value_found = found; precommits_awaited = awaited_last }) < left s
round_less s step awaited found awaited_last begun lt =
    let f = within s.begun s.round (of_round s.step s.prevotes_awaited s.value_found s.precommits_awaited) (of_round step awaited found awaited_last) begun lt in
    omega (arith, f)

prevote_less : (s : State) → at_step s Propose ≡ true → left (record s { step = Prevote }) < left s
prevote_less s at =
    let a = and_parts _ _ at in
    let f = past_propose s.step a.1 in
    round_less s Prevote s.prevotes_awaited s.value_found s.precommits_awaited a.0 (omega (arith, f))

changed_less : (g : Context) (s : State) (n : Name) → IsPlaced s n → row (rule_of s n) < 9 → holds g s (rule_of s n) ≡ true → left (changed s (rule_of s n)) < left s
changed_less g s names.Start placed internal h = let f = start_less s.begun s.round (of_round s.step s.prevotes_awaited s.value_found s.precommits_awaited) (asked g s Start h) in omega (arith, f)
changed_less g s (names.Decide i) placed internal h = let room = (asked g s (Decide (proposal_at s i).round (proposal_at s i).value) h).room in omega (arith, room)
changed_less g s (names.SkipRound r) placed internal h =
    let a = asked g s (SkipRound r) h in
    let f = skip_less s.begun s.round r (of_round s.step s.prevotes_awaited s.value_found s.precommits_awaited) a.begun a.above placed in omega (arith, f)
changed_less g s (names.PrevoteFresh i) placed internal h = prevote_less s (asked g s (PrevoteFresh (proposal_at s i).value) h).at
changed_less g s (names.PrevoteAgain i) placed internal h = prevote_less s (asked g s (prevote_again (proposal_at s i)) h).at
changed_less g s (names.Lock i) placed internal h =
    let a = asked g s (Lock (proposal_at s i).value) h in
    let f = fires_once s.value_found a.first in
    round_less s Precommit s.prevotes_awaited true s.precommits_awaited a.begun (omega (arith, f))
changed_less g s names.PrecommitNil placed internal h =
    let a = and_parts _ _ (asked g s PrecommitNil h).at in
    let f = past_prevote s.step a.1 in
    round_less s Precommit s.prevotes_awaited s.value_found s.precommits_awaited a.0 (omega (arith, f))
changed_less g s names.AwaitPrevotes placed internal h =
    let a = asked g s AwaitPrevotes h in
    let f = fires_once s.prevotes_awaited a.first in
    round_less s s.step true s.value_found s.precommits_awaited (and_parts _ _ a.at).0 (omega (arith, f))
changed_less g s names.AwaitPrecommits placed internal h =
    let a = asked g s AwaitPrecommits h in
    let f = fires_once s.precommits_awaited a.first in
    round_less s s.step s.prevotes_awaited s.value_found true a.begun (omega (arith, f))
changed_less g s (names.TimedOut t) placed internal h = absurd (omega arith)

-- the firing of an enabled rule
pub less_after : (g : Context) (v : Value) (s t : State) (n : Name) → IsPlaced s n → row (rule_of s n) < 9 → holds g s (rule_of s n) ≡ true → t ≡ fired g v s (rule_of s n) → left t < left s
less_after g v s t n placed internal h e =
    let k = kept_left (changed s (rule_of s n)) (released_by g.me (saved g v s (rule_of s n))) in
    rw (e, k) (changed_less g s n placed internal h)
