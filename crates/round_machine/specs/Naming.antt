-- The code's names of rules: a rule about a proposal names its place among the kept ones.
use Rattle.std.specs.Prelude.{◌≡◌, ℕ, suc, ◌<◌, ◌^◌, true, Option, Some, None, IsSome, List, [], length, unwrap_or}
use Rattle.powers.specs.Power.{proposer}
use Rattle.protocol.specs.Values.{id}
use Rattle.protocol.specs.declared.types.Step.{Step}
use Rattle.protocol.specs.declared.types.Step.TheVariants.{Propose, Prevote, Precommit}
use Rattle.protocol.specs.State.{Context, State, Rule, Start, PrevoteFresh, PrevoteAgain, AwaitPrevotes, Lock, PrecommitNil, AwaitPrecommits, Decide, SkipRound, TimedOut}
use Rattle.protocol.specs.Messages.{Proposal}
use Rattle.protocol.specs.Tally.{senders, is_vote_for}
use Rattle.round_states.specs.Machine.{Machine}
use Rattle.round_states.specs.Steps.{proposal_at, IsPick, IsPickTold}
use Rattle.round_states.specs.declared.plans.Picked.{Picked}
use Rattle.round_machine.specs.declared.rule.Rule.{Rule as Name}
use Rattle.round_machine.specs.declared.rule.Rule.TheVariants as names
use Rattle.round_machine.specs.declared.rule.Input.{Input}
use Rattle.round_machine.specs.declared.rule.Input.TheVariants as inputs

-- the prevote for a proposal with a valid round
abbrev pub prevote_again : Proposal → Rule
prevote_again q = PrevoteAgain (unwrap_or q.valid_round 0) q.value

-- the rule that a name stands for
abbrev pub rule_of : State → Name → Rule
rule_of s names.Start = Start
rule_of s (names.Decide i) = Decide (proposal_at s i).round (proposal_at s i).value
rule_of s (names.SkipRound r) = SkipRound r
rule_of s (names.PrevoteFresh i) = PrevoteFresh (proposal_at s i).value
rule_of s (names.PrevoteAgain i) = prevote_again (proposal_at s i)
rule_of s (names.Lock i) = Lock (proposal_at s i).value
rule_of s names.PrecommitNil = PrecommitNil
rule_of s names.AwaitPrevotes = AwaitPrevotes
rule_of s names.AwaitPrecommits = AwaitPrecommits
rule_of s (names.TimedOut t) = TimedOut t

-- The place is a kept proposal's: for a fresh prevote one without a valid round, for one again one with it. A round
-- has 32 bits.
abbrev pub IsPlaced : State → Name → Type 0
IsPlaced s names.Start = Unit {0}
IsPlaced s (names.Decide i) = i < length s.proposals
IsPlaced s (names.SkipRound r) = r < 2 ^ 32
IsPlaced s (names.PrevoteFresh i) = (i < length s.proposals) × ((proposal_at s i).valid_round ≡ None)
IsPlaced s (names.PrevoteAgain i) = (i < length s.proposals) × IsSome (proposal_at s i).valid_round
IsPlaced s (names.Lock i) = i < length s.proposals
IsPlaced s names.PrecommitNil = Unit {0}
IsPlaced s names.AwaitPrevotes = Unit {0}
IsPlaced s names.AwaitPrecommits = Unit {0}
IsPlaced s (names.TimedOut t) = Unit {0}

-- ---- what a firing is handed

abbrev pub pick_in : Input → Option Picked
pick_in inputs.Nothing = None
pick_in (inputs.Picked p) = Some p
pick_in (inputs.OwnTags tags) = None

abbrev pub tags_in : Input → List (List ℕ)
tags_in inputs.Nothing = []
tags_in (inputs.Picked p) = []
tags_in (inputs.OwnTags tags) = tags

-- It serves the beginning of round r: a picked value, with the context's answer, where the own number is the
-- proposer and has no valid value.
abbrev pub ServesRound : Context → Machine → ℕ → Input → Type 0
ServesRound g m r input = IsPick (pick_in input) × IsPickTold g (pick_in input) × (proposer m.powers m.state.height r ≡ m.me → m.state.valid_value ≡ None → IsSome (pick_in input))

-- a timeout of precommits begins the next round
abbrev pub ServesTimeout : Context → Machine → Step → Input → Type 0
ServesTimeout g m Propose input = Unit {0}
ServesTimeout g m Prevote input = Unit {0}
ServesTimeout g m Precommit input = ServesRound g m (suc m.state.round) input

-- The input serves the rule: for a decision the tags of the own precommit for it, where one is kept.
abbrev pub Serves : Context → Machine → Name → Input → Type 0
Serves g m names.Start input = ServesRound g m 0 input
Serves g m (names.Decide i) input =
    let q = proposal_at m.state i in
    senders m.state.votes (is_vote_for q.round Precommit (Some (id q.value))) m.me ≡ true → tags_in input ≡ g.own_tags m.state.height q.round (id q.value)
Serves g m (names.SkipRound r) input = ServesRound g m r input
Serves g m (names.PrevoteFresh i) input = Unit {0}
Serves g m (names.PrevoteAgain i) input = Unit {0}
Serves g m (names.Lock i) input = Unit {0}
Serves g m names.PrecommitNil input = Unit {0}
Serves g m names.AwaitPrevotes input = Unit {0}
Serves g m names.AwaitPrecommits input = Unit {0}
Serves g m (names.TimedOut t) input = ServesTimeout g m t.kind input
