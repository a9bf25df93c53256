-- What taking a message in answers, and what it changes.
use Rattle.std.specs.Prelude.{◌≡◌, ℕ, ◌+◌, Bool, ◌||◌, not, ◌++◌, ◌∷◌, [], List, Option, Some, None, Result, Ok, Err, is_some, nat_lt, ◌==◌, if◌then◌else◌}
use Rattle.powers.specs.Power.{proposer}
use Rattle.protocol.specs.Messages.{Proposal, OfProposal}
use Rattle.protocol.specs.Rules.{keeping}
use Rattle.protocol.specs.State.{Context, State}
use Rattle.protocol.specs.Refusals.{Refusal}
use Rattle.protocol.specs.Answers.{IsVerdict}
use Rattle.protocol.specs.declared.refusal.Refusal.{Refusal as Answer}
use Rattle.protocol.specs.declared.refusal.Refusal.TheVariants as answers
use Rattle.round_states.specs.Machine.{Machine}

-- Nothing stands, or the answer tells the first cause; but memory may run out where nothing stands.
abbrev pub IsAnswer : Option Refusal → Result (Unit {0}) Answer → Type 0
IsAnswer first (Err answers.OutOfMemory) = first ≡ None
IsAnswer first result = IsVerdict first result

-- The handed answer is this context's, where it is asked for: of a proposal without a valid round.
abbrev pub IsTold : Context → Proposal → Bool → Type 0
IsTold g q genuine = (genuine || is_some q.valid_round) ≡ (g.genuine q.value || is_some q.valid_round)

-- ---- the parts

-- the causes that a proposal's height, round and sender give
abbrev pub place_answer : List ℕ → State → Proposal → Result (Unit {0}) Answer
place_answer powers s q =
    if not (q.height == s.height) then Err answers.OtherHeight
    else if nat_lt 1000000 q.round then Err answers.RoundLimit
    else if nat_lt (s.round + 2) q.round then Err answers.RoundAhead
    else if not (q.sender == proposer powers q.height q.round) then Err answers.WrongProposer
    else Ok tt

-- a proposal is kept, with the handed answer where it is asked for
abbrev pub with_proposal : Machine → Proposal → Bool → Machine
with_proposal m q genuine = record m { state = keeping m.state (OfProposal q); genuine = m.genuine ++ (genuine || is_some q.valid_round) ∷ []; room = None }
