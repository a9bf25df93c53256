-- Why a message is not kept: the first cause, in this order.
use Rattle.std.specs.Prelude.{◌≡◌, ℕ, ◌||◌, ◌==◌, filter, Option, Some, None, List, Result, Ok, Err, if◌then◌else◌}
use Rattle.std.specs.List.{list_any}
use Rattle.protocol.specs.Messages.{Proposal, Vote, proposal_eq, vote_eq}
use Rattle.protocol.specs.Refusals.{is_full, has_two}
use Rattle.protocol.specs.declared.refusal.Refusal.{Refusal as Answer}
use Rattle.protocol.specs.declared.refusal.Refusal.TheVariants as answers
use Rattle.vote_tally.specs.Kept.{Kept}
use Rattle.vote_tally.specs.declared.TallyFault.{TallyFault}
use Rattle.vote_tally.specs.declared.TallyFault.TheVariants.{Repeat, VoterFull, OutOfMemory}

-- against a vote
abbrev pub vote_fault : Kept → Vote → Option TallyFault
vote_fault k v =
    if list_any (vote_eq v) k.votes then Some Repeat
    else if is_full k.me k.proposals k.votes v.sender then Some VoterFull
    else None

-- against a proposal
abbrev pub proposal_fault : Kept → Proposal → Option TallyFault
proposal_fault k q =
    if list_any (proposal_eq q) k.proposals then Some Repeat
    else if is_full k.me k.proposals k.votes q.sender || has_two k.proposals q then Some VoterFull
    else None

-- The answer is that of the first cause. Memory runs out only where there is none.
abbrev pub IsAnswer : Option TallyFault → Result (Unit {0}) TallyFault → Type 0
IsAnswer fault (Ok done) = fault ≡ None
IsAnswer fault (Err OutOfMemory) = fault ≡ None
IsAnswer fault (Err Repeat) = fault ≡ Some Repeat
IsAnswer fault (Err VoterFull) = fault ≡ Some VoterFull

-- the numbers that callers see
abbrev pub number_of : TallyFault → ℕ
number_of Repeat = 1
number_of VoterFull = 2
number_of OutOfMemory = 3

-- what a node answers for it
abbrev pub of_tally : TallyFault → Answer
of_tally Repeat = answers.Repeat
of_tally VoterFull = answers.VoterFull
of_tally OutOfMemory = answers.OutOfMemory

-- ---- one sender's messages alone decide the answer to its next one

abbrev pub proposals_from : ℕ → List Proposal → List Proposal
proposals_from i proposals = filter (λ (q : Proposal). q.sender == i) proposals

abbrev pub votes_from : ℕ → List Vote → List Vote
votes_from i votes = filter (λ (v : Vote). v.sender == i) votes

pub record HasSameFrom (i : ℕ) (a b : Kept) : Type 0 where
  pub me : a.me ≡ b.me
  pub proposals : proposals_from i a.proposals ≡ proposals_from i b.proposals
  pub votes : votes_from i a.votes ≡ votes_from i b.votes

abbrev pub OwnLimitsLaw : Type 0
OwnLimitsLaw = (a b : Kept) → ((v : Vote) → HasSameFrom v.sender a b → vote_fault a v ≡ vote_fault b v)
    × ((q : Proposal) → HasSameFrom q.sender a b → proposal_fault a q ≡ proposal_fault b q)
