-- What a stage asks of a kept proposal, by what was found of it, and of a round.
use Rattle.std.specs.Prelude.{ℕ, Bool, true, false, cond, ◌&&◌, Option, Some, None, List, nat_lt, ◌==◌}
use Rattle.std.specs.List.{position_from}
use Rattle.protocol.specs.declared.types.Step.TheVariants.{Prevote, Precommit}
use Rattle.protocol.specs.State.{State}
use Rattle.protocol.specs.Rules.{stands_at, quorum_for, weak_at}
use Rattle.round_states.specs.declared.state.KeptProposal.{KeptProposal}
use Rattle.protocol.specs.Messages.{Proposal}
use Rattle.protocol.specs.Order.{is_fresh, is_again, is_lockable, is_decidable}
use Rattle.round_machine.specs.declared.deciding.Place.{Place}
use Rattle.round_machine.specs.declared.seeking.Sought.{Sought}
use Rattle.round_machine.specs.declared.seeking.Sought.TheVariants as soughts

abbrev pub can_decide : List ℕ → State → KeptProposal → Bool
can_decide powers s k = stands_at powers s k.proposal.round k.proposal && k.is_valid && quorum_for powers s k.proposal.round Precommit (Some k.id)

abbrev pub can_lock : List ℕ → State → KeptProposal → Bool
can_lock powers s k = stands_at powers s s.round k.proposal && k.is_valid && quorum_for powers s s.round Prevote (Some k.id)

-- its valid round is an earlier one, and has a quorum for its value
abbrev pub has_backing : List ℕ → State → List ℕ → Option ℕ → Bool
has_backing powers s x None = false
has_backing powers s x (Some r) = nat_lt r s.round && quorum_for powers s r Prevote (Some x)

abbrev pub can_prevote_again : List ℕ → State → KeptProposal → Bool
can_prevote_again powers s k = stands_at powers s s.round k.proposal && has_backing powers s k.id k.proposal.valid_round

-- a place of a lower round than the best so far
abbrev pub is_sooner_than : Place → Option Place → Bool
is_sooner_than place None = true
is_sooner_than place (Some best) = nat_lt place.round best.round

-- the sooner of the best so far and the place that was found in a round
abbrev pub sooner_place : Option Place → ℕ → Option ℕ → Option Place
sooner_place best round None = best
sooner_place best round (Some number) = cond (is_sooner_than (record { number = number; round = round }) best) (Some (record { number = number; round = round })) best

-- what is sought, in the words of the order of firing
abbrev pub is_sought : List ℕ → State → Sought → Proposal → Bool
is_sought powers s soughts.Fresh q = is_fresh powers s q
is_sought powers s soughts.Backed q = is_again powers s q
is_sought powers s soughts.Lockable q = is_lockable powers s q
is_sought powers s soughts.Decidable q = is_decidable powers s q

-- the place of the first proposal of the round that is sought
abbrev pub first_sought : List ℕ → State → ℕ → Sought → Option ℕ
first_sought powers s round sought = position_from (λ (q : Proposal). (q.round == round) && is_sought powers s sought q) 0 s.proposals

-- the rounds that are skipped to
abbrev pub later_weak : List ℕ → State → ℕ → Bool
later_weak powers s r = nat_lt s.round r && weak_at powers s r

-- a round, if it is later than the own one
abbrev pub if_later : ℕ → Option ℕ → Option ℕ
if_later own None = None
if_later own (Some r) = cond (nat_lt own r) (Some r) None
