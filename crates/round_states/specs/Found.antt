-- What was found of a kept proposal.
use Rattle.std.specs.Prelude.{◌≡◌, List}
use Rattle.transactions.specs.Grammar.{IsValue}
use Rattle.protocol.specs.Values.{Item, id, valid}
use Rattle.protocol.specs.Messages.{Proposal}
use Rattle.round_states.specs.declared.state.KeptProposal.{KeptProposal}

abbrev pub proposal_in : KeptProposal → Proposal
proposal_in k = k.proposal

-- the answers beside it are right, after this delivered list
pub record IsFound (d : List Item) (k : KeptProposal) : Type 0 where
  pub id : k.id ≡ id k.proposal.value
  pub is_valid : k.is_valid ≡ valid d k.proposal.value
  pub fits : IsValue k.proposal.value
