-- A core may cross threads where its store may: each of its parts by itself, since a `search` that goes down through all of them runs out of steps.
use denote.RattleType.{RattleType}
use denote.Param.Send.{IsSend, IsSync, sendable}
use Rattle.std.proofs.Crossing.{crosses}
use Rattle.std.proofs.MapsCrossing as maps
use Rattle.authenticators.specs.contracts.key_ring.KeyRing as KeyRing
use Rattle.transactions.specs.contracts.tx.Tx as Tx
use Rattle.transactions.specs.contracts.tx.Value as Value
use Rattle.messages.specs.contracts.body.Proposal as Proposal
use Rattle.messages.specs.contracts.body.Precommit as Precommit
use Rattle.messages.specs.contracts.body.Bundle as Bundle
use Rattle.messages.specs.contracts.body.Body as Body
use Rattle.mempool.specs.contracts.Mempool as Mempool
use Rattle.height_catchup.specs.contracts.decisions.Decisions as Decisions
use Rattle.vote_journal.specs.contracts.journal.Journal as Journal
use Rattle.vote_tally.specs.contracts.Tally as Tally
use Rattle.proposal_validity.specs.contracts.Frontier as Frontier
use Rattle.powers.specs.contracts.Powers as Powers
use Rattle.vote_tally.specs.contracts.totals.Topic as Topic
use Rattle.vote_tally.specs.contracts.totals.Total as Total
use Rattle.vote_tally.specs.contracts.heights.Heights as Heights
use Rattle.protocol.specs.contracts.types.ValueAt as ValueAt
use Rattle.protocol.specs.contracts.types.Stamp as Stamp
use Rattle.round_states.specs.contracts.state.KeptProposal as KeptProposal
use Rattle.round_states.specs.contracts.state.State as State
use Rattle.state_journal.specs.contracts.journal.NodeJournal as NodeJournal
use Rattle.node_core.specs.contracts.node.NodeCore as NodeCore
use Rattle.vote_journal.specs.declared.store.Store.{Ghosts}

ring_send : IsSend KeyRing.the_field.row
ring_send = search (sendable, crosses) depth 40

tx_send : IsSend Tx.the_field.row
tx_send = search (sendable, crosses) depth 40

tx_sync : IsSync Tx.the_field.row
tx_sync = search (sendable, crosses) depth 40

value_send : IsSend Value.the_field.row
value_send = search (tx_send, tx_sync, sendable, crosses) depth 40

proposal_send : IsSend Proposal.the_field.row
proposal_send = search (value_send, sendable, crosses) depth 40

precommit_send : IsSend Precommit.the_field.row
precommit_send = search (sendable, crosses) depth 40

bundle_send : IsSend Bundle.the_field.row
bundle_send = search (value_send, precommit_send, sendable, crosses) depth 40

body_send : IsSend Body.the_field.row
body_send = search (tx_send, proposal_send, bundle_send, sendable, crosses) depth 40

mempool_send : IsSend Mempool.the_field.row
mempool_send = search (tx_send, sendable, crosses, maps.crosses) depth 60

decisions_send : IsSend Decisions.the_field.row
decisions_send = search (bundle_send, sendable, crosses) depth 40

frontier_send : IsSend Frontier.the_field.row
frontier_send = search (sendable, crosses) depth 40

powers_send : IsSend Powers.the_field.row
powers_send = search (sendable, crosses) depth 40

topic_send : IsSend Topic.the_field.row
topic_send = search sendable depth 40

total_send : IsSend Total.the_field.row
total_send = search sendable depth 40

heights_send : IsSend Heights.the_field.row
heights_send = search (sendable, crosses) depth 40

tally_send : IsSend Tally.the_field.row
tally_send = search (powers_send, topic_send, total_send, heights_send, sendable, crosses, maps.crosses) depth 60 fits 20000

value_at_send : IsSend ValueAt.the_field.row
value_at_send = search (value_send, sendable, crosses) depth 40

stamp_send : IsSend Stamp.the_field.row
stamp_send = search (precommit_send, sendable, crosses) depth 40

kept_send : IsSend KeptProposal.the_field.row
kept_send = search (proposal_send, sendable, crosses) depth 40

state_send : IsSend State.the_field.row
state_send = search (tally_send, value_at_send, kept_send, stamp_send, value_send, frontier_send, sendable, crosses, maps.crosses) depth 60 fits 20000

-- the journal, and the core

module _ (S : RattleType) (g : Ghosts S.Denot) (s : IsSend S) where
  journal_send : IsSend (Journal.the_field S g).row
  journal_send = search (sendable, crosses) depth 40

  node_journal_send : IsSend (NodeJournal.the_field S g).row
  node_journal_send = let j = journal_send in search (sendable, crosses) depth 40

  pub core_send : IsSend (NodeCore.the_field S g).row
  core_send = let j = node_journal_send in search (ring_send, state_send, mempool_send, decisions_send, body_send, sendable, crosses) depth 60 fits 20000
