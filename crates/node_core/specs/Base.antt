-- A node as it is, but for its delivered list and its journal.
use Rattle.std.specs.Prelude.{◌≡◌, map, None}
use Rattle.proposal_validity.specs.Standing.{IsFrontierOf}
use Rattle.round_states.specs.Machine.{Machine}
use Rattle.round_states.specs.Found.{proposal_in}
use Rattle.node_core.specs.Core.{Core}
use Rattle.node_core.specs.declared.base.Variables.{Variables}
use Rattle.node_core.specs.declared.base.Base.{Base}

pub record AreVariables (machine : Machine) (v : Variables) : Type 0 where
  pub height : v.height ≡ machine.state.height
  pub begun : v.has_begun ≡ machine.state.begun
  pub round : v.round ≡ machine.state.round
  pub step : v.step ≡ machine.state.step
  pub lock : v.lock ≡ machine.state.lock
  pub valid_value : v.valid_value ≡ machine.state.valid_value
  pub prevotes_awaited : v.are_prevotes_awaited ≡ machine.state.prevotes_awaited
  pub value_found : v.is_value_found ≡ machine.state.value_found
  pub precommits_awaited : v.are_precommits_awaited ≡ machine.state.precommits_awaited
  pub proposals : map proposal_in v.proposals.items ≡ machine.state.proposals
  pub genuine : map (λ k. k.is_genuine) v.proposals.items ≡ machine.genuine
  pub tally : v.tally ≡ record { powers = machine.powers; me = machine.me; proposals = machine.state.proposals; votes = machine.state.votes; ready = None }
  pub stamps : v.stamps.items ≡ machine.state.stamps

pub record IsBase (core : Core) (base : Base) : Type 0 where
  pub variables : AreVariables core.machine base.variables
  pub frontier : IsFrontierOf core.machine.state.delivered base.frontier
  pub queues : base.queues ≡ core.queues
  pub said : base.said.items ≡ core.said
  pub outgoing : map (λ frame. frame.items) base.outgoing.items ≡ core.outgoing
  pub scheduled : base.scheduled.items ≡ core.scheduled
  pub fired : base.fired ≡ core.fired
