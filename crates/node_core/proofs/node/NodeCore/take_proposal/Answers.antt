use Rattle.std.proofs.Common.{[], refl, sym, ap, subst, ◌∙◌}
use Rattle.protocol.specs.Messages.{OfProposal}
use Rattle.round_states.specs.Machine.{Machine}
use Rattle.node_core.specs.Core.{Core, IsSound, context_of}
use Rattle.node_core.specs.Seen.{seen}
use Rattle.node_core.proofs.Sound.{sound_kept, same_agreed, roomless}
use Rattle.node_core.proofs.node.NodeCore.take_proposal.Goals as goal

-- it is not taken
pub invariant_of-self : goal.invariant_of-self
invariant_of-self g c =
    let core : Core = seen c.self.inside in
    subst (λ (m : Machine). IsSound (record core { machine = m })) (sym (c.in_err-take_proposal.ensures.err ∙ roomless core.machine c.self.invariant.room)) c.self.invariant

pub invariant_of-self-2 : goal.invariant_of-self-2
invariant_of-self-2 g c =
    let core : Core = seen c.self.inside in
    let state = ap (λ (m : Machine). m.state) c.in_ok-take_proposal.ensures.ok in
    let told = rw (← c.self.view_is) at c.is_genuine-genuine.ensures in
    let agrees = c.in_ok-take_proposal.ensures.agrees (context_of core) c.self.invariant.agrees told in
    sound_kept core c.take_proposal.new.self (record { body = OfProposal c.args.proposal; tags = [] }) c.self.invariant agrees (ap (λ (m : Machine). m.room) c.in_ok-take_proposal.ensures.ok) (rw state c.self.invariant.stamps) state (rw state refl) (rw state refl)
    (λ running. let k = (c.self.invariant.kept running).lawful.keeps in rw state (record { stamped = k.stamped; rights = k.rights }))

pub returns-clause-beside : goal.returns-clause-beside
returns-clause-beside g c =
    let core : Core = seen c.self.inside in
    let told = rw (← c.self.view_is) at c.is_genuine-genuine.ensures in
    let agrees = c.in_ok-take_proposal.ensures.agrees (context_of core) c.self.invariant.agrees told in
    let same = same_agreed core c.take_proposal.new.self agrees in
    rw (← c.self.view_is) (record { same = record { powers = same.powers; me = same.me; ring = refl }; queues = refl; decisions = refl; said = refl; journal = refl; outgoing = refl; scheduled = refl; fired = refl })
