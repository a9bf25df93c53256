use Rattle.std.proofs.Common.{◌≡◌, ℕ, List, None, ap, subst}
use Rattle.std.specs.Prelude.{is_none}
use Rattle.std.proofs.lemmas.Bool.{not-false}
use Rattle.protocol.specs.Values.{id}
use Rattle.protocol.specs.Messages.{Body, Proposal, OfProposal, OfVote}
use Rattle.protocol.proofs.Arrivals.{none_stand}
use Rattle.frame_admission.specs.Gate.{gate_causes}
use Rattle.frame_admission.specs.Examined.{IsFoundOf, found_of}
use Rattle.frame_admission.specs.declared.examined.Found.{Found}
use Rattle.frame_admission.specs.declared.examined.Found.TheVariants as founds
use Rattle.protocol.specs.State.{State}
use Rattle.protocol.specs.Refusals.{first_cause, proposal_causes}
use Rattle.node_core.specs.Core.{setting, setting_of}
use Rattle.protocol.specs.Answers.{IsAnswer}
use Rattle.node_core.proofs.Telling.{result_refused}
use Rattle.node_core.proofs.Broken.{never_broken, err_same}
use Rattle.node_core.proofs.node.NodeCore.take.Goals as goal

pub returns-in-Proposal-clause-answer : goal.returns-in-Proposal-clause-answer
unfolding setting
returns-in-Proposal-clause-answer g c = λ n s.
    let old = c.args.self.now in
    rw c.in-Proposal.is (subst (λ (x : State). IsAnswer (first_cause (proposal_causes old.machine.powers old.machine.me x c.in-Proposal.proposal)) c.take_proposal.result) s.state c.take_proposal.ensures.answer)

pub returns-in-Tx-clause-err : goal.returns-in-Tx-clause-err
returns-in-Tx-clause-err g c = result_refused c.take_tx.result _ _ c.take_tx.ensures.err

pub returns-in-Proposal-clause-err : goal.returns-in-Proposal-clause-err
returns-in-Proposal-clause-err g c = result_refused c.take_proposal.result _ _ c.take_proposal.ensures.err

pub returns-in-Vote-clause-err : goal.returns-in-Vote-clause-err
returns-in-Vote-clause-err g c = result_refused c.take_vote.result _ _ c.take_vote.ensures.err

pub returns-in-Ask-clause-err : goal.returns-in-Ask-clause-err
returns-in-Ask-clause-err g c = result_refused c.take_ask.result _ _ c.take_ask.ensures.err

-- what was found of a transaction or a proposal is so
proposal_found : (q : Proposal) (found : Found) → IsFoundOf (OfProposal q) found → found ≡ founds.Proposal (id q.value)
proposal_found q (founds.Proposal x) is = ap (λ (y : List ℕ). founds.Proposal y) is
proposal_found q (founds.Tx right) is = absurd is
proposal_found q founds.Nothing is = absurd is

pub take_tx-requires-clause-right : goal.take_tx-requires-clause-right
take_tx-requires-clause-right g c = λ s p h.
    c.is_right.ensures _ (subst (λ (b : Body). c.args.let_in.found ≡ found_of s p c.args.let_in.message b) c.in-Tx.is (c.requires.found s p h))

pub id-requires : goal.id-requires
id-requires g c = (id c.in-Proposal.proposal.value, proposal_found c.in-Proposal.proposal c.args.let_in.found (subst (λ (b : Body). IsFoundOf b c.args.let_in.found) c.in-Proposal.is c.requires.lawful.found))

pub take_proposal-requires-clause-id : goal.take_proposal-requires-clause-id
take_proposal-requires-clause-id g c =
    c.id.ensures (id c.in-Proposal.proposal.value) (proposal_found c.in-Proposal.proposal c.args.let_in.found (subst (λ (b : Body). IsFoundOf b c.args.let_in.found) c.in-Proposal.is c.requires.lawful.found))

pub take_vote-requires-clause-right : goal.take_vote-requires-clause-right
take_vote-requires-clause-right g c =
    let old = c.args.self.now in
    let none = subst (λ (b : Body). first_cause (gate_causes (setting_of old) old.machine.me b c.args.let_in.message.tags) ≡ None) c.in-Vote.is c.requires.admitted in
    not-false _ (none_stand (gate_causes (setting_of old) old.machine.me (OfVote c.in-Vote.vote) c.args.let_in.message.tags) (ap is_none none)).1.0

-- ---- what is not a bundle saves nothing

pub returns-in-Tx-clause-broken : goal.returns-in-Tx-clause-broken
returns-in-Tx-clause-broken g c = λ is. absurd (never_broken c.take_tx.result _ _ (err_same c.take_tx.result _ _ c.take_tx.ensures.err is) c.take_tx.ensures.journal is)

pub returns-in-Proposal-clause-broken : goal.returns-in-Proposal-clause-broken
returns-in-Proposal-clause-broken g c = λ is. absurd (never_broken c.take_proposal.result _ _ (err_same c.take_proposal.result _ _ c.take_proposal.ensures.err is) c.take_proposal.ensures.journal is)

pub returns-in-Vote-clause-broken : goal.returns-in-Vote-clause-broken
returns-in-Vote-clause-broken g c = λ is. absurd (never_broken c.take_vote.result _ _ (err_same c.take_vote.result _ _ c.take_vote.ensures.err is) c.take_vote.ensures.journal is)

pub returns-in-Ask-clause-broken : goal.returns-in-Ask-clause-broken
returns-in-Ask-clause-broken g c = λ is. absurd (never_broken c.take_ask.result _ _ (err_same c.take_ask.result _ _ c.take_ask.ensures.err is) c.take_ask.ensures.journal is)

pub returns-in-Bundle-clause-broken : goal.returns-in-Bundle-clause-broken
returns-in-Bundle-clause-broken g c = λ is n s. rw c.in-Bundle.is (c.take_bundle.ensures.broken is n s)
