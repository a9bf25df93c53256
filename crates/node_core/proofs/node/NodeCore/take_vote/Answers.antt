use Rattle.std.proofs.Common.{◌≡◌, inl, inr, refl, ap, ◌∙◌, eqb-true}
use Rattle.std.specs.Prelude.{is_none}
use Rattle.std.proofs.lemmas.Bool.{not-false}
use Rattle.std.proofs.lemmas.Result.{err_from_is_err_and}
use Rattle.round_states.specs.Machine.{Machine}
use Rattle.std.proofs.lemmas.List.Elements.{All-append}
use Rattle.protocol.specs.Messages.{Message, Vote, OfVote, step_of_vote}
use Rattle.protocol.specs.Refusals.{vote_causes}
use Rattle.protocol.proofs.Arrivals.{none_stand}
use Rattle.protocol.proofs.Certificates.{taken_stamped}
use Rattle.node_core.proofs.Telling.{tells_itself, unkept_other}
use Rattle.node_core.specs.Core.{Core, IsStamp, setting_of, context_of}
use Rattle.node_core.specs.Seen.{seen}
use Rattle.node_core.proofs.Sound.{sound_kept, stamps_kept}
use Rattle.node_core.proofs.node.NodeCore.take_vote.Goals as goal

pub invariant_of-self-2 : goal.invariant_of-self-2
invariant_of-self-2 g c =
    let core : Core = seen c.self.inside in
    let state = ap (λ (m : Machine). m.state) c.in_ok-take_vote.ensures.ok in
    let agrees = c.in_ok-take_vote.ensures.agrees (context_of core) c.self.invariant.agrees in
    let message : Message = record { body = OfVote c.args.vote; tags = c.args.tags } in
    let tag = rw (← c.self.view_is) at c.requires.right in
    let causes = none_stand (vote_causes core.machine.me core.machine.state c.args.vote) (ap is_none c.in_ok-take_vote.ensures.answer) in
    let height : c.args.vote.height ≡ core.machine.state.height = eqb-true _ _ (not-false _ causes.0) in
    sound_kept core c.take_vote.new.self message c.self.invariant agrees (ap (λ (m : Machine). m.room) c.in_ok-take_vote.ensures.ok)
    (rw state (All-append IsStamp core.machine.state.stamps _ c.self.invariant.stamps (stamps_kept (step_of_vote c.args.vote.step) c.args.vote.round c.args.vote.sender c.args.vote.content c.args.tags c.requires.tags)))
    state (rw state refl) (rw state refl)
    (λ running. rw state (taken_stamped (setting_of core) core.machine.me core.machine.state message (OfVote c.args.vote)
    (record { tag = tag; height = λ v i. elim i [ inl same ↦ ap (λ (x : Vote). x.height) same ∙ height | inr none ↦ absurd none ] })
    (c.self.invariant.kept running).lawful.keeps))

pub returns-in_err-take_vote-clause-journal : goal.returns-in_err-take_vote-clause-journal
returns-in_err-take_vote-clause-journal g c =
    let p = err_from_is_err_and c.from_residual.result c.from_residual.ensures.1 in
    rw (← c.self.view_is, p.1, p.2) (tells_itself _ c.self.inside.journal (unkept_other _ c.in_err-take_vote.field-0.0 c.in_err-take_vote.ensures.answer))
