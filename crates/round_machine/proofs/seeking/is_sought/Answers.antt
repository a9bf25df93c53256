use Rattle.std.proofs.Common.{◌∙◌}
use Rattle.round_machine.proofs.Stages.{fresh_at, again_at, lockable_at, decidable_at}
use Rattle.round_machine.proofs.seeking.is_sought.Goals as goal

pub returns-in-Fresh : goal.returns-in-Fresh
returns-in-Fresh c = rw c.in-Fresh.is (c.is_fresh.ensures ∙ fresh_at c.args.state.now.powers c.args.state.now.state c.kept.result.now c.args.place c.index-kept-place.result c.kept.ensures.proposals c.kept.ensures.found c.requires c.index-kept-place.is)

pub returns-in-Backed : goal.returns-in-Backed
returns-in-Backed c = rw c.in-Backed.is (c.can_prevote_again.ensures ∙ again_at c.args.state.now.powers c.args.state.now.state c.kept.result.now c.args.place c.index-kept-place.result c.kept.ensures.proposals c.kept.ensures.found c.requires c.index-kept-place.is)

pub returns-in-Lockable : goal.returns-in-Lockable
returns-in-Lockable c = rw c.in-Lockable.is (c.can_lock.ensures ∙ lockable_at c.args.state.now.powers c.args.state.now.state c.kept.result.now c.args.place c.index-kept-place.result c.kept.ensures.proposals c.kept.ensures.found c.requires c.index-kept-place.is)

pub returns-in-Decidable : goal.returns-in-Decidable
returns-in-Decidable c = rw c.in-Decidable.is (c.can_decide.ensures ∙ decidable_at c.args.state.now.powers c.args.state.now.state c.kept.result.now c.args.place c.index-kept-place.result c.kept.ensures.proposals c.kept.ensures.found c.requires c.index-kept-place.is)
