use Rattle.std.proofs.Common.{refl}
use Rattle.locked_node.proofs.Meetings.{segment_of_none, segment_at, none_first, first_next}
use Rattle.locked_node.proofs.meeting.is_segment.Goals as goal

pub returns-in_default : goal.returns-in_default
returns-in_default c = (λ e. segment_of_none _ _ (none_first _ c.in_default.ensures.item.0), λ n. refl)

pub returns : goal.returns
returns c = (λ e. let at = c.follow_at.ensures.0 e in segment_at _ _ _ at.0 at.1, λ s. c.follow_at.ensures.1 (first_next _ _ _ c.in-Some.ensures.item.0 c.in-Some.ensures.item.1 s))
