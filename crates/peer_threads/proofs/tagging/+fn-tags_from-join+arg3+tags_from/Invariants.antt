use Rattle.std.proofs.Common.{◌-◌}
use Rattle.peer_threads.proofs.tagging.+fn-tags_from-join+arg3+tags_from.Given as goal

abbrev pub decreases-join+arg3 : goal.decreases-join+arg3
decreases-join+arg3 g l = l.ring.now.count - l.next

abbrev pub decreases-tags_from : goal.decreases-tags_from
decreases-tags_from g l = l.ring.now.count - l.from
