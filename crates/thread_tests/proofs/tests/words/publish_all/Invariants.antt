use Rattle.std.proofs.Common.{◌≡◌, ◌≤◌, ◌-◌, ◌*◌}
use Rattle.thread_tests.proofs.tests.words.publish_all.Given as goal

abbrev pub invariant-loop-height : goal.invariant-loop-height
invariant-loop-height g l = (l.publisher.height ≡ l.height) × (l.publisher.delivered ≡ 3 * l.height) × (l.height ≤ l.heights)

abbrev pub decreases-loop-height : goal.decreases-loop-height
decreases-loop-height g l = l.heights - l.height
