use Rattle.std.proofs.Common.{◌≤◌, length, refl, arith}
use Rattle.node_core.specs.Core.{delivered_in}
use Rattle.locked_node.proofs.Meetings.{next_behind_all}
use Rattle.locked_node.proofs.meeting.follow_at.Goals as goal

pub returns : goal.returns
returns c =
    let within : c.args.first ≤ length (delivered_in c.args.decisions.now) = omega (arith, c.requires, c.if-first-count.false) in
    let all : length c.args.items.now ≤ c.loop-number.number = omega (arith, c.loop-number-test.false, c.loop-number.auto.number-end) in
    (λ e. (within, c.loop-number.invariant.all (next_behind_all _ _ _ _ all)), λ n. refl)
