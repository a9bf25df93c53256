use Rattle.std.proofs.Common.{◌+◌, drop}
use Rattle.node_core.specs.Core.{delivered_in}
use Rattle.locked_node.specs.Feeding.{IsPlace, left_at}
use Rattle.locked_node.specs.Meeting.{AreNext}
use Rattle.locked_node.proofs.meeting.follow_at.Given as goal

abbrev pub invariant-loop-number : goal.invariant-loop-number
invariant-loop-number l = record {
  place : IsPlace l.decisions l.place;
  left : AreNext (drop l.first (delivered_in l.decisions)) l.first l.items → AreNext (left_at l.decisions l.place) (l.first + l.number) (drop l.number l.items);
  all : AreNext (left_at l.decisions l.place) (l.first + l.number) (drop l.number l.items) → AreNext (drop l.first (delivered_in l.decisions)) l.first l.items;
}
