use Rattle.std.proofs.Common.{◌≡◌, ◌+◌, ◌-◌, ◌^◌, min, length, take}
use Rattle.node_core.specs.Core.{delivered_in}
use Rattle.locked_node.proofs.place.count_with.Given as goal

abbrev pub invariant-loop-bundle : goal.invariant-loop-bundle
invariant-loop-bundle l = l.all ≡ min (l.count + length (delivered_in (take l.bundle-index l.decisions))) (2 ^ 64 - 1)
