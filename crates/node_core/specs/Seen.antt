-- How the core is seen.
use Rattle.std.specs.Prelude.{map}
use Rattle.node_core.specs.Core.{Core}
use Rattle.node_core.specs.declared.node.NodeCore.TheInside.{Inside}

abbrev pub seen : {S : Type 0} → Inside S → Core
seen a = record {
  machine = a.state;
  ring = a.ring;
  queues = a.mempool;
  decisions = a.decisions.bundles;
  said = a.said.items;
  journal = a.journal;
  outgoing = map (λ frame. frame.items) a.outgoing.items;
  scheduled = a.scheduled.items;
  fired = a.fired;
}
