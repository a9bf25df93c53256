-- How the edge is to keep its links, by the settings.
use Rattle.node_settings.specs.declared.invocation.Keeping.{Keeping}
use Rattle.node_settings.specs.declared.invocation.Keeping.TheVariants.{Open, Guarded}
use Rattle.peer_core.specs.declared.manner.Keeping.{Keeping as EdgeKeeping}
use Rattle.peer_core.specs.declared.manner.Keeping.TheVariants as edge

abbrev pub keeping_of : Keeping → EdgeKeeping
keeping_of Open = edge.Open
keeping_of Guarded = edge.Guarded
