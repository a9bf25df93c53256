use Rattle.std.proofs.Common.{◌≡◌, drop}
use Rattle.std.specs.Prelude.{slice_get}
use Rattle.std.specs.List.{flat_map}
use Rattle.cluster_actors.specs.Replying.{astray_of}
use Rattle.cluster_actors.proofs.engine.Outbox.astray.Given as goal

-- the first reply astray, if there is one, is among what is left
abbrev pub invariant-loop-out : goal.invariant-loop-out
invariant-loop-out l = slice_get (flat_map (astray_of l.heard) (drop l.out-index l.out-items)) 0 ≡ slice_get (flat_map (astray_of l.heard) l.self.outs.items) 0
