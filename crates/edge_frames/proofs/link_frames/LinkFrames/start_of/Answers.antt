use Rattle.std.proofs.Common.{ltb, arith, rules}
use Rattle.std.proofs.lemmas.Bool.{ltb-true, ltb-false}
use Rattle.std.proofs.lemmas.List.Sorted.{IsPartitionPoint-from_clause, IsPartitionedBy-ltb}
use Rattle.edge_frames.specs.Early.{Early}
use Rattle.edge_frames.proofs.Placing.{height_of}
use Rattle.edge_frames.proofs.link_frames.LinkFrames.start_of.Goals as goal

pub returns : goal.returns
returns c =
    let at = IsPartitionPoint-from_clause (λ (e : Early). ltb e.height c.args.height) c.self.inside.frames.items c.partition_point.result c.partition_point.ensures.partitioned (IsPartitionedBy-ltb height_of c.self.inside.frames.items c.args.height c.self.invariant.0) (λ a r q k. search rules) in
    rw (← c.self.view_is) (record { within = omega arith; lower = λ k x l m. ltb-true _ _ (at.0 k x l m); others = λ k x l m. ltb-false _ _ (at.1 k x l m) })
