use Rattle.std.proofs.Common.{leb, arith, rules}
use Rattle.std.proofs.lemmas.Bool.{leb-true, leb-false}
use Rattle.std.proofs.lemmas.List.Sorted.{IsPartitionPoint-from_clause, IsPartitionedBy-leb}
use Rattle.edge_frames.specs.Early.{Early}
use Rattle.edge_frames.proofs.Placing.{height_of}
use Rattle.edge_frames.proofs.link_frames.LinkFrames.end_of.Goals as goal

pub returns : goal.returns
returns c =
    let at = IsPartitionPoint-from_clause (λ (e : Early). leb e.height c.args.height) c.self.inside.frames.items c.partition_point.result c.partition_point.ensures.partitioned (IsPartitionedBy-leb height_of c.self.inside.frames.items c.args.height c.self.invariant.0) (λ a r q k. search rules) in
    rw (← c.self.view_is) (record { within = omega arith; others = λ k x l m. leb-true _ _ (at.0 k x l m); higher = λ k x l m. leb-false _ _ (at.1 k x l m) })
