use Rattle.std.proofs.Common.{leb, rules}
use Rattle.std.proofs.lemmas.Fn.{filter_same}
use Rattle.std.proofs.lemmas.List.Kept.{IsNonDecreasingBy-filter}
use Rattle.edge_frames.specs.Early.{Early}
use Rattle.edge_frames.proofs.Placing.{height_of, fits_filter}
use Rattle.edge_frames.proofs.link_frames.LinkFrames.forget_below.Goals as goal

pub invariant_of-self : goal.invariant_of-self
invariant_of-self c =
    let kept = filter_same _ (λ (e : Early). leb c.args.height e.height) _ (λ x b q k. search rules) c.self.inside.frames.items c.retain.new.self.items c.retain.ensures.filtered in
    rw kept (IsNonDecreasingBy-filter height_of (λ (e : Early). leb c.args.height e.height) c.self.inside.frames.items c.self.invariant.0, fits_filter (λ (e : Early). leb c.args.height e.height) c.self.inside.frames.items c.self.invariant.1)

pub returns : goal.returns
returns c =
    let kept = filter_same _ (λ (e : Early). leb c.args.height e.height) _ (λ x b q k. search rules) c.self.inside.frames.items c.retain.new.self.items c.retain.ensures.filtered in
    rw (← c.self.view_is) kept
