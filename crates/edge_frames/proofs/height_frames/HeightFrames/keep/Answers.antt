use Rattle.std.proofs.Common.{arith}
use Rattle.edge_frames.proofs.Passing.{room_is, measured}
use Rattle.edge_frames.proofs.height_frames.HeightFrames.keep.Goals as goal

pub invariant_of-self-2 : goal.invariant_of-self-2
invariant_of-self-2 c =
    let few = rw c.from-place.ensures at c.if-frames-ge-MOST_SENDER_FRAMES.false in
    let short = rw (c.from-place.ensures, c.len.ensures.value) at c.if-bytes-gt-MOST_SENDER_BYTES.false in
    rw (c.in_ok-push.ensures.items, c.len.ensures.value, c.from-place.ensures)
    (measured c.self.inside.loads c.self.inside.frames.items c.args.sender c.args.frame c.self.invariant (omega arith) few short)

pub returns-clause-answer : goal.returns-clause-answer
returns-clause-answer c =
    let few = rw c.from-place.ensures at c.if-frames-ge-MOST_SENDER_FRAMES.false in
    let short = rw (c.from-place.ensures, c.len.ensures.value) at c.if-bytes-gt-MOST_SENDER_BYTES.false in
    rw (← c.self.view_is, room_is c.self.inside.loads c.self.inside.frames.items c.args.sender c.args.frame c.self.invariant (omega arith) few short) tt
