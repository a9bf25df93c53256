use Rattle.std.proofs.Common.{◌≡◌, false, take, refl, ◌∙◌, arith}
use Rattle.std.proofs.lemmas.Result.{err_from_is_err_and}
use Rattle.std.proofs.lemmas.List.Sorted.{IsNonDecreasingBy-take}
use Rattle.edge_frames.specs.Early.{early, bytes_of, IsEnd, has_room}
use Rattle.edge_frames.proofs.Placing.{height_of, insert_is_placed, insert_is_ordered, room, many, long, longest_is}
use Rattle.edge_frames.proofs.link_frames.LinkFrames.keep.Goals.{then-place-ge-MOST_LINK_FRAMES-via-then-place-ge-MOST_LINK_FRAMES, then-place-ge-MOST_LINK_FRAMES-via-else-place-ge-MOST_LINK_FRAMES+then-bytes_before-len-gt-MOST_LINK_BYTES}
use Rattle.edge_frames.proofs.link_frames.LinkFrames.keep.Goals as goal

pub returns-then-place-ge-MOST_LINK_FRAMES-clause-answer :
    goal.returns-then-place-ge-MOST_LINK_FRAMES-clause-answer
returns-then-place-ge-MOST_LINK_FRAMES-clause-answer c =
    let es = c.self.inside.frames.items in
    let i = c.end_of-place.result in
    let x = early c.args.height c.args.frame in
    let at : IsEnd c.args.height es i = rw c.self.view_is c.end_of-place.ensures in
    let full : has_room x es ≡ false = elim c.then-place-ge-MOST_LINK_FRAMES.branch [
      | then-place-ge-MOST_LINK_FRAMES-via-then-place-ge-MOST_LINK_FRAMES w ↦ many x es i at (omega arith)
      | then-place-ge-MOST_LINK_FRAMES-via-else-place-ge-MOST_LINK_FRAMES+then-bytes_before-len-gt-MOST_LINK_BYTES w ↦ (
          let bytes : w.bytes_before.result ≡ bytes_of (take i es) = rw c.self.view_is w.bytes_before.ensures in
          long x es i at (omega arith))
    ] in
    rw (← c.self.view_is, full) refl

pub returns-in_err-insert-clause-answer : goal.returns-in_err-insert-clause-answer
returns-in_err-insert-clause-answer c =
    let es = c.self.inside.frames.items in
    let i = c.end_of-place.result in
    let x = early c.args.height c.args.frame in
    let at : IsEnd c.args.height es i = rw c.self.view_is c.end_of-place.ensures in
    let p = err_from_is_err_and c.from_residual.result c.from_residual.ensures.1 in
    let bytes : c.bytes_before.result ≡ bytes_of (take i es) = rw c.self.view_is c.bytes_before.ensures in
    rw (← c.self.view_is, room x es i at (omega arith) (omega arith), p.1, p.2) refl

pub invariant_of-self-2 : goal.invariant_of-self-2
invariant_of-self-2 c =
    let es = c.self.inside.frames.items in
    let i = c.end_of-place.result in
    let x = early c.args.height c.args.frame in
    let at : IsEnd c.args.height es i = rw c.self.view_is c.end_of-place.ensures in
    rw (c.truncate.ensures.items) (IsNonDecreasingBy-take height_of c.fitting-count.result c.insert.new.self.items (rw c.in_ok-insert.ensures.items (insert_is_ordered x es i at c.self.invariant.0)), c.fitting-count.ensures.fits)

pub returns-clause-answer : goal.returns-clause-answer
returns-clause-answer c =
    let es = c.self.inside.frames.items in
    let i = c.end_of-place.result in
    let x = early c.args.height c.args.frame in
    let at : IsEnd c.args.height es i = rw c.self.view_is c.end_of-place.ensures in
    let bytes : c.bytes_before.result ≡ bytes_of (take i es) = rw c.self.view_is c.bytes_before.ensures in
    rw (← c.self.view_is, room x es i at (omega arith) (omega arith)) tt

pub returns-clause-ok : goal.returns-clause-ok
returns-clause-ok c =
    let es = c.self.inside.frames.items in
    let i = c.end_of-place.result in
    let x = early c.args.height c.args.frame in
    let at : IsEnd c.args.height es i = rw c.self.view_is c.end_of-place.ensures in
    let all = c.in_ok-insert.ensures.items ∙ insert_is_placed x es i at in
    rw (← c.self.view_is, ← all, c.truncate.ensures.items) (longest_is c.insert.new.self.items c.fitting-count.result (omega arith) c.fitting-count.ensures.fits (λ lt. c.fitting-count.ensures.next (omega arith)))
