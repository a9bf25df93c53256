use Rattle.std.proofs.Common.{◌≡◌, length, sym, arith, subst}
use Rattle.std.proofs.lemmas.List.{length_push}
use Rattle.std.proofs.lemmas.Slice.Zip.{zip_turn, zip_end}
use Rattle.authenticators.proofs.Bits.{Compared, Compared-more, Compared-all}
use Rattle.authenticators.proofs.tagging.are_same.Goals as goal

pub loop-one-preserved : goal.loop-one-preserved
loop-one-preserved c =
    let turn = zip_turn c.args.left.now c.args.right.now c.loop-one.yielded c.into_iter-one-iterator.result c.loop-one.one-iterator c.next.new.self c.next.result (cc) (cc) c.loop-one.yielded_by (c.in-Some.one, c.in-Some.other) c.in-Some.is c.next.ensures.steps in
    rw (length_push c.loop-one.yielded (c.in-Some.one, c.in-Some.other))
    (Compared-more (length c.loop-one.yielded) c.args.left.now c.args.right.now c.loop-one.difference c.in-Some.one.now c.in-Some.other.now (sym (turn.2 0)) (sym (turn.3 0)) c.loop-one.invariant)

pub returns : goal.returns
returns c =
    let end = zip_end c.args.left.now c.args.right.now c.loop-one.yielded c.into_iter-one-iterator.result c.loop-one.one-iterator c.next.new.self c.next.result (cc) (cc) c.loop-one.yielded_by c.in-None.is c.next.ensures.steps in
    let all : length c.loop-one.yielded ≡ length c.args.left.now = omega (arith, end) in
    Compared-all c.args.left.now c.args.right.now c.loop-one.difference (omega arith)
    (subst (λ n. Compared n c.args.left.now c.args.right.now c.loop-one.difference) all c.loop-one.invariant)
