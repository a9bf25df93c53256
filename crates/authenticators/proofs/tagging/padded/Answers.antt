use Rattle.std.proofs.Common.{◌≡◌, length, subst, arith}
use Rattle.authenticators.proofs.Blocks.{IsPaddedTo, IsPaddedTo-start, padded_from_places}
use Rattle.authenticators.proofs.tagging.padded.Goals as goal

pub loop-place-init : goal.loop-place-init
loop-place-init c = IsPaddedTo-start c.args.key.now c.args.pad

pub returns : goal.returns
returns c =
    let all : c.loop-place.place ≡ length c.args.key.now = omega arith in
    padded_from_places c.args.key.now c.args.pad c.loop-place.block c.requires
    (subst (λ n. IsPaddedTo n c.args.key.now c.args.pad c.loop-place.block) all c.loop-place.invariant)
