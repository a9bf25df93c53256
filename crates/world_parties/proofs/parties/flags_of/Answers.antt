use Rattle.std.proofs.Common.{◌≡◌, ◌<◌, ◌∙◌, true, false, take, get_or, refl, arith, lt-ltb}
use Rattle.std.specs.Prelude.{nat_lt}
use Rattle.std.proofs.Math.ListN.{length-set}
use Rattle.std.proofs.lemmas.List.{take_all, length-replicate}
use Rattle.std.proofs.lemmas.List.Folds.{list_all_more}
use Rattle.world_parties.proofs.Sets.{none_in, one_more_in}
use Rattle.world_parties.proofs.parties.flags_of.Goals as goal

pub loop-liar-init : goal.loop-liar-init
loop-liar-init c = (length-replicate 128 false, refl, λ q. none_in 128 q)

pub loop-liar-preserved : goal.loop-liar-preserved
loop-liar-preserved c =
    let liars = c.args.liars.now in
    let i = c.loop-liar.liar-index in
    let inv = c.loop-liar.invariant in
    let known : get_or liars i 0 < c.args.validators = omega (arith, c.if-liar-validators.false) in
    let test : nat_lt (get_or liars i 0) c.args.validators ≡ true = lt-ltb _ _ known in (
      length-set c.loop-liar.lies (get_or liars i 0) true ∙ inv.0,
      list_all_more (λ n. nat_lt n c.args.validators) liars i 0 c.loop-liar-test.true ∙ rw (inv.1, test) refl,
      λ q. one_more_in c.loop-liar.lies liars i q c.loop-liar-test.true (omega (arith, known, inv.0, c.requires)) (inv.2 q),
    )

pub returns : goal.returns
returns c =
    let liars = c.args.liars.now in
    let all : take c.loop-liar.liar-index liars ≡ liars = take_all c.loop-liar.liar-index liars (omega (arith, c.loop-liar-test.false)) in
    (rw all at c.loop-liar.invariant.1, λ q. rw all at (c.loop-liar.invariant.2 q))
