use Rattle.std.proofs.Common.{◌∙◌, ◌∷◌, ◌++◌, [], cond, sym, ap}
use Rattle.world_parties.specs.Cast.{is_correct}
use Rattle.world_schedule.proofs.Places.{no_filtered, filter_below}
use Rattle.world_schedule.proofs.stage.correct_of.Goals as goal

pub loop-number-init : goal.loop-number-init
loop-number-init c = c.new-found.ensures.items ∙ sym (no_filtered (is_correct c.args.parties.now))

pub loop-number-preserved : goal.loop-number-preserved
loop-number-preserved c =
    let test = is_correct c.args.parties.now in
    let n = c.loop-number.number in
    c.in_ok-put_correct.ensures ∙ ap (λ l. l ++ cond (test n) (n ∷ []) []) c.loop-number.invariant ∙ sym (filter_below test n)
