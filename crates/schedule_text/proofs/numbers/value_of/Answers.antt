use Rattle.std.proofs.Common.{◌≡◌, ◌≤◌, ◌<◌, ◌^◌, ◌*◌, ◌+◌, ◌-◌, get_or, arith, sym, ◌∙◌}
use Rattle.std.proofs.lemmas.Grind.{common_steps}
use Rattle.schedule_text.specs.Numbers.{number}
use Rattle.schedule_text.proofs.Digits.{too_large, next_digit, below_some}
use Rattle.schedule_text.proofs.numbers.value_of.Goals as goal

pub returns-in_err-checked_mul : goal.returns-in_err-checked_mul
returns-in_err-checked_mul c =
    let word = c.args.digits.now in
    let i = c.loop-digit.digit-index in
    let large : 2 ^ 64 ≤ 10 * c.loop-digit.value + (get_or word i 0 - 48) = omega (arith, c.in_err-checked_mul.ensures) in
    c.from_residual.ensures ∙ sym (too_large (2 ^ 64) word i c.loop-digit.value (omega arith) c.loop-digit.invariant.0 large)

pub returns-in_err-value : goal.returns-in_err-value
returns-in_err-value c =
    let word = c.args.digits.now in
    let i = c.loop-digit.digit-index in
    let large : 2 ^ 64 ≤ 10 * c.loop-digit.value + (get_or word i 0 - 48) = omega (arith, c.in_err-value.ensures, c.in_ok-checked_mul.ensures, c.from-units.ensures, c.saturating_sub.ensures) in
    c.from_residual-in_err-value.ensures ∙ sym (too_large (2 ^ 64) word i c.loop-digit.value (omega arith) c.loop-digit.invariant.0 large)

pub loop-digit-preserved : goal.loop-digit-preserved
loop-digit-preserved c =
    let next = next_digit c.args.digits.now c.loop-digit.digit-index c.loop-digit.value (omega arith) c.loop-digit.invariant.0 in
    let added : c.in_ok-value.value ≡ c.loop-digit.value * 10 + (get_or c.args.digits.now c.loop-digit.digit-index 0 - 48) = omega (arith, c.in_ok-value.ensures, c.in_ok-checked_mul.ensures, c.from-units.ensures, c.saturating_sub.ensures) in
    let small : c.in_ok-value.value < 2 ^ 64 = omega (arith, c.in_ok-value.ensures) in
    (added ∙ next, small)

pub returns : goal.returns
returns c =
    let all : c.loop-digit.value ≡ number c.args.digits.now = grind (arith, common_steps) in
    let small : number c.args.digits.now < 2 ^ 64 = omega (arith, all, c.loop-digit.invariant.1) in
    rw all (below_some (2 ^ 64) (number c.args.digits.now) small)
