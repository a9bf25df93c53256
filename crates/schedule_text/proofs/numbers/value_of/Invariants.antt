use Rattle.std.proofs.Common.{◌≡◌, ◌<◌, ◌^◌, take}
use Rattle.schedule_text.specs.Numbers.{number}
use Rattle.schedule_text.proofs.numbers.value_of.Given as goal

abbrev pub invariant-loop-digit : goal.invariant-loop-digit
invariant-loop-digit l = (l.value ≡ number (take l.digit-index l.digits)) × (l.value < 2 ^ 64)
