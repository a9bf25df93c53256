use Rattle.std.proofs.Common.{◌≡◌, take, true}
use Rattle.std.specs.Prelude.{nat_lt}
use Rattle.std.specs.List.{list_all}
use Rattle.schedule_text.proofs.items.members_of.Given as goal

abbrev pub invariant-loop-number : goal.invariant-loop-number
invariant-loop-number l = (l.members.items ≡ take l.number-index l.numbers) × (list_all (λ number. nat_lt number l.validators) (take l.number-index l.numbers) ≡ true)
