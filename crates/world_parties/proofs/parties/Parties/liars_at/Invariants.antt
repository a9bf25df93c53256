use Rattle.std.proofs.Common.{◌≡◌, take, true}
use Rattle.std.specs.List.{list_all}
use Rattle.world_parties.specs.Cast.{is_liar}
use Rattle.world_parties.proofs.parties.Parties.liars_at.Given as goal

abbrev pub invariant-loop-number : goal.invariant-loop-number
invariant-loop-number l = (l.liars.items ≡ take l.number-index l.numbers) × (list_all (is_liar l.self) (take l.number-index l.numbers) ≡ true)
