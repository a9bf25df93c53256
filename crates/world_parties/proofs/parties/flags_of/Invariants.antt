use Rattle.std.proofs.Common.{◌≡◌, ℕ, take, true, false, length}
use Rattle.std.specs.Prelude.{◌==◌, nat_lt, slice_index_or}
use Rattle.std.specs.List.{list_all, list_any}
use Rattle.world_parties.proofs.parties.flags_of.Given as goal

abbrev pub invariant-loop-liar : goal.invariant-loop-liar
invariant-loop-liar l = (length l.lies ≡ 128)
    × (list_all (λ n. nat_lt n l.fn.validators) (take l.liar-index l.liars) ≡ true)
    × ((q : ℕ) → slice_index_or l.lies q false ≡ list_any (λ n. n == q) (take l.liar-index l.liars))
