use Rattle.std.proofs.Common.{◌≡◌, length}
use Rattle.std.specs.Prelude.{All}
use Rattle.std.specs.Io.KnownBytes.{Consumes}
use Rattle.std.specs.List.{flat_map}
use Rattle.key_making.specs.Table.{IsKey}
use Rattle.key_making.proofs.table.draw_keys.Given as goal

abbrev pub invariant-loop : goal.invariant-loop
invariant-loop g l = (length l.keys.items ≡ l.counter) × All IsKey l.keys.items
    × Consumes (g.R.Read.remaining l.fn.source) (g.R.Read.remaining l.source) (flat_map (λ key. key) l.keys.items)
