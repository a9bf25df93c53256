use Rattle.std.proofs.Common.{◌≡◌}
use Rattle.std.specs.List.{flat_map}
use Rattle.std.specs.String.{string_bytes}
use Rattle.protocol.specs.Messages.{below}
use Rattle.key_making.specs.Table.{key_of}
use Rattle.key_making.specs.KeyFile.{line_to}
use Rattle.key_making.proofs.table.KeyTable.client_file.Given as goal

abbrev pub invariant-loop-to : goal.invariant-loop-to
invariant-loop-to l = string_bytes l.text ≡ flat_map (line_to (key_of l.self) l.fn.client) (below l.to)
