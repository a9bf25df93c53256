use Rattle.std.proofs.Common.{◌≡◌, ◌++◌}
use Rattle.std.specs.List.{flat_map}
use Rattle.std.specs.String.{string_bytes}
use Rattle.protocol.specs.Messages.{below}
use Rattle.world_parties.specs.KeyFile.{lines_with, line_of_client}
use Rattle.world_parties.proofs.keys.key_file.Given as goal

abbrev pub invariant-loop-other : goal.invariant-loop-other
invariant-loop-other l = string_bytes l.text ≡ flat_map (lines_with l.fn.me) (below l.other)

abbrev pub invariant-loop-client : goal.invariant-loop-client
invariant-loop-client l = string_bytes l.text ≡ flat_map (lines_with l.fn.me) (below l.fn.validators) ++ flat_map (line_of_client l.fn.me) (below l.client)
