use Rattle.std.proofs.Common.{◌∙◌, ap, ◌++◌, List, ℕ, append_assoc, ◌≡◌, arith}
use Rattle.std.proofs.lemmas.List.{append-nil}
use Rattle.world_parties.specs.KeyFile.{line_of_client}
use Rattle.world_parties.proofs.KeyFiles.{no_lines, more_lines}
use Rattle.world_parties.proofs.keys.key_file.Goals as goal

pub loop-client-init : goal.loop-client-init
loop-client-init c =
    let all : c.loop-other.other ≡ c.args.validators = omega arith in
    rw (no_lines (line_of_client c.args.me), append-nil, ← all) c.loop-other.invariant

pub loop-client-preserved : goal.loop-client-preserved
loop-client-preserved c =
    let lines = line_of_client c.args.me in
    let i = c.loop-client.client in
    rw (more_lines lines i, ← append_assoc) (c.in_ok-put_key.ensures ∙ ap (λ (text : List ℕ). text ++ lines i) c.loop-client.invariant)
