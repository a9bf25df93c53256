use Rattle.std.proofs.Common.{◌∙◌, ap, ◌++◌, List, ℕ, append_assoc, ◌≡◌, arith, subst}
use Rattle.std.proofs.lemmas.List.{append-nil}
use Rattle.std.specs.List.{flat_map}
use Rattle.std.specs.String.{string_bytes}
use Rattle.protocol.specs.Messages.{below}
use Rattle.key_making.specs.Table.{key_of}
use Rattle.key_making.specs.KeyFile.{lines_with, line_of_client}
use Rattle.key_making.proofs.KeyFiles.{no_lines, more_lines}
use Rattle.key_making.proofs.table.KeyTable.validator_file.Goals as goal

pub loop-client-init : goal.loop-client-init
loop-client-init c =
    let all : c.loop-other.other ≡ c.args.self.now.validators = omega (arith, c.validators-other-end.ensures.count) in
    let so_far = subst (λ n. string_bytes c.loop-other.text ≡ flat_map (lines_with (key_of c.args.self.now) c.args.me) (below n)) all c.loop-other.invariant in
    rw (no_lines (line_of_client (key_of c.args.self.now) c.args.me), append-nil) so_far

pub loop-client-preserved : goal.loop-client-preserved
loop-client-preserved c =
    let lines = line_of_client (key_of c.args.self.now) c.args.me in
    let i = c.loop-client.client in
    rw (more_lines lines i, ← append_assoc) (c.in_ok-put_line.ensures ∙ ap (λ (text : List ℕ). text ++ lines i) c.loop-client.invariant)
