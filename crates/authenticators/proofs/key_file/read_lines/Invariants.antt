use Rattle.std.proofs.Common.{◌≡◌, [], length, drop}
use Rattle.std.specs.List.{slice_split}
use Rattle.authenticators.specs.Keys.{is_line_feed, with_lines}
use Rattle.authenticators.proofs.key_file.read_lines.Given as goal

abbrev pub invariant-loop-line : goal.invariant-loop-line
invariant-loop-line l =
    with_lines l.me l.validators l.lines.items (drop (length l.yielded) (slice_split is_line_feed l.text)) ≡ with_lines l.me l.validators [] (slice_split is_line_feed l.text)
