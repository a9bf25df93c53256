-- The text of a schedule with its report in it.
use Rattle.std.specs.Prelude.{ℕ, ◌==◌, ◌-◌, Bool, not, List, length, take, filter, codes, slice_index, if◌then◌else◌}
use Rattle.std.specs.List.{slice_split, starts_with}

-- a line of a report, which begins with `#` and four spaces
abbrev pub is_reported : List ℕ → Bool
is_reported line = starts_with (λ a b. a == b) line (codes "#    ")

abbrev pub without_last_feed : List ℕ → List ℕ
without_last_feed text = if slice_index text (length text - 1) == 10 then take (length text - 1) text else text

-- the lines of a text but those of a report that is in it
abbrev pub kept_lines : List ℕ → List (List ℕ)
kept_lines text = filter (λ line. not (is_reported line)) (slice_split (λ byte. byte == 10) (without_last_feed text))
