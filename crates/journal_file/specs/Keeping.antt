-- What a file store shows, by whether its file is read, and by what the file was asked.
use Rattle.std.specs.Prelude.{ℕ, Bool, true, false, List, []}
use Rattle.journal_file.specs.Asked.{Event, stands, leaves, all_asked}

-- Of a file that isn't read to its end nothing is said: a stop may leave anything.
abbrev pub kept : Bool → List Event → List ℕ
kept false events = []
kept true events = stands (all_asked events)

abbrev pub may_be_left : Bool → List Event → List ℕ → Type 0
may_be_left false events c = Unit {0}
may_be_left true events c = leaves (all_asked events) c
