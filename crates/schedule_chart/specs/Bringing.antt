-- To whom a message is still to be brought.
use Rattle.std.specs.Prelude.{ℕ, Bool, false, not, ◌==◌, ◌&&◌, Option, Some, None, slice_get}
use Rattle.std.specs.List.{list_any}
use Rattle.schedule_chart.specs.declared.messages.Message.{Message}
use Rattle.schedule_chart.specs.declared.messages.Messages.{Messages}

-- a message was brought to a lane
abbrev pub has_come : Messages → ℕ → ℕ → Bool
has_come m number lane = list_any (λ (k : ℕ × ℕ). (number == k.0) && (lane == k.1)) m.early.keys

-- from another lane than its own, and not yet
abbrev pub may_come : Option Message → Bool → ℕ → Bool
may_come None came lane = false
may_come (Some message) came lane = not (message.from.lane == lane) && not came

abbrev pub is_wanted : Messages → ℕ → ℕ → Bool
is_wanted m number lane = may_come (slice_get m.each.items number) (has_come m number lane) lane
