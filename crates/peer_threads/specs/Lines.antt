-- How many lines on links may be logged.
use Rattle.std.specs.Prelude.{ℕ, ◌+◌, ◌-◌, ◌/◌, min}
use Rattle.peer_threads.specs.declared.log_budget.LogBudget.{LogBudget}

-- for how many lines there is room now: one more each 250 milliseconds, up to 512
abbrev pub room : LogBudget → ℕ → ℕ
room b now = min 512 (b.room + (now - b.since) / 250)
