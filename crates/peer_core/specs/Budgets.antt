-- How many frames repair what was lost.
use Rattle.std.specs.Prelude.{ℕ, ◌+◌, ◌*◌, min}
use Rattle.peer_core.specs.declared.budget.Budget.{Budget}

-- what one height costs a validator: two votes for each
abbrev pub each_second : ℕ → ℕ
each_second count = count * 2

-- a second's worth more, of which at most four are saved up
abbrev pub refilled : Budget → Budget
refilled b = record b { left = min (b.left + b.each_second) (b.each_second * 4) }
