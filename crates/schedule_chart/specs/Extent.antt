-- What is within a picture.
use Rattle.std.specs.Prelude.{ℕ, ◌+◌, ◌-◌, ◌*◌, ◌^◌, min, Bool, List, nat_le}
use Rattle.std.specs.List.{list_all}
use Rattle.schedule_chart.specs.declared.row.Row.{Row}

-- how far right a lane is: they are 150 apart
abbrev pub lane_x : ℕ → ℕ
lane_x lane = min (lane * 150 + 300) (2 ^ 64 - 1)

-- no row begins below the foot
abbrev pub are_within : ℕ → List Row → Bool
are_within foot rows = list_all (λ row. nat_le row.top foot) rows
