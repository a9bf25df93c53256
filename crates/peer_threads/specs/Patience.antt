-- When a peer that takes too little is given up.
use Rattle.std.specs.Prelude.{ℕ, ◌-◌, Bool, true, nat_le, ◌||◌, Option, Some, None}
use Rattle.peer_threads.specs.declared.patience.Patience.{Patience}
use Rattle.peer_threads.specs.declared.patience.Standing.{Standing}
use Rattle.peer_threads.specs.declared.patience.Standing.TheVariants.{Open, Closed, Crowded}

-- so many milliseconds are over since then
abbrev pub is_over : ℕ → ℕ → ℕ → Bool
is_over most since now = nat_le most (now - since)

-- since when the link is known to be closed
abbrev pub closed_since : Option ℕ → ℕ → ℕ
closed_since (Some since) now = since
closed_since None now = now

-- four times a second it is looked how the link stands
abbrev pub is_to_look : Patience → ℕ → Bool
is_to_look p now = is_over 250 p.looked now

-- what is noted where the link is looked at
abbrev pub noted : Standing → Patience → ℕ → Patience
noted Open p now = record p { looked = now }
noted Closed p now = record p { looked = now; closed = Some (closed_since p.closed now) }
noted Crowded p now = record p { looked = now }

-- A peer that takes nothing is given up after 30 seconds; on a link that is closed after 2, after 10 whatever it takes, and at once where its place is wanted.
abbrev pub gives_up : Standing → Patience → ℕ → Bool
gives_up Open p now = is_over 30000 p.taken now
gives_up Closed p now = is_over 2000 p.taken now || is_over 10000 (closed_since p.closed now) now
gives_up Crowded p now = true
