-- What each step asks.
use Rattle.std.specs.Prelude.{◌≡◌, [], true, false}
use Rattle.atomic_table.specs.declared.shared.Seat.{Seat}
use Rattle.atomic_table.specs.declared.owned.Table.{Table}
use Rattle.std.specs.declared.alloc.Global.{Global}
use Rattle.status_words.specs.declared.words.Status.{Status}
use Rattle.status_words.specs.Rule.{Sight}

abbrev pub Knows : Type 0
Knows = Seat (Unit {0}) Sight

-- it is of these words, and holds no slot
abbrev pub IsAt : {P : Type 0} → Table (Unit {0}) Sight Status P Global → Knows → Type 0
IsAt t s = (s.table_id ≡ t.shared.table_id) × (s.me.1 ≡ []) × (t.shared.table_id.words ≡ 2)

abbrev pub Publishes : Knows → Type 0
Publishes s = s.me.0.publishes ≡ true

abbrev pub Sits : Knows → Type 0
Sits s = s.me.0.publishes ≡ false
