-- What each step tells: of the step, the seat before, the number found, and the seat after.
use Rattle.std.specs.Prelude.{◌≡◌, ℕ, ◌≤◌}
use Rattle.atomic_table.specs.Table.{Me, Step}
use Rattle.status_words.specs.Seen.{with_height, with_delivered, AllIn}
use Rattle.status_words.specs.Rule.{Sight, with_own}

abbrev pub Knower : Type 0
Knower = Me (Unit {0}) Sight

-- the publishing pass has published one word more
abbrev pub StoredHeight : Step (Unit {0}) → Knower → ℕ → Knower → Type 0
StoredHeight s me n after = after ≡ (with_own me.0 (with_height me.0.own s.first), me.1)

abbrev pub StoredDelivered : Step (Unit {0}) → Knower → ℕ → Knower → Type 0
StoredDelivered s me n after = after ≡ (with_own me.0 (with_delivered me.0.own s.first), me.1)

-- a seat has seen one word more, which is no less than what it had seen
abbrev pub LoadedHeight : Step (Unit {0}) → Knower → ℕ → Knower → Type 0
LoadedHeight s me n after = (after ≡ (with_own me.0 (with_height me.0.own n), me.1)) × (me.0.own.height ≤ n)

abbrev pub LoadedDelivered : Step (Unit {0}) → Knower → ℕ → Knower → Type 0
LoadedDelivered s me n after = (after ≡ (with_own me.0 (with_delivered me.0.own n), me.1)) × (me.0.own.delivered ≤ n)

-- the publishing pass finds its own word, which is no less than what it was shown; each word that it was shown was published
abbrev pub CheckedHeight : Step (Unit {0}) → Knower → ℕ → Knower → Type 0
CheckedHeight s me n after = (after ≡ me) × (n ≡ me.0.own.height) × (me.0.shown.height ≤ n) × AllIn me.0.shown.heights me.0.own.heights

abbrev pub CheckedDelivered : Step (Unit {0}) → Knower → ℕ → Knower → Type 0
CheckedDelivered s me n after = (after ≡ me) × (n ≡ me.0.own.delivered) × (me.0.shown.delivered ≤ n) × AllIn me.0.shown.counts me.0.own.counts
