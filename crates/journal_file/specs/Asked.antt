-- What a file was asked to keep, and what of it a stop may leave.
use Rattle.std.specs.Prelude.{◌≡◌, ◌⊎◌, ℕ, ◌==◌, if◌then◌else◌, List, [], ◌∷◌, ◌++◌, take, map, slice_index}
use Rattle.vote_journal.specs.Store.{Begun, Shortened}

-- kind, length, bytes
abbrev pub Event : Type 0
Event = ℕ × ℕ × List ℕ

abbrev pub event_of : List ℕ → List ℕ → Event
event_of numbers bytes = (slice_index numbers 0, slice_index numbers 1, bytes)

pub data Asked : Type 0 where
  Found : List ℕ → Asked  -- it was read on, and held these bytes there
  Appended : List ℕ → Asked
  NotAppended : List ℕ → Asked  -- the system answered a failure
  Cut : ℕ → Asked  -- shortened to this length
  NotCut : ℕ → Asked
  Synced : Asked

abbrev pub asked : Event → Asked
asked event =
    if event.0 == 0 then Found event.2
    else if event.0 == 1 then Appended event.2
    else if event.0 == 2 then NotAppended event.2
    else if event.0 == 3 then Cut event.1
    else if event.0 == 4 then NotCut event.1
    else Synced

-- the bytes that stand after these calls, the newest first
abbrev pub stands : List Asked → List ℕ
stands [] = []
stands (Found bytes ∷ before) = stands before ++ bytes
stands (Appended bytes ∷ before) = stands before ++ bytes
stands (Cut len ∷ before) = take len (stands before)
stands (call ∷ before) = stands before

-- What a stop may leave: of an append a beginning, of a cut more than was to be kept, and after a sync what stands alone.
abbrev pub leaves : List Asked → List ℕ → Type 0
leaves [] c = c ≡ []
leaves (Found bytes ∷ before) c = c ≡ stands before ++ bytes
leaves (Appended bytes ∷ before) c = leaves before c ⊎ Begun (stands before) bytes c
leaves (NotAppended bytes ∷ before) c = leaves before c ⊎ Begun (stands before) bytes c
leaves (Cut len ∷ before) c = leaves before c ⊎ Shortened len (stands before) c
leaves (NotCut len ∷ before) c = leaves before c ⊎ Shortened len (stands before) c
leaves (Synced ∷ before) c = c ≡ stands before

abbrev pub all_asked : List Event → List Asked
all_asked events = map asked events
