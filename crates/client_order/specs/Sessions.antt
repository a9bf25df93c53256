-- A client's sessions.
use Rattle.std.specs.Prelude.{◌≡◌, ◌≢◌, ℕ, suc, List, [], ◌∷◌, ◌++◌, length, slice_get, Some}
use Rattle.protocol.specs.Values.{Item, Close}

-- Each item is of this session and has its number in the row, counted from 1; a close is the last item.
abbrev pub IsSession : ℕ → List Item → Type 0
IsSession session part = (place : ℕ) (t : Item) → slice_get part place ≡ Some t → (t.session ≡ session) × (t.number ≡ suc place) × (t.op ≡ Close → suc place ≡ length part)

-- the last item is a close
abbrev pub EndsWithClose : List Item → Type 0
EndsWithClose [] = ⊥
EndsWithClose (t ∷ []) = t.op ≡ Close
EndsWithClose (t ∷ u ∷ part) = EndsWithClose (u ∷ part)

-- The parts are the sessions from this one on, in order: each has an item, and each but the last ends with a close.
abbrev pub AreSessions : ℕ → List (List Item) → Type 0
AreSessions session [] = Unit {0}
AreSessions session (part ∷ parts) = (part ≢ []) × IsSession session part × (parts ≢ [] → EndsWithClose part) × AreSessions (suc session) parts

-- the parts, one after the other
abbrev pub joined : List (List Item) → List Item
joined [] = []
joined (part ∷ parts) = part ++ joined parts

-- the items of sessions 0, 1, .., one after the other
abbrev pub StandInSessions : List Item → Type 0
StandInSessions items = (parts : List (List Item)) × (joined parts ≡ items) × AreSessions 0 parts
