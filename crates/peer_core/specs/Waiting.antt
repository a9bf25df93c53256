-- An own proposal that waits, and what waits behind it.
use Rattle.std.specs.Prelude.{ℕ, Bool, ◌||◌, nat_le, if◌then◌else◌, List, [], ◌∷◌, ◌++◌, length, Option, Some, None, is_none}
use Rattle.std.specs.List.{list_any}
use Rattle.std.specs.Str.{bytes_eq}
use Rattle.edge_frames.specs.Holding.{Holding, due_of}

abbrev pub Held : Type 0
Held = Holding × List (List ℕ)

-- the proposal waits no more
abbrev pub without : Held → Held
without held = (record held.0 { frame = None }, held.1)

-- an own frame doesn't wait where no proposal does, or eight wait behind it
abbrev pub goes_out : Held → Bool
goes_out held = is_none (due_of held.0) || nat_le 8 (length held.1)

abbrev pub is_behind : List ℕ → Held → Bool
is_behind frame held = list_any (λ kept. bytes_eq kept frame) held.1

-- one that waits stands behind the others, once
abbrev pub followed : List ℕ → Held → Held
followed frame held = if goes_out held || is_behind frame held then held else (held.0, held.1 ++ frame ∷ [])

abbrev pub given_back : List ℕ → Held → Option (List ℕ)
given_back frame held = if goes_out held then Some frame else None
