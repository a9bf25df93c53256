-- Frames out of bytes that come in pieces.
use Rattle.std.specs.Prelude.{◌≡◌, ◌≢◌, ℕ, Bool, true, false, Option, Some, None, Result, Ok, Err, IsOk, List, [], ◌∷◌, ◌++◌, All, length, ◌==◌, if◌then◌else◌}
use Rattle.std.specs.List.{flat_map}
use Rattle.transactions.specs.declared.fault.Fault.{Fault}
use Rattle.transactions.specs.declared.fault.Fault.TheVariants.{Truncated, TooLong}
use Rattle.messages.specs.Framing.{content_of}

-- What a reader holds: the bytes that it was fed and hasn't given, and whether it has told of a length above the limit.
pub record Held : Type 0 where
  pub rest : List ℕ
  pub refused : Bool

abbrev pub nothing : Held
nothing = record { rest = []; refused = false }

abbrev pub with_piece : Held → List ℕ → Held
with_piece held piece = record held { rest = held.rest ++ piece }

-- a length and that much content, whatever the content says
abbrev pub IsFrame : List ℕ → Type 0
IsFrame bytes = IsOk (content_of bytes)

-- What is answered where the next frame is wanted, and what is held then.
abbrev pub IsNext : Held → Result (Option (List ℕ)) Fault → Held → Type 0
IsNext old (Ok (Some frame)) new = IsFrame frame × (old ≡ record new { rest = frame ++ new.rest })
IsNext old (Ok None) new = (content_of old.rest ≡ Err Truncated) × (new ≡ old)
IsNext old (Err fault) new = (content_of old.rest ≡ Err TooLong) × (fault ≡ TooLong) × (new ≡ record old { refused = true })

-- whether the bytes may end here
abbrev pub finished : Held → Result (Unit {0}) Fault
finished held =
    if held.refused then Err TooLong
    else if (length held.rest == 0) then Ok tt
    else Err Truncated

-- ---- many calls of one reader, the first one first

pub data Call : Type 0 where
  Fed : List ℕ → Call  -- a piece that was taken
  NotFed : List ℕ → Call  -- one that found no memory
  Asked : Result (Option (List ℕ)) Fault → Call  -- the next frame was wanted, and this was answered

-- what a call says of what was held before it and after it
abbrev pub IsStep : Held → Call → Held → Type 0
IsStep old (Fed piece) new = new ≡ with_piece old piece
IsStep old (NotFed piece) new = new ≡ old
IsStep old (Asked answer) new = IsNext old answer new

abbrev pub Happened : Held → List Call → Held → Type 0
Happened old [] new = new ≡ old
Happened old (call ∷ calls) new = (next : Held) × IsStep old call next × Happened next calls new

abbrev pub bytes_fed : List Call → List ℕ
bytes_fed [] = []
bytes_fed (Fed piece ∷ calls) = piece ++ bytes_fed calls
bytes_fed (call ∷ calls) = bytes_fed calls

abbrev pub frames_given : List Call → List (List ℕ)
frames_given [] = []
frames_given (Asked (Ok (Some frame)) ∷ calls) = frame ∷ frames_given calls
frames_given (call ∷ calls) = frames_given calls

-- ---- what holds of them

-- What was given are frames, and with what is held they are the bytes that were fed.
abbrev pub PiecesLaw : Type 0
PiecesLaw = (calls : List Call) (held : Held) → Happened nothing calls held
    → All IsFrame (frames_given calls) × (flat_map (λ frame. frame) (frames_given calls) ++ held.rest ≡ bytes_fed calls)

-- no whole frame stands in front
abbrev pub HasNoFrame : List ℕ → Type 0
HasNoFrame bytes = (frame after : List ℕ) → IsFrame frame → bytes ≢ frame ++ after

-- Where no frame is given, none stands in front.
abbrev pub DryLaw : Type 0
DryLaw = (old new : Held) (answer : Result (Option (List ℕ)) Fault) → IsNext old answer new → frames_given (Asked answer ∷ []) ≡ [] → HasNoFrame new.rest

-- The same bytes, cut in any two ways: where no whole frame is left, the same frames were given.
abbrev pub CutLaw : Type 0
CutLaw = (one other : List Call) (held held' : Held) → Happened nothing one held → Happened nothing other held' → bytes_fed one ≡ bytes_fed other
    → HasNoFrame held.rest → HasNoFrame held'.rest → (frames_given one ≡ frames_given other) × (held.rest ≡ held'.rest)

abbrev pub EachRefused : List Call → Type 0
EachRefused [] = Unit {0}
EachRefused (Asked answer ∷ calls) = (answer ≡ Err TooLong) × EachRefused calls
EachRefused (call ∷ calls) = EachRefused calls

-- A length above the limit is told for good, whatever is fed behind it.
abbrev pub RefusedLaw : Type 0
RefusedLaw = (calls : List Call) (old next new : Held) (fault : Fault) → IsNext old (Err fault) next → Happened next calls new → EachRefused calls

-- There is one answer, and one thing that is held then.
abbrev pub OneAnswerLaw : Type 0
OneAnswerLaw = (old new new' : Held) (answer answer' : Result (Option (List ℕ)) Fault) → IsNext old answer new → IsNext old answer' new' → (answer ≡ answer') × (new ≡ new')
