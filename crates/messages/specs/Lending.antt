-- What is left of a reader that lent a frame, once the frame is used no more.
use Rattle.std.specs.Prelude.{ℕ, List, Option, Some, None, Result, Ok, Err, ⊤}
use Rattle.std.specs.Borrow.{follows_so, Bor, MutBor, Fml}
use Rattle.transactions.specs.declared.fault.Fault.{Fault}
use Rattle.messages.specs.Pieces.{Held}
use Rattle.messages.specs.contracts.frame_reader.FrameReader.{the_row}
use mathlib.Core.Option.{none}

-- an answer, with the bytes of the frame that it lends
abbrev pub shown : Result (Option (Bor (List ℕ))) Fault → Result (Option (List ℕ)) Fault
shown (Ok (Some frame)) = Ok (Some frame.now)
shown (Ok None) = Ok None
shown (Err fault) = Err fault

-- this holds of what the reader then holds
abbrev pub Leaves : MutBor Held → (Held → Type 0) → Fml
Leaves reader Fact = follows_so the_row the_row reader.ghost_name none (λ _ _. ⊤) Fact
