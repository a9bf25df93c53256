-- What the parts of a world hold.
use Rattle.std.specs.Prelude.{◌≡◌, ℕ, true, false, Option, Some, None, List, [], ◌∷◌, ◌++◌, length, map}
use Rattle.messages.specs.Grammar.{body_spelling}
use Rattle.messages.specs.Framing.{message_of}
use Rattle.std.specs.Prelude.{Ok}
use Rattle.protocol.specs.Tags.{Setting}
use Rattle.protocol.specs.Messages.{◌∈◌, Body, OfTx, OfProposal, OfVote, OfAsk, OfBundle, tagged}
use Rattle.world_schedule.specs.Cores.{frame_in}
use Rattle.world_schedule.specs.Reports.{is_numbered, newly, released_from}
use Rattle.world_schedule.specs.declared.numbering.Messages.{Messages}
use Rattle.world_schedule.specs.declared.numbering.Posted.{Posted}
use Rattle.world_schedule.specs.declared.chronicle.Chronicle.{Chronicle}
use Rattle.world_schedule.specs.declared.report.What.{What}

-- which validator says a body: none for a client's
abbrev pub sayer : Body → Option ℕ
sayer (OfTx t) = None
sayer (OfProposal q) = Some q.sender
sayer (OfVote v) = Some v.sender
sayer (OfAsk a) = Some a.sender
sayer (OfBundle b) = Some b.sender

-- Each message stands under its number: its spelled body, its frame with right tags, and who says it.
pub record Holds (c : Setting) (numbered : List Body) (m : Messages) : Type 0 where
  pub bodies : map (λ k. k.items) m.bodies.keys ≡ map body_spelling numbered
  pub frames : map (λ (f : Posted). f.frame.items) m.posted.items ≡ map (frame_in c) numbered
  pub sayers : map (λ (f : Posted). f.sayer) m.posted.items ≡ map sayer numbered

-- The body was numbered before; or it is now, with the next number.
abbrev pub IsNumbered : Setting → List Body → Body → Option ℕ → Messages → Type 0
IsNumbered c numbered b None new = (is_numbered numbered b ≡ true) × Holds c numbered new
IsNumbered c numbered b (Some number) new = (is_numbered numbered b ≡ false) × (number ≡ length numbered) × Holds c (numbered ++ b ∷ []) new

-- these things are told, at the present event, of a validator or of a client
pub record Tells (who : Option ℕ) (whats : List What) (old new : Chronicle) : Type 0 where
  pub told : new.told.items ≡ old.told.items ++ map (λ what. record { event = old.event; validator = who; what = what }) whats
  pub event : new.event ≡ old.event
  pub alloc : new.alloc ≡ old.alloc

-- these bodies are said: each that is new is numbered and told
pub record Says (c : Setting) (numbered : List Body) (who : Option ℕ) (bodies : List Body) (old new : Chronicle) : Type 0 where
  pub holds : Holds c (numbered ++ newly numbered bodies) new.messages
  pub tells : Tells who (released_from (length numbered) (newly numbered bodies)) old new

-- a frame of this body is read again
abbrev pub IsReadable : Setting → Body → Type 0
IsReadable c b = message_of (frame_in c b) ≡ Ok (tagged c b)

abbrev pub AreReadable : Setting → List Body → Type 0
AreReadable c bodies = (b : Body) → b ∈ bodies → IsReadable c b
