-- What is done to a world, and which calls it comes to.
use Rattle.std.specs.Prelude.{◌≡◌, ◌⊎◌, ℕ, suc, ◌<◌, ◌^◌, Bool, false, cond, not, ◌&&◌, ◌||◌, Option, Some, None, List, [], ◌∷◌, ◌++◌, map, filter, length, nat_lt, option_to_list, ◌==◌}
use Rattle.std.specs.List.{list_all, slice_get}
use Rattle.messages.specs.Framing.{frame_spelling, IsMessage}
use Rattle.protocol.specs.Tags.{Setting}
use Rattle.protocol.specs.Messages.{Body, OfProposal, OfVote, OfBundle, tagged}
use Rattle.protocol.specs.World.{next_item}
use Rattle.protocol.specs.History.{Given, Due}
use Rattle.world_parties.specs.Cast.{Cast, setting_of, is_correct, is_liar, is_client, correct}
use Rattle.world_parties.specs.Sending.{proposed, voted, bundled, submitted, FitsTx, FitsProposal, FitsVote, FitsBundle}
use Rattle.world_parties.specs.declared.fault.FaultNumber.{FaultNumber}
use Rattle.world_parties.specs.declared.fault.FaultNumber.TheVariants.{NoSuchMessage, NoSuchParty, ClientClosed, TooLong, OutOfMemory, NotClosed}
use Rattle.world_schedule.specs.Calls.{Sent, Began}
use Rattle.world_schedule.specs.Health.{Serving}
use Rattle.world_schedule.specs.Cores.{frame_in}
use Rattle.world_schedule.specs.Reports.{Made, Standing, said_as, begun_after, stands_in, is_by, is_shut}
use Rattle.world_schedule.specs.Making.{Request, Hands, Asks, Resends, Scene, scene_after, AreTurns, IsRestart}
use Rattle.world_schedule.specs.Standings.{sayer}
use Rattle.world_schedule.specs.declared.event.Event.{Event}
use Rattle.world_schedule.specs.declared.event.Event.TheVariants as events

-- how a world stands between events: and which message was brought to which validator, by their numbers
pub record Course : Type 0 where
  pub scene : Scene
  pub brought : ℕ → ℕ → Bool

-- ---- what comes to whom

abbrev pub asked_of : Request → ℕ → ℕ × Request
asked_of request p = (p, request)

abbrev pub comes : ℕ → List ℕ → List (ℕ × Request)
comes p bytes = (p, Hands (Given bytes)) ∷ []

-- a message is still to come to a validator, which is not its sender
abbrev pub is_wanting : (ℕ → ℕ → Bool) → ℕ → Option ℕ → ℕ → Bool
is_wanting brought number sayer p = not (is_by p sayer) && not (brought number p)

-- messages, numbered from this number on, each to those of these validators that want it
abbrev pub passes : Setting → (ℕ → ℕ → Bool) → List ℕ → ℕ → List Body → List (ℕ × Request)
passes c brought validators number [] = []
passes c brought validators number (b ∷ bs) = map (asked_of (Hands (Given (frame_in c b)))) (filter (is_wanting brought number (sayer b)) validators) ++ passes c brought validators (suc number) bs

-- what an event asks of validators, in turn: but for a restart, which is told by itself
abbrev pub turns : Cast → Course → Event → List (ℕ × Request)
turns cast w (events.Send client op) = []
turns cast w (events.Open client) = []
turns cast w (events.Deliver number p) = map (λ b. (p, Hands (Given (frame_in (setting_of cast) b)))) (option_to_list (slice_get w.scene.standing.numbered number))
turns cast w events.Pass = passes (setting_of cast) w.brought (correct cast) 0 w.scene.standing.numbered
turns cast w (events.Timeout p t) = (p, Hands (Due t)) ∷ []
turns cast w (events.Ask p) = (p, Asks) ∷ []
turns cast w (events.Resend p) = (p, Resends) ∷ []
turns cast w (events.Restart p) = []
turns cast w (events.Fail p failing) = []
turns cast w (events.Submit p line) = comes p (frame_spelling (submitted (length cast.powers) line))
turns cast w (events.Propose p line) = comes p (frame_in (setting_of cast) (OfProposal (proposed line)))
turns cast w (events.Vote p line) = comes p (frame_in (setting_of cast) (OfVote (voted line)))
turns cast w (events.Bundle p line) = comes p (frame_in (setting_of cast) (OfBundle (bundled (setting_of cast) line)))
turns cast w (events.Frame p bytes) = comes p bytes

-- ---- events

-- The calls that an event is, made at event k: a client sends, a validator is restarted, or each validator has its turn.
abbrev pub Happens : Cast → Course → ℕ → Event → List Made → Type 0
Happens cast w k (events.Send client op) made = made ≡ record { event = k; call = Sent client op; answer = (0, 0); health = Serving } ∷ []
Happens cast w k (events.Open client) made = made ≡ record { event = k; call = Began client; answer = (0, 0); health = Serving } ∷ []
Happens cast w k (events.Restart p) made = IsRestart (setting_of cast) w.scene k p made
Happens cast w k event made = AreTurns (setting_of cast) w.scene k (turns cast w event) made

-- what was brought to whom after an event: a pass brings each message so far
abbrev pub brought_by : Course → Event → ℕ → ℕ → Bool
brought_by w (events.Deliver number to) i p = w.brought i p || ((i == number) && (p == to))
brought_by w events.Pass i p = nat_lt i (length w.scene.standing.numbered)
brought_by w event i p = w.brought i p

abbrev pub course_after : Cast → Course → Event → List Made → Course
course_after cast w event made = record { scene = scene_after (setting_of cast) w.scene made; brought = brought_by w event }

-- ---- why an event can't happen

abbrev pub unless : Bool → FaultNumber → Option FaultNumber → Option FaultNumber
unless holds fault more = cond holds more (Some fault)

-- the first cause, of those that are found before anything is encoded
abbrev pub cause_of : Cast → Standing → Event → Option FaultNumber
cause_of cast s (events.Send client op) = unless (is_client cast client) NoSuchParty (unless (not (is_shut s client)) ClientClosed None)
cause_of cast s (events.Open client) = unless (is_client cast client) NoSuchParty (unless (is_shut s client) NotClosed None)
cause_of cast s (events.Deliver number p) = unless (nat_lt number (length s.numbered)) NoSuchMessage (unless (is_correct cast p) NoSuchParty None)
cause_of cast s events.Pass = None
cause_of cast s (events.Timeout p t) = unless (is_correct cast p) NoSuchParty None
cause_of cast s (events.Ask p) = unless (is_correct cast p) NoSuchParty None
cause_of cast s (events.Resend p) = unless (is_correct cast p) NoSuchParty None
cause_of cast s (events.Restart p) = unless (is_correct cast p) NoSuchParty None
cause_of cast s (events.Fail p failing) = unless (is_correct cast p) NoSuchParty None
cause_of cast s (events.Submit p line) = unless (is_correct cast p) NoSuchParty None
cause_of cast s (events.Propose p line) = unless (is_correct cast p) NoSuchParty (unless (is_liar cast line.sender) NoSuchParty None)
cause_of cast s (events.Vote p line) = unless (is_correct cast p) NoSuchParty (unless (is_liar cast line.sender) NoSuchParty None)
cause_of cast s (events.Bundle p line) = unless (is_correct cast p) NoSuchParty (unless (list_all (is_liar cast) (line.sender ∷ line.signers)) NoSuchParty None)
cause_of cast s (events.Frame p bytes) = unless (is_correct cast p) NoSuchParty None

-- What it is about has an encoding: a message and the values that it names, or the number of a session.
abbrev pub IsEncodable : Cast → Standing → Event → Type 0
IsEncodable cast s (events.Send client op) = IsMessage (tagged (setting_of cast) (said_as (next_item client op (s.sent client))))
IsEncodable cast s (events.Open client) = (begun_after (stands_in s client)).session < 2 ^ 32
IsEncodable cast s (events.Submit p line) = FitsTx (length cast.powers) line
IsEncodable cast s (events.Propose p line) = FitsProposal (setting_of cast) line
IsEncodable cast s (events.Vote p line) = FitsVote (setting_of cast) line
IsEncodable cast s (events.Bundle p line) = FitsBundle (setting_of cast) line
IsEncodable cast s event = Unit {0}

-- No fault but want of memory applies to it.
pub record CanHappen (cast : Cast) (s : Standing) (event : Event) : Type 0 where
  pub no_cause : cause_of cast s event ≡ None
  pub encodable : IsEncodable cast s event

-- The fault is the first cause, or that there is no encoding, where no other cause is. Memory can be wanting to any event.
abbrev pub CannotHappen : FaultNumber → Cast → Standing → Event → Type 0
CannotHappen OutOfMemory cast s event = Unit {0}
CannotHappen TooLong cast s event = (cause_of cast s event ≡ None) × (IsEncodable cast s event → ⊥)
CannotHappen NoSuchMessage cast s event = cause_of cast s event ≡ Some NoSuchMessage
CannotHappen NoSuchParty cast s event = cause_of cast s event ≡ Some NoSuchParty
CannotHappen ClientClosed cast s event = cause_of cast s event ≡ Some ClientClosed
CannotHappen NotClosed cast s event = cause_of cast s event ≡ Some NotClosed

-- no correct validator has this number
abbrev pub IsUnknown : Cast → ℕ → FaultNumber → Type 0
IsUnknown cast p fault = (fault ≡ OutOfMemory) ⊎ ((fault ≡ NoSuchParty) × (is_correct cast p ≡ false))

-- ---- events in turn

-- Events, of which the first is the one after event k, are these calls, and leave the world so.
abbrev pub HaveHappened : Cast → Course → ℕ → List Event → List Made → Course → Type 0
HaveHappened cast w k [] made last = (made ≡ []) × (last ≡ w)
HaveHappened cast w k (event ∷ more) made last = (first : List Made) × (rest : List Made) × (made ≡ first ++ rest) × CanHappen cast w.scene.standing event × Happens cast w (suc k) event first
    × HaveHappened cast (course_after cast w event first) (suc k) more rest last
