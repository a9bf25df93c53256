-- A schedule that hands in nothing in a correct party's name forges nothing.
use Rattle.std.specs.Prelude.{◌≡◌, ℕ, Bool, true, List, [], ◌∷◌}
use Rattle.powers.specs.Power.{FewLie}
use Rattle.protocol.specs.Values.{Value, Item, items}
use Rattle.protocol.specs.Messages.{◌∈◌}
use Rattle.protocol.specs.World.{beginning}
use Rattle.protocol.specs.Premises.{Distinct}
use Rattle.world_parties.specs.Cast.{setting_of, is_liar}
use Rattle.world_schedule.specs.Calls.{Sent, adding, run_of}
use Rattle.world_schedule.specs.Ends.{EndAsOne}
use Rattle.world_schedule.specs.declared.event.Event.{Event}
use Rattle.world_schedule.specs.declared.event.Event.TheVariants as events
use Rattle.world_schedule.specs.declared.report.End.{End}
use Rattle.world_schedule.specs.declared.report.Report.{Report}
use Rattle.fair_worlds.specs.Laws.{AreUnforged, honesty, IsFirstReport, calls_in}

-- ---- what an event hands in

-- the item was sent, where it is in a correct client's name
abbrev pub IsSent : (ℕ → Bool) → (ℕ → List Item) → Item → Type 0
IsSent correct sent t = correct t.client ≡ true → t ∈ sent t.client

-- so was each item of the value
abbrev pub AreSent : (ℕ → Bool) → (ℕ → List Item) → Value → Type 0
AreSent correct sent v = (t : Item) → t ∈ items v → IsSent correct sent t

-- The event hands in no bytes as they are, and in the name of a correct client nothing but what that client has sent.
abbrev pub SpeaksForNobody : (ℕ → Bool) → (ℕ → List Item) → Event → Type 0
SpeaksForNobody correct sent (events.Submit p line) = IsSent correct sent line.item
SpeaksForNobody correct sent (events.Propose p line) = AreSent correct sent line.value
SpeaksForNobody correct sent (events.Bundle p line) = AreSent correct sent line.value
SpeaksForNobody correct sent (events.Frame p bytes) = ⊥
SpeaksForNobody correct sent event = Unit {0}

-- ---- what a schedule hands in

-- what a client has sent after the event
abbrev pub sent_after : (ℕ → List Item) → Event → ℕ → List Item
sent_after sent (events.Send sender op) client = adding client (sent client) (Sent sender op)
sent_after sent event client = sent client

abbrev pub nothing_sent : ℕ → List Item
nothing_sent client = []

-- so each of these events, as it comes
abbrev pub SpeakForNobody : (ℕ → Bool) → (ℕ → List Item) → List Event → Type 0
SpeakForNobody correct sent [] = Unit {0}
SpeakForNobody correct sent (event ∷ more) = SpeaksForNobody correct sent event × SpeakForNobody correct (sent_after sent event) more

-- ---- the laws

-- Nothing that comes in the run that a report of such a schedule tells of is forged.
abbrev pub UnforgedLaw : Type 0
UnforgedLaw = (powers : List ℕ) (clients : ℕ) (liars : List ℕ) (events : List Event) (report : Report) (k : IsFirstReport powers clients liars events report)
    (correct : ℕ → Bool) → SpeakForNobody correct nothing_sent events
    → AreUnforged (setting_of k.opened.cast) (honesty k.opened.cast correct) (beginning (setting_of k.opened.cast)) (run_of (setting_of k.opened.cast) (calls_in powers clients liars events report k))

-- So of it only two things are left to be asked: that less than a third of the power lies, and that no two values have one id.
abbrev pub ScheduleLaw : Type 0
ScheduleLaw = (powers : List ℕ) (clients : ℕ) (liars : List ℕ) (events : List Event) (report : Report) (k : IsFirstReport powers clients liars events report)
    (correct : ℕ → Bool) → SpeakForNobody correct nothing_sent events → FewLie k.opened.cast.powers (is_liar k.opened.cast)
    → Distinct (setting_of k.opened.cast) (honesty k.opened.cast correct) (run_of (setting_of k.opened.cast) (calls_in powers clients liars events report k))
    → (one other : End) → one ∈ report.ends → other ∈ report.ends → EndAsOne (honesty k.opened.cast correct) (calls_in powers clients liars events report k) one other
