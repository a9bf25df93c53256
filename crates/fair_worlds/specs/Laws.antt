-- A world's calls are of correct validators, and what is left to be asked of a run.
use Rattle.std.specs.Prelude.{◌≡◌, ℕ, Bool, true, List, [], ◌∷◌, ◌++◌, Some, map, false}
use Rattle.powers.specs.Power.{FewLie}
use Rattle.protocol.specs.Tags.{Setting}
use Rattle.protocol.specs.Messages.{◌∈◌}
use Rattle.protocol.specs.World.{World, Event, happens, beginning}
use Rattle.protocol.specs.History.{Settle}
use Rattle.protocol.specs.Premises.{Honesty, EventUnforged, Distinct}
use Rattle.world_parties.specs.Cast.{Cast, setting_of, is_liar, is_correct, correct}
use Rattle.world_schedule.specs.Calls.{Call, run_of}
use Rattle.world_schedule.specs.Runs.{IsFair}
use Rattle.world_schedule.specs.Reports.{Made, calls_of, validator_of}
use Rattle.world_schedule.specs.Making.{Hands, AreTurns, beginning as at_first}
use Rattle.world_schedule.specs.Events.{asked_of}
use Rattle.world_schedule.specs.Ends.{EndAsOne}
use Rattle.world_schedule.specs.Worlds.{HasOpened, Tells, IsReport}
use Rattle.world_schedule.specs.declared.event.Event.{Event as WorldEvent}
use Rattle.world_schedule.specs.declared.report.Told.{Told}
use Rattle.world_schedule.specs.declared.report.End.{End}
use Rattle.world_schedule.specs.declared.report.Report.{Report}
use Rattle.world_schedule.specs.declared.world.World.{World as CodeWorld}

-- ---- calls of correct validators

abbrev pub AreByCorrect : Cast → List Made → Type 0
AreByCorrect cast ms = (m : Made) → m ∈ ms → (p : ℕ) → validator_of m.call ≡ Some p → is_correct cast p ≡ true

-- the calls of an opening, which settles each correct validator
abbrev pub AreOpening : Cast → List Made → Type 0
AreOpening cast made = AreTurns (setting_of cast) at_first 0 (map (asked_of (Hands Settle)) (correct cast)) made

pub record CallsTheCorrect (cast : Cast) : Type 0 where
  pub opening : (made : List Made) → AreOpening cast made → AreByCorrect cast made
  pub run : (ms : List Made) (brought : ℕ → ℕ → Bool) (events : List WorldEvent) (before : List Told) (report : Report) (k : Tells cast ms brought events before report) → AreByCorrect cast ms → AreByCorrect cast (ms ++ k.more)

abbrev pub CorrectCallsLaw : Type 0
CorrectCallsLaw = (cast : Cast) → CallsTheCorrect cast

-- ---- what is left

-- Each event is unforged as it happens, wherever that is.
abbrev pub AreUnforged : Setting → Honesty → World → List Event → Type 0
AreUnforged c h w [] = Unit {0}
AreUnforged c h w (e ∷ es) = EventUnforged c h w e × AreUnforged c h (happens c w e) es

-- those lie that the world lets lie, and these clients are correct
abbrev pub honesty : Cast → (ℕ → Bool) → Honesty
honesty cast clients = record { liars = is_liar cast; clients = clients }

-- less than a third of the power lies, nobody else makes a correct party's tags, and no two values have one id
pub record MeetsPremises (cast : Cast) (clients : ℕ → Bool) (calls : List Call) : Type 0 where
  pub few : FewLie cast.powers (is_liar cast)
  pub unforged : AreUnforged (setting_of cast) (honesty cast clients) (beginning (setting_of cast)) (run_of (setting_of cast) calls)
  pub distinct : Distinct (setting_of cast) (honesty cast clients) (run_of (setting_of cast) calls)

abbrev pub FairLaw : Type 0
FairLaw = (cast : Cast) (clients : ℕ → Bool) (ms : List Made) → AreByCorrect cast ms → MeetsPremises cast clients (calls_of ms) → IsFair (setting_of cast) (honesty cast clients) (calls_of ms)

-- ---- of a report

-- A world that was opened with these powers, so many clients and these liars, and the report of its first run. It is what `tmsim` prints of a schedule with these, where no `state` line parts the run.
pub record IsFirstReport (powers : List ℕ) (clients : ℕ) (liars : List ℕ) (events : List WorldEvent) (report : Report) : Type 0 where
  pub old : CodeWorld
  pub new : CodeWorld
  pub opened : HasOpened powers clients liars old
  pub reported : IsReport opened.cast opened.begun.made (λ number p. false) events old new report

-- the calls that it tells of
abbrev pub calls_in : (powers : List ℕ) (clients : ℕ) (liars : List ℕ) (events : List WorldEvent) (report : Report) → IsFirstReport powers clients liars events report → List Call
calls_in powers clients liars events report k = calls_of (k.opened.begun.made ++ k.reported.tells.more)

abbrev pub ReportLaw : Type 0
ReportLaw = (powers : List ℕ) (clients : ℕ) (liars : List ℕ) (events : List WorldEvent) (report : Report) (k : IsFirstReport powers clients liars events report)
    (honest : ℕ → Bool) → MeetsPremises k.opened.cast honest (calls_in powers clients liars events report k)
    → (one other : End) → one ∈ report.ends → other ∈ report.ends → EndAsOne (honesty k.opened.cast honest) (calls_in powers clients liars events report k) one other
