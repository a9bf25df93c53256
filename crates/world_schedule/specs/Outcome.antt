-- What the report of a world's run comes to.
use Rattle.std.specs.Prelude.{◌≡◌, ◌⊎◌, ℕ, Bool, Option, List, [], ◌∷◌, ◌++◌, map}
use Rattle.protocol.specs.Tags.{Setting}
use Rattle.protocol.specs.Messages.{◌∈◌}
use Rattle.protocol.specs.World.{Cut}
use Rattle.protocol.specs.History.{Settle}
use Rattle.protocol.specs.Premises.{Honesty, IsCorrect, Begins}
use Rattle.world_parties.specs.Cast.{Cast, setting_of, correct}
use Rattle.world_schedule.specs.Calls.{Call, Sent, Began, Handed, Asked, Resent, Reopened}
use Rattle.world_schedule.specs.Runs.{IsFair}
use Rattle.world_schedule.specs.Reports.{Made, calls_of, end_of}
use Rattle.world_schedule.specs.Making.{Request, Hands, Asks, Resends, Reopens}
use Rattle.world_schedule.specs.Events.{Course, turns, course_after}
use Rattle.world_schedule.specs.Ends.{EndAsOne}
use Rattle.world_schedule.specs.Worlds.{scene_of, Tells}
use Rattle.world_schedule.specs.declared.event.Event.{Event}
use Rattle.world_schedule.specs.declared.event.Event.TheVariants as kinds
use Rattle.world_schedule.specs.declared.report.End.{End}
use Rattle.world_schedule.specs.declared.report.Report.{Report}
use Rattle.world_schedule.specs.declared.report.Told.{Told}

-- ---- of which events calls are

-- The call may be what the request comes to.
abbrev pub MayMeet : ℕ → Request → Call → Type 0
MayMeet p (Hands input) call = (times : ℕ) × (call ≡ Handed p input times)
MayMeet p Asks call = call ≡ Asked p
MayMeet p Resends call = call ≡ Resent p
MayMeet p Reopens call = (cut : Option Cut) × (call ≡ Reopened p cut)

-- It may be made for the request, or to settle the validator.
abbrev pub IsFor : ℕ → Request → Call → Type 0
IsFor p request call = MayMeet p request call ⊎ MayMeet p (Hands Settle) call

-- The call is what the client does, or is made for one of the event's requests.
abbrev pub IsOfEvent : Cast → Course → Event → Call → Type 0
IsOfEvent cast w (kinds.Send client op) call = call ≡ Sent client op
IsOfEvent cast w (kinds.Open client) call = call ≡ Began client
IsOfEvent cast w (kinds.Restart p) call = IsFor p Reopens call
IsOfEvent cast w event call = (r : ℕ × Request) × (r ∈ turns cast w event) × IsFor r.0 r.1 call

-- so each of these calls, in the order of the events
abbrev pub AreOfEvents : Cast → Course → List Event → List Made → Type 0
AreOfEvents cast w [] made = made ≡ []
AreOfEvents cast w (event ∷ more) made = (first : List Made) × (rest : List Made) × (made ≡ first ++ rest) × ((m : Made) → m ∈ first → IsOfEvent cast w event m.call)
    × AreOfEvents cast (course_after cast w event first) more rest

-- The report's ends are how the validators end after calls of these events, behind those before.
pub record EndsBy (cast : Cast) (ms : List Made) (brought : ℕ → ℕ → Bool) (events : List Event) (report : Report) : Type 0 where
  pub more : List Made
  pub of_events : AreOfEvents cast (record { scene = scene_of cast ms; brought = brought }) events more
  pub ends_are : report.ends ≡ map (end_of (setting_of cast) (calls_of (ms ++ more))) (correct cast)

-- What a report tells is more: just what each event comes to, which answers that gives, and what was told.
abbrev pub ComingLaw : Type 0
ComingLaw = (cast : Cast) (ms : List Made) (brought : ℕ → ℕ → Bool) (events : List Event) (before : List Told) (report : Report) (k : Tells cast ms brought events before report) → AreOfEvents cast (record { scene = scene_of cast ms; brought = brought }) events k.more

-- ---- one report

-- Of what any two ends of one report tell that was delivered one begins the other, where the run of its calls is fair.
abbrev pub OutcomeLaw : Type 0
OutcomeLaw = (cast : Cast) (ms : List Made) (brought : ℕ → ℕ → Bool) (events : List Event) (report : Report) (k : EndsBy cast ms brought events report) (h : Honesty) → IsFair (setting_of cast) h (calls_of (ms ++ k.more))
    → (one other : End) → one ∈ report.ends → other ∈ report.ends → IsCorrect (setting_of cast) h one.validator → IsCorrect (setting_of cast) h other.validator → EndAsOne h (calls_of (ms ++ k.more)) one other

-- ---- two reports of one world

-- What an end tells that was delivered, and one of a later report, after these calls: of one validator the earlier list begins the later. Of two correct ones, where the run of the calls is fair, one begins the other; the later keeps every client's order, and a correct client's items in it begin what the client sent.
pub record AreLater (c : Setting) (calls : List Call) (early late : End) : Type 0 where
  pub lasts : early.validator ≡ late.validator → Begins early.delivered late.delivered
  pub one_list : (h : Honesty) → IsFair c h calls → IsCorrect c h early.validator → IsCorrect c h late.validator → EndAsOne h calls late early

-- So it is with any end of a report and any of a later one of the same world, whatever calls were made between.
abbrev pub ReportsLaw : Type 0
ReportsLaw = (cast : Cast) (ms between : List Made) (brought brought_then : ℕ → ℕ → Bool) (events events_then : List Event) (report later : Report)
    (k : EndsBy cast ms brought events report) (l : EndsBy cast ((ms ++ k.more) ++ between) brought_then events_then later)
    → (one other : End) → one ∈ report.ends → other ∈ later.ends → AreLater (setting_of cast) (calls_of (((ms ++ k.more) ++ between) ++ l.more)) one other
