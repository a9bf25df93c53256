-- A world that was opened, and its report.
use Rattle.std.proofs.Common.{ℕ, false, Result, Ok, Err, List}
use Rattle.std.specs.Prelude.{Bool, IfOk}
use Rattle.world_schedule.specs.Reports.{Made}
use Rattle.world_schedule.specs.Worlds.{HasOpened, IsWorld, IsReport}
use Rattle.world_schedule.specs.declared.report.Report.{Report}
use Rattle.world_schedule.specs.declared.world.World.{World}
use Rattle.world_parties.specs.Cast.{Cast}
use Rattle.schedule_text.specs.Runs.{IsRunOf}
use Rattle.schedule_text.specs.declared.schedule.Schedule.{Schedule}

-- what is handed on of a report
pub if_ok : {T E : Type 0} (P Q : T → Type 0) (result : Result T E) → IfOk result P → ((x : T) → P x → Q x) → IfOk result Q
if_ok P Q (Ok x) p f = f x p
if_ok P Q (Err e) p f = tt

-- the first report of a world of a schedule's parties is a report of the schedule
pub first_report : {E : Type 0} (s : Schedule) (old new : World) (result : Result Report E) → HasOpened s.cast.parties.powers s.cast.clients s.cast.liars.items old
    → ((cast : Cast) (ms : List Made) (brought : ℕ → ℕ → Bool) → IsWorld cast ms brought old → IfOk result (λ report. IsReport cast ms brought s.rest.items old new report))
    → IfOk result (IsRunOf s)
first_report s old new result opened handed =
    let begun = opened.begun in
    if_ok _ _ result (handed opened.cast begun.made (λ number p. false) begun.is_world) (λ report is. record { old = old; new = new; opened = opened; reported = is })
