-- What a report of a schedule tells of.
use Rattle.std.specs.Prelude.{false}
use Rattle.world_schedule.specs.Worlds.{HasOpened, IsReport}
use Rattle.world_schedule.specs.declared.report.Report.{Report}
use Rattle.world_schedule.specs.declared.world.World.{World}
use Rattle.schedule_text.specs.declared.schedule.Schedule.{Schedule}

-- The world is one that was just opened, of the parties of the setup lines. Its report of the schedule's events is this one, which tells of the beginning first.
pub record IsRunOf (s : Schedule) (report : Report) : Type 0 where
  pub old : World
  pub new : World
  pub opened : HasOpened s.cast.parties.powers s.cast.clients s.cast.liars.items old
  pub reported : IsReport opened.cast opened.begun.made (λ number p. false) s.rest.items old new report
