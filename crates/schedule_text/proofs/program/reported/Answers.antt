use Rattle.std.proofs.Common.{◌≡◌, ◌∙◌, subst}
use Rattle.std.specs.Prelude.{IfOk}
use Rattle.world_schedule.specs.Worlds.{IsReport}
use Rattle.world_schedule.specs.declared.world.World.{World}
use Rattle.schedule_text.proofs.Runs.{first_report}
use Rattle.schedule_text.proofs.program.reported.Goals as goal

pub returns-clause-whole : goal.returns-clause-whole
returns-clause-whole g c = λ none.
    let s = c.args.schedule.now in
    let old : World = c.tell_stretches.new.self.world in
    let new : World = c.tell_events.new.self.world in
    let same : c.tell_stretches.new.self ≡ c.in_ok-run.run' = c.tell_stretches.ensures.none (c.deref.ensures.value ∙ none) in
    first_report s old new c.tell_events.result (rw same c.in_ok-run.ensures.0) (λ cast ms brought at. subst
    (λ events. IfOk c.tell_events.result (λ report. IsReport cast ms brought events old new report))
    c.deref-2.ensures.value (c.tell_events.ensures.handed cast ms brought at))
