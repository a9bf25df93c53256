use Rattle.std.proofs.Common.{◌∙◌, refl}
use Rattle.world_schedule.proofs.Ended.{if_ok, if_err, course_of, reported, unreported, halted}
use Rattle.world_schedule.proofs.world.World.run.Goals as goal

pub returns-in-Ok-clause-ok : goal.returns-in-Ok-clause-ok
returns-in-Ok-clause-ok c = λ cast ms brought at.
    let old = c.args.self.now in
    if_ok _ _ c.report.result c.report.ensures.ok (λ report k. reported cast ms brought c.args.events.now old _ c.happen_all.new.self c.report.new.self report
    (c.in-Ok.ensures.ok cast (course_of cast ms brought) at.0) refl (c.in-Ok.ensures.serves ∙ at.1) c.report.ensures.rest c.report.ensures.untold k.0 k.1)

pub returns-in-Ok-clause-err : goal.returns-in-Ok-clause-err
returns-in-Ok-clause-err c = λ cast ms brought at.
    let old = c.args.self.now in
    if_err _ _ c.report.result c.report.ensures.err (λ fault is. unreported cast ms brought c.args.events.now old _ c.happen_all.new.self c.report.new.self fault
    (c.in-Ok.ensures.ok cast (course_of cast ms brought) at.0) refl c.in-Ok.ensures.count (c.in-Ok.ensures.serves ∙ at.1) is c.report.ensures.rest c.report.ensures.untold)

pub returns-in-Err-clause-err : goal.returns-in-Err-clause-err
returns-in-Err-clause-err c = λ cast ms brought at.
    halted cast ms brought c.args.events.now c.in-Err.number c.args.self.now _ c.happen_all.new.self c.stopped.new.self c.stopped.result
    (c.in-Err.ensures.err cast (course_of cast ms brought) at.0) refl c.stopped.ensures.fault c.stopped.ensures.rest c.stopped.ensures.untold
