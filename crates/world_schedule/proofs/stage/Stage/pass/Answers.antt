use Rattle.std.proofs.Common.{subst}
use Rattle.world_parties.specs.Cast.{setting_of}
use Rattle.world_schedule.specs.Events.{passes}
use Rattle.world_schedule.specs.Worlds.{has_come, HaveMet}
use Rattle.world_schedule.proofs.Clauses.{at_ok}
use Rattle.world_schedule.proofs.Happenings.{passed}
use Rattle.world_schedule.proofs.stage.Stage.pass.Goals as goal

pub returns-in-Ok-clause-ok : goal.returns-in-Ok-clause-ok
returns-in-Ok-clause-ok c = λ cast w at.
    let old = c.args.self.now in
    let k = at_ok _ c.pass.result (c.pass.ensures (setting_of cast) w.scene at.up at.holds) c.in-Ok.is in
    let met = subst (λ ps. HaveMet (setting_of cast) w.scene (passes (setting_of cast) (has_come old.brought) ps 0 w.scene.standing.numbered) old.validators.each.items c.pass.new.self.each.items old.chronicle c.pass.new.chronicle) c.deref.ensures.value k in
    passed cast w old c.pass.new.self c.pass.new.chronicle c.pass-in-Ok.new.self c.count-count.result at met (c.count-count.ensures (setting_of cast) w.scene.standing.numbered at.holds) c.pass-in-Ok.ensures

pub returns-in-Err-clause-cause : goal.returns-in-Err-clause-cause
returns-in-Err-clause-cause c = λ cast w at. tt
