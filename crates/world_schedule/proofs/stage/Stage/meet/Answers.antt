use Rattle.world_parties.specs.Cast.{setting_of}
use Rattle.world_schedule.specs.Validators.{request_of}
use Rattle.world_schedule.proofs.Clauses.{at_ok}
use Rattle.world_schedule.proofs.Happenings.{met_at}
use Rattle.world_schedule.proofs.stage.Stage.meet.Goals as goal

pub returns-in-Ok-clause-met : goal.returns-in-Ok-clause-met
returns-in-Ok-clause-met c = λ cast w at.
    met_at cast w c.args.validator (request_of c.args.request) c.args.self.now c.turn.new.self c.turn.new.chronicle at (at_ok _ c.turn.result (c.turn.ensures (setting_of cast) w.scene at.up at.holds) c.in-Ok.is)
