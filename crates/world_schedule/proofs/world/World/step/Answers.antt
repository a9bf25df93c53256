use Rattle.std.proofs.Common.{sym, subst}
use Rattle.world_schedule.specs.Worlds.{IsAt}
use Rattle.world_schedule.proofs.Courses.{at_event}
use Rattle.world_schedule.proofs.world.World.step.Goals as goal

pub returns-after-matches-clause-err : goal.returns-after-matches-clause-err
returns-after-matches-clause-err c = λ cast w rests other.
    let begun = at_event cast w c.args.self.now.stage c.args.self.now.event rests in
    let at : IsAt cast w c.tell.new.self.stage = subst (IsAt cast w) (sym (c.in-Err.ensures.err other)) begun.0 in (
      record { parties = at.parties; correct_are = at.correct_are; up = at.up; places_are = at.places_are; holds = at.holds; sent = at.sent; brought = at.brought },
      c.clear.ensures.items,
    )

pub returns-after-matches-clause-cause : goal.returns-after-matches-clause-cause
returns-after-matches-clause-cause c = λ cast w rests. c.in-Err.ensures.cause cast w (at_event cast w c.args.self.now.stage c.args.self.now.event rests)
