use Rattle.std.proofs.Common.{◌∙◌, sym, subst}
use Rattle.world_parties.specs.Cast.{setting_of}
use Rattle.world_schedule.specs.Serving.{AreServed}
use Rattle.world_schedule.specs.Making.{beginning}
use Rattle.world_schedule.proofs.stage.settled.Goals as goal

pub returns-clause-places : goal.returns-clause-places
returns-clause-places c =
    let k = c.in-Ok-turn_all.ensures (setting_of c.args.parties.now) beginning c.in-Ok.ensures.up (c.requires (setting_of c.args.parties.now)) in
    k.leads.places_are ∙ c.in-Ok.ensures.places

pub returns-clause-met : goal.returns-clause-met
returns-clause-met c =
    (c.in-Ok.validators.each.items, c.in-Ok-turn_all.ensures (setting_of c.args.parties.now) beginning c.in-Ok.ensures.up (c.requires (setting_of c.args.parties.now)))

pub returns-clause-served : goal.returns-clause-served
returns-clause-served c = subst AreServed c.deref.ensures.value (sym c.tells_failure.ensures ∙ c.if-tells_failure.false)
