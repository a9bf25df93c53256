use Rattle.std.proofs.Common.{refl, ◌∙◌}
use Rattle.world_schedule.specs.Worlds.{scene_of}
use Rattle.world_schedule.proofs.Places.{state_in, known_in, seen_some, seen_is}
use Rattle.world_schedule.proofs.world.World.state.Goals as goal

pub returns-clause-known : goal.returns-clause-known
returns-clause-known c = λ cast ms brought world. seen_is (λ state. state.now) c.state.result _ c.state.ensures ∙ known_in cast (scene_of cast ms) c.args.self.now.stage.validators.each.items c.args.validator world.0.0.up world.0.0.places_are

pub returns-clause-node : goal.returns-clause-node
returns-clause-node c = λ cast ms brought world. seen_some (λ state. state.now) _ c.state.result _ c.state.ensures (λ state at. state_in cast ms c.args.self.now.stage.validators.each.items c.args.validator _ state.now world.0.0.up refl at)
