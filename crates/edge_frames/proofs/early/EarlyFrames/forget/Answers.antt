use Rattle.std.proofs.Common.{eqb, sym, ap, ◌∙◌}
use Rattle.std.specs.Map.{lookup}
use Rattle.std.proofs.lemmas.Map.{none_passes_from_lookup}
use Rattle.edge_frames.proofs.Links.{Entries, links_of, removed}
use Rattle.edge_frames.proofs.early.EarlyFrames.forget.Goals as goal

pub returns : goal.returns
returns c =
    let es = c.self.inside.links.entries in
    let none = ap (λ (ds : Entries). lookup (eqb c.args.link.0) ds) (sym c.shift_remove.ensures.entries) ∙ c.shift_remove.ensures.updates.1 in
    rw (← c.self.view_is) (ap links_of c.shift_remove.ensures.entries ∙ removed c.args.link.0 es (none_passes_from_lookup _ _ none))
