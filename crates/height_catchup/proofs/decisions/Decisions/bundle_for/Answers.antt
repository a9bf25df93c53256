use Rattle.std.proofs.Common.{sym, ◌∙◌}
use Rattle.height_catchup.proofs.Places.{read_at, found_at_place}
use Rattle.height_catchup.proofs.decisions.Decisions.bundle_for.Goals as goal

pub returns-clause-place : goal.returns-clause-place
returns-clause-place c = rw (← c.self.view_is, ← c.deref.ensures.value) (read_at _ c.args.height c.get.result c.get.ensures.lookup)

pub returns-clause-bundle : goal.returns-clause-bundle
returns-clause-bundle c = rw (← c.self.view_is) (rw (← c.deref.ensures.value) (read_at _ c.args.height c.get.result c.get.ensures.lookup) ∙ sym (found_at_place _ c.args.height c.self.invariant))
