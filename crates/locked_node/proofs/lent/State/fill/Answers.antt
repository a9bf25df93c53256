use Rattle.std.proofs.Common.{◌≤◌, length, refl, subst, arith}
use Rattle.locked_node.specs.Locked.{Locked}
use Rattle.locked_node.proofs.Feeds.{filled_none}
use Rattle.locked_node.proofs.lent.State.fill.Goals as goal

pub returns-then-place-len-clause-filled : goal.returns-then-place-len-clause-filled
returns-then-place-len-clause-filled g c = filled_none _ _ _ _ (subst (λ (l : Locked). length l.feeders ≤ c.args.subscription.now.place) c.self.view_is (omega (arith, c.len.ensures, c.if-place-len.true))) refl
