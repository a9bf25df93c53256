use Rattle.std.proofs.Common.{◌≡◌, ℕ, List, Err, subst}
use Rattle.protocol.specs.State.{Node}
use Rattle.protocol.specs.History.{Given}
use Rattle.protocol.specs.declared.refusal.Refusal.TheVariants as answers
use Rattle.node_core.specs.Core.{Stands}
use Rattle.node_core.specs.Calls.{IsBroken}
use Rattle.node_core.proofs.node.NodeCore.handle_with.Goals as goal

pub returns-clause-broken : goal.returns-clause-broken
returns-clause-broken g c =
    subst (λ (frame : List ℕ). c.handle_examined.result ≡ Err answers.JournalFailed → (n : Node) → Stands n c.args.self.now → IsBroken n (Given frame) c.args.self.now c.handle_examined.new.self)
    c.new-examined.ensures c.handle_examined.ensures.broken
