use Rattle.std.proofs.Common.{sym, ◌∙◌}
use Rattle.mempool.proofs.Found.{same_waits}
use Rattle.mempool.proofs.Mempool.holds.Goals as goal

pub returns-in-Some : goal.returns-in-Some
returns-in-Some c = λ same. same_waits c.args.tx.now.client c.args.self.now c.in-Some.waiting.now c.args.tx.now (rw c.waiting.ensures at c.in-Some.ensures) (sym c.is_same.ensures ∙ same)
