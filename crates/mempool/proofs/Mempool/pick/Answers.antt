use Rattle.std.proofs.Common.{List, Bor, map, sym, ap, ◌∙◌}
use Rattle.protocol.specs.Values.{Tx, Value}
use Rattle.mempool.specs.Turns.{fitting}
use Rattle.mempool.proofs.Sizes.{pick_is}
use Rattle.mempool.proofs.Kept.{pick_spelled}
use Rattle.mempool.proofs.Mempool.pick.Goals as goal

abbrev of : List Tx → Value
of txs = record { txs = txs }

pub returns-clause-value : goal.returns-clause-value
returns-clause-value c = ap of (c.in_ok-from_vec.ensures.ok ∙ c.in_ok-txs.ensures ∙ ap (map (λ (t : Bor Tx). t.now)) c.deref.ensures.value ∙ c.in_ok-picked.ensures ∙ ap fitting c.in_ok-turns.ensures) ∙ sym (pick_is c.args.self.now)

pub returns-clause-spelled : goal.returns-clause-spelled
returns-clause-spelled c each = rw (returns-clause-value c) (pick_spelled c.args.self.now each)
