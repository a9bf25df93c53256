use Rattle.std.proofs.Common.{◌≡◌, ℕ, length, ap, ◌∙◌, arith, ◌+◌}
use Rattle.transactions.specs.Grammar.{op_spelling}
use Rattle.protocol.specs.Values.{Op}
use Rattle.mempool.proofs.Sizes.{tx_len, op_len}
use Rattle.mempool.proofs.picking.len_of.Goals.{in-Bytes, in-Close}
use Rattle.mempool.proofs.picking.len_of.Goals as goal

abbrev spelled : Op → ℕ
spelled op = length (op_spelling op)

pub returns : goal.returns
returns c = elim c.match-tx.branch [
  | in-Bytes w ↦ (let op : spelled c.args.tx.now.op ≡ 3 + length w.in-Bytes.contents = ap spelled w.in-Bytes.is ∙ op_len w.in-Bytes.contents in omega (arith, tx_len c.args.tx.now, op, rw c.as_slice.ensures at c.len_of_tags.ensures))
  | in-Close w ↦ (let op : spelled c.args.tx.now.op ≡ 1 = ap spelled w.in-Close.is in omega (arith, tx_len c.args.tx.now, op, rw c.as_slice.ensures at c.len_of_tags.ensures))
]
