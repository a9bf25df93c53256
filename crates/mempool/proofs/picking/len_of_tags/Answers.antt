use Rattle.std.proofs.Common.{arith}
use Rattle.transactions.specs.Grammar.{tags_spelling}
use Rattle.mempool.proofs.Sizes.{joined_len}
use Rattle.mempool.proofs.picking.len_of_tags.Goals as goal

pub returns : goal.returns
unfolding tags_spelling
returns c = omega (arith, joined_len c.args.tags.now c.told-tags, c.saturating_mul.ensures, c.saturating_add.ensures)
