use Rattle.std.proofs.Common.{sym, arith}
use Rattle.mempool.proofs.Sizes.{session_len}
use Rattle.mempool.proofs.picking.len_of_session.Goals as goal

pub returns-else-session-eq0 : goal.returns-else-session-eq0
returns-else-session-eq0 c = sym (session_len c.args.session (omega (arith, c.if-session-eq0.false)))
