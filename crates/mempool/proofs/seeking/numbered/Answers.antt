use Rattle.mempool.proofs.Found.{got_in}
use Rattle.mempool.proofs.seeking.numbered.Goals as goal

pub returns : goal.returns
returns c = got_in c.args.waiting.now c.in_ok-behind.behind c.get.result c.get.ensures.lookup.1 c.get.ensures.lookup.3
