use Rattle.stopped_cores.proofs.Over.{comes_back_law}
use Rattle.stopped_cores.proofs.laws.comes_back_law.Goals as goal

pub returns : goal.returns
returns g c = comes_back_law g.S.Store.seen g.S.Store.may_leave
