use Rattle.peer_core.proofs.Idles.{idle_holds}
use Rattle.peer_core.proofs.idle.idle_law.Goals as goal

pub returns : goal.returns
returns c = idle_holds
