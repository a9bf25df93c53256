use contract.Lifetimes.{Lfts}
use denote.Param.{param}
use denote.Param.Send.{IsSend, IsSync, sendable}
use Rattle.std.proofs.Crossing.{crosses}
use Rattle.locked_node.proofs.Crossing.{locked_sync}
use Rattle.peer_tests.proofs.locks.threads.beside.Given.{Over}
use Rattle.peer_tests.proofs.locks.threads.beside.Lts.{arg-0-1}
use Rattle.peer_tests.proofs.locks.threads.beside.Goals as goal

-- the node by its lemma, since a search through all that it holds runs out of steps
handers_send : (g : Over) (κs : Lfts 14) → IsSend (param 0 g.row.J) → IsSync (param 1 g.row.R)
    → IsSend (arg-0-1 g.row.J g.row.R g.J.laws g.R.laws g.J.Node g.J.Node-dict g.R.Threads g.R.Threads-dict g.R.Wait g.R.Wait-dict κs)
handers_send g κs j r = search (locked_sync, sendable, crosses) depth 60 fits 20000

pub join-requires-send-F : goal.join-requires-send-F
join-requires-send-F g c κs within = let b = c.type_bounds in let t = handers_send g κs b.send-J b.sync-R in search (t, sendable)
