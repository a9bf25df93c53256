use contract.Lifetimes.{Lfts}
use denote.Param.{param}
use denote.Param.Send.{IsSend, IsSync, sendable}
use Rattle.std.proofs.Crossing.{crosses}
use Rattle.locked_node.proofs.Crossing.{locked_sync}
use Rattle.peer_tests.proofs.locks.threads.eight.Given.{Over}
use Rattle.peer_tests.proofs.locks.threads.eight.Lts.{arg-0-3}
use Rattle.peer_tests.proofs.locks.threads.eight.Goals as goal

-- the node by its lemma, since a search through all that it holds runs out of steps
part_sync : (g : Over) (κs : Lfts 10) → IsSend (param 0 g.row.J) → IsSync (param 1 g.row.R)
    → IsSync (arg-0-3 g.row.J g.row.R g.J.laws g.R.laws g.J.Node g.J.Node-dict g.R.Threads g.R.Threads-dict g.R.Wait g.R.Wait-dict κs)
part_sync g κs j r = search (locked_sync, sendable, crosses) depth 60 fits 20000

pub map_indices-requires-sync-F : goal.map_indices-requires-sync-F
map_indices-requires-sync-F g c κs within = let b = c.type_bounds in let t = part_sync g κs b.send-J b.sync-R in search (t, sendable)
