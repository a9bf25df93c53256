use contract.Lifetimes.{Lfts}
use denote.Param.{param}
use denote.Param.Send.{IsSend, IsSync, sendable}
use Rattle.std.proofs.Crossing.{crosses}
use Rattle.std.proofs.MapsCrossing as maps
use Rattle.locked_node.proofs.Crossing.{locked_sync}
use Rattle.node_program.proofs.validator.report_beside.Given.{Over}
use Rattle.node_program.proofs.validator.report_beside.Lts.{arg-2-1}
use Rattle.node_program.proofs.validator.report_beside.Goals as goal

-- the node by its lemma, since a search through all that it holds runs out of steps
status_send : (g : Over) (κs : Lfts 17) → IsSend (param 0 g.row.S) → IsSend (param 1 g.row.J) → IsSync (param 2 g.row.R)
    → IsSend (arg-2-1 g.row.S g.row.J g.row.R g.S.laws g.J.laws g.R.laws g.S.Store g.S.Store-dict g.J.Node g.J.Node-dict g.R.Log g.R.Log-dict g.R.Threads g.R.Threads-dict g.R.Wait g.R.Wait-dict g.R.Clock g.R.Clock-dict g.R.AllocGlobal g.R.AllocGlobal-dict g.R.Alloc g.R.Alloc-dict g.bound-9 g.bound-9-dict g.bound-10 g.bound-10-dict g.S.Destruct-dict κs)
status_send g κs s j r = search (locked_sync, sendable, crosses) depth 60 fits 20000

pub join-requires-send-F : goal.join-requires-send-F
join-requires-send-F g c κs within = let b = c.type_bounds in let t = status_send g κs b.send-S b.send-J b.sync-R in search (t, sendable)
