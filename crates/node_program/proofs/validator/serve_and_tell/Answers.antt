use contract.Lifetimes.{Lfts}
use denote.Param.{param}
use denote.Param.Send.{IsSend, IsSync, sendable}
use Rattle.std.proofs.Crossing.{crosses}
use Rattle.std.proofs.MapsCrossing as maps
use Rattle.locked_node.proofs.Crossing.{locked_sync}
use Rattle.node_program.proofs.validator.serve_and_tell.Given.{Over}
use Rattle.node_program.proofs.validator.serve_and_tell.Lts.{arg-1-1}
use Rattle.node_program.proofs.validator.serve_and_tell.Goals as goal

-- the node by its lemma, since a search through all that it holds runs out of steps
reporting_send : (g : Over) (κs : Lfts 18) → IsSend (param 0 g.row.S) → IsSend (param 1 g.row.J) → IsSync (param 2 g.row.R)
    → IsSend (arg-1-1 g.row.S g.row.J g.row.R g.S.laws g.J.laws g.R.laws g.S.Store g.S.Store-dict g.J.Node g.J.Node-dict g.R.Log g.R.Log-dict g.R.Threads g.R.Threads-dict g.R.Wait g.R.Wait-dict g.R.Clock g.R.Clock-dict g.R.Net g.R.Net-dict g.bound-8 g.bound-8-dict g.bound-9 g.bound-9-dict g.bound-10 g.bound-10-dict g.bound-11 g.bound-11-dict g.bound-12 g.bound-12-dict g.bound-13 g.bound-13-dict g.R.AllocGlobal g.R.AllocGlobal-dict g.R.Alloc g.R.Alloc-dict g.bound-16 g.bound-16-dict g.bound-17 g.bound-17-dict g.S.Destruct-dict κs)
reporting_send g κs s j r = search (locked_sync, sendable, crosses, maps.crosses) depth 60 fits 20000

pub join-ended-requires-send-F : goal.join-ended-requires-send-F
join-ended-requires-send-F g c κs within = let b = c.type_bounds in let t = reporting_send g κs b.send-S b.send-J b.sync-R in search (t, sendable)
