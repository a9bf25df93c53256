use contract.Lifetimes.{Lfts}
use denote.Param.{param}
use denote.Param.Send.{IsSend, IsSync, sendable}
use Rattle.std.proofs.Crossing.{crosses}
use Rattle.peer_threads.proofs.Crossing.{shared_sync}
use Rattle.peer_threads.proofs.shared.Shared.start_reader.Given.{Over}
use Rattle.peer_threads.proofs.shared.Shared.start_reader.Lts.{arg-0-1}
use Rattle.peer_threads.proofs.shared.Shared.start_reader.Goals as goal

-- what is shared by its lemma, since a search through all that it holds runs out of steps
reader_send : (g : Over) (κs : Lfts 8) → IsSend (param 0 g.row.S) → IsSend (param 1 g.row.J) → IsSync (param 2 g.row.C) → IsSend (param 4 g.row.L) → IsSync (param 5 g.row.R)
    → IsSend (arg-0-1 g.row.S g.row.J g.row.C g.row.E g.row.L g.row.R g.S.laws g.J.laws g.C.laws g.E.laws g.L.laws g.R.laws g.S.Store g.S.Store-dict g.J.Node g.J.Node-dict g.C.Clock g.C.Clock-dict g.S.Destruct-dict g.L.Link g.L.Link-dict g.R.Threads g.R.Threads-dict g.R.Wait g.R.Wait-dict g.R.Clock g.R.Clock-dict g.R.Log g.R.Log-dict g.L.Destruct-dict κs)
reader_send g κs s j c l r = search (shared_sync, sendable, crosses) depth 60 fits 20000

pub spawn-started-requires-send-F : goal.spawn-started-requires-send-F
spawn-started-requires-send-F g c κs within = let b = c.type_bounds in let w = reader_send g κs b.send-S b.send-J b.sync-C b.send-L b.sync-R in search (w, sendable)
