use contract.Lifetimes.{Lfts}
use denote.Param.{param}
use denote.Param.Send.{IsSend, IsSync, sendable}
use Rattle.std.proofs.Crossing.{crosses}
use Rattle.peer_threads.proofs.Crossing.{shared_sync}
use Rattle.peer_threads.proofs.shared.fn.Shared.run_threads.scope.Given.{Over}
use Rattle.peer_threads.proofs.shared.fn.Shared.run_threads.scope.Lts.{arg-0-1, arg-1-1}
use Rattle.peer_threads.proofs.shared.fn.Shared.run_threads.scope.Goals as goal

-- what is shared by its lemma, since a search through all that it holds runs out of steps
timer_send : (g : Over) (κs : Lfts 8) → IsSend (param 0 g.row.S) → IsSend (param 1 g.row.J) → IsSync (param 2 g.row.C) → IsSync (param 4 g.row.R)
    → IsSend (arg-0-1 g.row.S g.row.J g.row.C g.row.L g.row.R g.row.L-Link g.row.L-Dialer g.S.laws g.J.laws g.C.laws g.L.laws g.R.laws g.L.Link.laws g.L.Dialer.laws g.S.Store g.S.Store-dict g.J.Node g.J.Node-dict g.C.Clock g.C.Clock-dict g.S.Destruct-dict g.L.Links g.L.Links-dict g.L.Link.Link g.L.Link.Link-dict g.L.Dialer.Dialer g.L.Dialer.Dialer-dict g.R.Threads g.R.Threads-dict g.R.Wait g.R.Wait-dict g.R.Clock g.R.Clock-dict g.R.Log g.R.Log-dict g.L.Link.Destruct-dict g.L.Dialer.Destruct-dict κs)
timer_send g κs s j c r = search (shared_sync, sendable, crosses) depth 60 fits 20000

dialer_send : (g : Over) (κs : Lfts 8) → IsSend (param 0 g.row.S) → IsSend (param 1 g.row.J) → IsSync (param 2 g.row.C) → IsSync (param 4 g.row.R) → IsSend (param 6 g.row.L-Dialer)
    → IsSend (arg-1-1 g.row.S g.row.J g.row.C g.row.L g.row.R g.row.L-Link g.row.L-Dialer g.S.laws g.J.laws g.C.laws g.L.laws g.R.laws g.L.Link.laws g.L.Dialer.laws g.S.Store g.S.Store-dict g.J.Node g.J.Node-dict g.C.Clock g.C.Clock-dict g.S.Destruct-dict g.L.Links g.L.Links-dict g.L.Link.Link g.L.Link.Link-dict g.L.Dialer.Dialer g.L.Dialer.Dialer-dict g.R.Threads g.R.Threads-dict g.R.Wait g.R.Wait-dict g.R.Clock g.R.Clock-dict g.R.Log g.R.Log-dict g.L.Link.Destruct-dict g.L.Dialer.Destruct-dict κs)
dialer_send g κs s j c r d = search (shared_sync, sendable, crosses) depth 60 fits 20000

pub spawn-timer-requires-send-F : goal.spawn-timer-requires-send-F
spawn-timer-requires-send-F g c κs within = let t = timer_send g κs c.requires.store c.requires.words c.requires.clock c.requires.runtime in search (t, sendable)

pub spawn-dialing-requires-send-F : goal.spawn-dialing-requires-send-F
spawn-dialing-requires-send-F g c κs within = let t = dialer_send g κs c.requires.store c.requires.words c.requires.clock c.requires.runtime c.requires.dialer in search (t, sendable)
