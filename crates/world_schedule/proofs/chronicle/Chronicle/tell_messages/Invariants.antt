use Rattle.std.proofs.Common.{◌≡◌, List, map, take}
use Rattle.protocol.specs.Tags.{Setting}
use Rattle.protocol.specs.Messages.{Body}
use Rattle.world_schedule.specs.Cores.{frame_in}
use Rattle.world_schedule.specs.Standings.{Holds, Says, AreReadable}
use Rattle.world_schedule.proofs.chronicle.Chronicle.tell_messages.Given as goal

abbrev pub invariant-loop-frame : goal.invariant-loop-frame
invariant-loop-frame l = (c : Setting) (numbered bodies : List Body) → Holds c numbered l.initial.self.messages → map (λ f. f.items) l.frames ≡ map (frame_in c) bodies → AreReadable c bodies
    → Says c numbered l.validator (take l.frame-index bodies) l.initial.self l.self
