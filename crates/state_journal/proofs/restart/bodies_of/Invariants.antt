use Rattle.std.proofs.Common.{◌≡◌, map, take}
use Rattle.protocol.specs.Messages.{body_of}
use Rattle.protocol.specs.Records.{act_of}
use Rattle.state_journal.proofs.restart.bodies_of.Given as goal

abbrev pub invariant-loop-message : goal.invariant-loop-message
invariant-loop-message l = l.bodies.items ≡ map (λ m. body_of l.me m.height m.round (act_of m.act)) (take l.message-index l.own)
