use Rattle.protocol.specs.Values.{fresh}
use Rattle.world_schedule.specs.Worlds.{HaveSent}
use Rattle.world_schedule.proofs.clients.Clients.new.Given as goal

abbrev pub invariant-loop-client : goal.invariant-loop-client
invariant-loop-client l = HaveSent l._client (λ client. fresh) l.each.items
