-- It owns nothing, so it may go to another thread.
use denote.RattleType.{RattleType}
use denote.Param.Send.{IsSend, owning_send, sendable}
use Rattle.locked_node.specs.contracts.history.History.{the_row, the_type}

pub send : (C : RattleType) → IsSend C → IsSend (the_row C)
send C c = owning_send (the_type C) (search sendable, tt) (λ d. tt) (λ k x w. tt)
