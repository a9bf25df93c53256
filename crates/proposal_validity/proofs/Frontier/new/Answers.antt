use Rattle.std.proofs.Common.{refl}
use Rattle.protocol.specs.Values.{fifo}
use Rattle.proposal_validity.specs.Standing.{standing}
use Rattle.proposal_validity.proofs.Frontier.new.Goals as goal

pub returns : goal.returns
unfolding fifo standing
returns c = rw c.new.ensures.items (record { order = refl; each = λ client. refl })
