use Rattle.peer_core.proofs.Headings.{headings_hold}
use Rattle.peer_core.proofs.heading.headings_law.Goals as goal

pub returns : goal.returns
returns c = headings_hold
