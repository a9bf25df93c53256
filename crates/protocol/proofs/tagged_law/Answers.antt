use Rattle.protocol.proofs.Tagging.{tagged_law}
use Rattle.protocol.proofs.tagged_law.Goals as goal

pub returns : goal.returns
returns c = tagged_law
