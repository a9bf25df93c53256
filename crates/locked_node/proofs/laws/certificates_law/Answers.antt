use Rattle.locked_node.proofs.Certifying.{certificates}
use Rattle.locked_node.proofs.laws.certificates_law.Goals as goal

pub returns : goal.returns
returns c = certificates
