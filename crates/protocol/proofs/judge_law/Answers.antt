use Rattle.protocol.proofs.Judging.{judge_law}
use Rattle.protocol.proofs.judge_law.Goals as goal

pub returns : goal.returns
returns c = judge_law
