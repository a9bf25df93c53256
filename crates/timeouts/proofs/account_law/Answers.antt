use Rattle.timeouts.proofs.Accounts.{account_law}
use Rattle.timeouts.proofs.account_law.Goals as goal

pub returns : goal.returns
returns c = account_law
