use Rattle.authenticators.specs.Keys.{keys_from}
use Rattle.authenticators.proofs.key_file.keys_from_clients.Goals as goal

pub returns-in-Validator : goal.returns-in-Validator
unfolding keys_from
returns-in-Validator c = rw c.in-Validator.is c.clients_to.ensures
