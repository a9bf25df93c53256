-- What a client sends.
use Rattle.std.specs.Prelude.{◌≡◌, ℕ, []}
use Rattle.authenticators.specs.Ring.{Ring, tags_of}
use Rattle.transactions.specs.declared.tx.Op.{Op}
use Rattle.messages.specs.Grammar.{body_spelling}
use Rattle.messages.specs.declared.body.Body.{Body}
use Rattle.messages.specs.declared.body.Body.TheVariants.{Tx}
use Rattle.messages.specs.declared.body.Message.{Message}
use Rattle.list_client.specs.declared.Sender.{Sender}

-- a transaction as a body, whose tags stand behind it
abbrev pub body_of : Sender → ℕ → Op → Body
body_of sender number op = Tx (record { client = sender.client; session = sender.session; number = number; op = op; tags = [] })

-- the transaction with the client's tag for each validator
abbrev pub sent : Ring → Sender → ℕ → Op → Message
sent keys sender number op = record { body = body_of sender number op; tags = tags_of keys (body_spelling (body_of sender number op)) }
