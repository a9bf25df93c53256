-- The length of a body's spelling, or the first fault, in the order of the fields.
use Rattle.std.specs.Prelude.{ℕ, ◌+◌, ◌^◌, Option, Some, None, List, [], ◌∷◌, length, Result, Ok, nat_le, nat_lt, ◌==◌}
use Rattle.transactions.specs.declared.fault.Fault.{Fault}
use Rattle.transactions.specs.declared.fault.Fault.TheVariants.{TooLong, BadSpelling}
use Rattle.transactions.specs.declared.tx.Tx.{Tx}
use Rattle.transactions.specs.Fields.{◌>>=◌, ◌>>◌, ask}
use Rattle.transactions.specs.Checking.{tx_body_len, value_len, tags_len}
use Rattle.messages.specs.declared.body.Proposal.{Proposal}
use Rattle.messages.specs.declared.body.Precommit.{Precommit}
use Rattle.messages.specs.declared.body.Bundle.{Bundle}
use Rattle.messages.specs.declared.body.Body.{Body}
use Rattle.messages.specs.declared.body.Body.TheVariants as kinds
use Rattle.messages.specs.declared.body.Message.{Message}
use Rattle.messages.specs.Grammar.{valid_round_code, body_spelling}
use Rattle.messages.specs.Framing.{frame_spelling}

-- a transaction that is a body has no tags: they stand behind it
unfoldable pub bare_tx_len : Tx → Result ℕ Fault
bare_tx_len tx = do
  len ← tx_body_len tx
  ask (length tx.tags == 0) BadSpelling
  Ok len

-- height, round, sender and valid round have 18 bytes
unfoldable pub proposal_len : Proposal → Result ℕ Fault
proposal_len p = do
  ask (nat_lt (valid_round_code p.valid_round) (2 ^ 32)) BadSpelling
  value ← value_len p.value
  Ok (18 + value)

abbrev pub content_len : Option (List ℕ) → ℕ
content_len None = 1
content_len (Some id) = 33

unfoldable pub precommit_len : Precommit → Result ℕ Fault
precommit_len p = do
  tags ← tags_len p.tags
  Ok (2 + tags)

unfoldable pub precommits_len : List Precommit → Result ℕ Fault
precommits_len [] = Ok 0
precommits_len (p ∷ ps) = do
  first ← precommit_len p
  others ← precommits_len ps
  Ok (first + others)

-- height, sender, round and id have 46 bytes, the count one
unfoldable pub bundle_len : Bundle → Result ℕ Fault
bundle_len b = do
  value ← value_len b.value
  ask (nat_le (length b.precommits) 128) TooLong
  precommits ← precommits_len b.precommits
  Ok (47 + value + precommits)

-- the byte of the kind, and what stands behind it
unfoldable pub body_len : Body → Result ℕ Fault
body_len (kinds.Tx tx) = bare_tx_len tx
body_len (kinds.Proposal p) = do
  proposal ← proposal_len p
  Ok (1 + proposal)
body_len (kinds.Vote v) = Ok (15 + content_len v.content)
body_len (kinds.Ask a) = Ok 11
body_len (kinds.Bundle b) = do
  bundle ← bundle_len b
  Ok (1 + bundle)

-- the spelling, or the first fault
unfoldable pub body_spelled : Body → Result (List ℕ) Fault
body_spelled body = do
  len ← body_len body
  Ok (body_spelling body)

-- what stands behind the length of a frame: a body, then its tags
unfoldable pub message_len : Message → Result ℕ Fault
message_len m = do
  body ← body_len m.body
  tags ← tags_len m.tags
  ask (nat_le (body + tags) 1048576) TooLong
  Ok (body + tags)

unfoldable pub frame_spelled : Message → Result (List ℕ) Fault
frame_spelled m = do
  len ← message_len m
  Ok (frame_spelling m)
