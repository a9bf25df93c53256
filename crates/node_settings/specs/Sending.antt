-- What the words behind `send` ask for.
use Rattle.std.specs.Prelude.{ℕ, ◌-◌, ◌^◌, Bool, false, List, map, Option, Some, None, Result, Ok, Err, codes}
use Rattle.std.specs.List.{slice_split}
use Rattle.clap.specs.Walk.{Row, Text, first_of}
use Rattle.transactions.specs.declared.tx.Op.{Op}
use Rattle.node_settings.specs.Words.{◌>>=◌, given, number_given, number_or, validators_of, is_flagged, is_comma, op_of}
use Rattle.node_settings.specs.declared.invocation.SettingsFault.{SettingsFault}
use Rattle.node_settings.specs.declared.invocation.SettingsFault.TheVariants.{Usage}
use Rattle.node_settings.specs.declared.invocation.Sending.{Sending}
use Rattle.node_settings.specs.declared.invocation.Sending.TheVariants.{One, Lines}
use Rattle.node_settings.specs.declared.invocation.SendSettings.{SendSettings}
use Rattle.node_settings.specs.declared.sending.Sender.{Sender}
use Rattle.node_settings.specs.declared.sending.Batch.{Batch}

-- ---- the settings, with their texts as lists

-- one transaction, or one for each line of the file of this name
pub data Sent : Type 0 where
  one : Op → Sent
  lines : Text → Sent

abbrev pub sent_words : Sending → Sent
sent_words (One op) = one op
sent_words (Lines file) = lines file.now

-- who sends
pub record Party : Type 0 where
  pub client : ℕ
  pub validators : ℕ
  pub keys : Text

abbrev pub sender_words : Sender → Party
sender_words s = record { client = s.client; validators = s.validators; keys = s.keys.now }

-- what is sent, and where it stands
pub record Placed : Type 0 where
  pub number : ℕ
  pub session : ℕ
  pub sent : Sent

abbrev pub batch_words : Batch → Placed
batch_words b = record { number = b.number; session = b.session; sent = sent_words b.sending }

pub record Send : Type 0 where
  pub party : Party
  pub to : List Text
  pub placed : Placed

abbrev pub send_words : SendSettings → Send
send_words s = record {
  party = record { client = s.client; validators = s.validators; keys = s.keys.now };
  to = map (λ address. address.now) s.to.items;
  placed = record { number = s.number; session = s.session; sent = sent_words s.sending };
}

-- ---- what the words of each option make of them

unfoldable pub sender_of : List Row → Result Party SettingsFault
sender_of rows = do
  client ← number_given 0 1023 (codes "id") rows
  validators ← validators_of rows
  keys ← given (codes "keys") rows
  Ok (record { client = client; validators = validators; keys = keys })

-- what is sent: one of `--data`, `--close` and `--file` is there
abbrev pub sent_of : Option Text → Bool → Option Text → Result Sent SettingsFault
sent_of digits close None = do
  op ← op_of digits close
  Ok (one op)
sent_of None false (Some file) = Ok (lines file)
sent_of _ _ (Some file) = Err Usage

-- it is of the client's first session, where none is named
unfoldable pub batch_of : List Row → Result Placed SettingsFault
batch_of rows = do
  number ← number_given 1 (2 ^ 48) (codes "number") rows
  session ← number_or 0 0 (2 ^ 32 - 1) (codes "session") rows
  sent ← sent_of (first_of (codes "data") rows) (is_flagged (codes "close") rows) (first_of (codes "file") rows)
  Ok (record { number = number; session = session; sent = sent })

unfoldable pub send_of : List Row → Result Send SettingsFault
send_of rows = do
  party ← sender_of rows
  to ← given (codes "to") rows
  placed ← batch_of rows
  Ok (record { party = party; to = slice_split is_comma to; placed = placed })
