-- What a command line asks for.
use Rattle.std.specs.Prelude.{ℕ, List, [], ◌∷◌, Option, Some, None, Result, Ok, Err, if◌then◌else◌, codes}
use Rattle.std.specs.Str.{bytes_eq}
use Rattle.clap.specs.Walk.{Row, Text}
use Rattle.clap.specs.Simple.{subcommand_of}
use Rattle.clap.specs.Kinds.{Kinds}
use Rattle.clap.specs.Faults.{fault_of}
use Rattle.clap.specs.declared.error.kind.ErrorKind.{ErrorKind}
use Rattle.clap.specs.declared.error.kind.ErrorKind.TheVariants as kind
use Rattle.node_settings.specs.Commands.{node_app}
use Rattle.node_settings.specs.Words.{◌>>=◌, given, number_given, validators_of}
use Rattle.node_settings.specs.Running.{Run, run_words, run_of}
use Rattle.node_settings.specs.Sending.{Send, send_words, send_of}
use Rattle.node_settings.specs.Looking.{Look, journal_words, journal_of}
use Rattle.node_settings.specs.declared.invocation.SettingsFault.{SettingsFault}
use Rattle.node_settings.specs.declared.invocation.SettingsFault.TheVariants.{Usage, OutOfMemory}
use Rattle.node_settings.specs.declared.invocation.KeysSettings.{KeysSettings}
use Rattle.node_settings.specs.declared.invocation.Invocation.{Invocation}
use Rattle.node_settings.specs.declared.invocation.Invocation.TheVariants as asks

-- ---- the settings, with their texts as lists

pub record Keys : Type 0 where
  pub validators : ℕ
  pub clients : ℕ
  pub out : Text

pub data Asked : Type 0 where
  run : Run → Asked
  send : Send → Asked
  keys : Keys → Asked
  journal : Look → Asked
  page : Asked

abbrev pub keys_words : KeysSettings → Keys
keys_words s = record { validators = s.validators; clients = s.clients; out = s.out.now }

abbrev pub invocation_words : Invocation → Asked
invocation_words (asks.Run s) = run (run_words s)
invocation_words (asks.Send s) = send (send_words s)
invocation_words (asks.Keys s) = keys (keys_words s)
invocation_words (asks.Journal s) = journal (journal_words s)
invocation_words (asks.Page p) = page

-- ---- what the words of each option make of them

unfoldable pub keys_of : List Row → Result Keys SettingsFault
keys_of rows = do
  validators ← validators_of rows
  clients ← number_given 0 1024 (codes "clients") rows
  out ← given (codes "out") rows
  Ok (record { validators = validators; clients = clients; out = out })

-- ---- the whole command line

-- the settings of the subcommand that the words enter: `run`, `send`, `keys`, or the only one left, `journal`
abbrev pub entered_of : Option (Text × List Row) → Result Asked SettingsFault
entered_of None = Err Usage
entered_of (Some (name, rows)) =
    if bytes_eq name (codes "run") then (run_of rows >>= λ s. Ok (run s))
    else if bytes_eq name (codes "send") then (send_of rows >>= λ s. Ok (send s))
    else if bytes_eq name (codes "keys") then (keys_of rows >>= λ s. Ok (keys s))
    else (journal_of rows >>= λ s. Ok (journal s))

-- what words ask for whose parse ends with a fault of this kind
abbrev pub asked_by : ErrorKind → Result Asked SettingsFault
asked_by kind.DisplayHelp = Ok page
asked_by kind.DisplayVersion = Ok page
asked_by kind.OutOfMemory = Err OutOfMemory
asked_by _ = Err Usage

-- Where the parse of the words has no fault, they give settings; else its fault tells what they ask for.
abbrev pub by_faults : Kinds → Result Asked SettingsFault → Result Asked SettingsFault
by_faults [] asked = asked
by_faults (fault ∷ faults) asked = asked_by fault

unfoldable pub settings_of : List Text → Result Asked SettingsFault
settings_of words = by_faults (fault_of node_app words) (entered_of (subcommand_of node_app words))
