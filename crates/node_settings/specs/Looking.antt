-- What the words behind `journal` ask for.
use Rattle.std.specs.Prelude.{ℕ, ◌-◌, ◌^◌, Bool, true, false, List, Option, Result, Ok, Err, codes}
use Rattle.clap.specs.Walk.{Row, Text}
use Rattle.node_settings.specs.Words.{◌>>=◌, given, number_or_none, is_flagged}
use Rattle.node_settings.specs.declared.invocation.SettingsFault.{SettingsFault}
use Rattle.node_settings.specs.declared.invocation.SettingsFault.TheVariants.{Usage}
use Rattle.node_settings.specs.declared.looking.JournalForm.{JournalForm}
use Rattle.node_settings.specs.declared.looking.JournalForm.TheVariants.{Lines, Json, List as DeliveredList}
use Rattle.node_settings.specs.declared.looking.JournalSettings.{JournalSettings}

-- the settings, with their text as a list
pub record Look : Type 0 where
  pub file : Text
  pub height : Option ℕ
  pub follows : Bool
  pub form : JournalForm

abbrev pub journal_words : JournalSettings → Look
journal_words s = record { file = s.file.now; height = s.height; follows = s.follows; form = s.form }

-- how it is printed, by whether `--json` and `--list` are there: not both
abbrev pub form_of : Bool → Bool → Result JournalForm SettingsFault
form_of false false = Ok Lines
form_of true false = Ok Json
form_of false true = Ok DeliveredList
form_of true true = Err Usage

unfoldable pub journal_of : List Row → Result Look SettingsFault
journal_of rows = do
  height ← number_or_none 0 (2 ^ 64 - 1) (codes "height") rows
  form ← form_of (is_flagged (codes "json") rows) (is_flagged (codes "list") rows)
  file ← given (codes "file") rows
  Ok (record { file = file; height = height; follows = is_flagged (codes "follow") rows; form = form })
