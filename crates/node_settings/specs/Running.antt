-- What the words behind `run` ask for.
use Rattle.std.specs.Prelude.{ℕ, ◌-◌, ◌/◌, ◌^◌, ◌&&◌, List, length, map, Option, Some, None, option_map, Result, Ok, Err, nat_lt, ◌==◌, if◌then◌else◌, codes}
use Rattle.std.specs.List.{slice_split}
use Rattle.std.specs.Str.{bytes_eq}
use Rattle.clap.specs.Walk.{Row, Text, first_of}
use Rattle.log.specs.Level.{parse_filter}
use Rattle.log.specs.declared.level.LevelFilter.{LevelFilter}
use Rattle.log.specs.declared.level.LevelFilter.TheVariants as filter
use Rattle.node_settings.specs.Words.{◌>>=◌, or_usage, given, number_given, number_or_none, number_or, is_comma, powers_of}
use Rattle.node_settings.specs.declared.invocation.SettingsFault.{SettingsFault}
use Rattle.node_settings.specs.declared.invocation.SettingsFault.TheVariants.{Usage}
use Rattle.node_settings.specs.declared.invocation.Keeping.{Keeping}
use Rattle.node_settings.specs.declared.invocation.Keeping.TheVariants.{Open, Guarded}
use Rattle.node_settings.specs.declared.invocation.RunSettings.{RunSettings}
use Rattle.node_settings.specs.declared.running.Place.{Place}
use Rattle.node_settings.specs.declared.running.Files.{Files}
use Rattle.node_settings.specs.declared.running.Times.{Times}
use Rattle.node_settings.specs.declared.running.Links.{Links}
use Rattle.node_settings.specs.declared.running.Telling.{Telling}

-- ---- the settings, with their texts as lists

-- a validator among all of them
pub record Seat : Type 0 where
  pub me : ℕ
  pub powers : List ℕ
  pub peers : List Text

abbrev pub place_words : Place → Seat
place_words p = record { me = p.me; powers = p.powers; peers = map (λ peer. peer.now) p.peers.items }

-- the names of its files
pub record Names : Type 0 where
  pub keys : Text
  pub journal : Text

abbrev pub files_words : Files → Names
files_words f = record { keys = f.keys.now; journal = f.journal.now }

-- when it ends, and what it tells until then
pub record Told : Type 0 where
  pub from : ℕ
  pub stop : Option ℕ
  pub level : LevelFilter
  pub status : Option Text
  pub metrics : Option Text

abbrev pub telling_words : Telling → Told
telling_words t = record { from = t.from; stop = t.stop; level = t.level; status = option_map (λ address. address.now) t.status; metrics = option_map (λ address. address.now) t.metrics }

pub record Run : Type 0 where
  pub seat : Seat
  pub names : Names
  pub times : Times
  pub links : Links
  pub told : Told

abbrev pub run_words : RunSettings → Run
run_words s = record {
  seat = record { me = s.me; powers = s.powers; peers = map (λ peer. peer.now) s.peers.items };
  names = record { keys = s.keys.now; journal = s.journal.now };
  times = record { start = s.start; delta = s.delta; idle = s.idle; rest = s.rest };
  links = record { keeping = s.keeping; redial = s.redial };
  told = record { from = s.from; stop = s.stop; level = s.level; status = option_map (λ address. address.now) s.status; metrics = option_map (λ address. address.now) s.metrics };
}

-- ---- what the words of each option make of them

-- the powers of validators of which I am one, and an address for each of them
unfoldable pub cluster_of : Text → Text → ℕ → Result (List ℕ × List Text) SettingsFault
cluster_of powers peers me = do
  each ← powers_of powers
  let addresses : List Text = slice_split is_comma peers
  if nat_lt me (length each) && length addresses == length each then Ok (each, addresses) else Err Usage

unfoldable pub place_of : List Row → Result Seat SettingsFault
place_of rows = do
  me ← number_given 0 127 (codes "id") rows
  powers ← given (codes "powers") rows
  peers ← given (codes "peers") rows
  both ← cluster_of powers peers me
  Ok (record { me = me; powers = both.0; peers = both.1 })

unfoldable pub files_of : List Row → Result Names SettingsFault
files_of rows = do
  keys ← given (codes "keys") rows
  journal ← given (codes "journal") rows
  Ok (record { keys = keys; journal = journal })

-- a proposal of no transactions waits for half of the propose timeout, or for another time that is no longer than it
unfoldable pub times_of : List Row → Result Times SettingsFault
times_of rows = do
  start ← number_given 0 86400000 (codes "start") rows
  delta ← number_given 0 86400000 (codes "delta") rows
  idle ← number_or (start / 2) 0 start (codes "idle") rows
  rest ← number_or 0 0 86400000 (codes "rest") rows
  Ok (record { start = start; delta = delta; idle = idle; rest = rest })

-- how links are kept, by one of two words
abbrev pub keeping_or_open : Option Text → Result Keeping SettingsFault
keeping_or_open None = Ok Open
keeping_or_open (Some word) =
    if bytes_eq word (codes "open") then Ok Open
    else if bytes_eq word (codes "guarded") then Ok Guarded
    else Err Usage

unfoldable pub keeping_of : List Row → Result Keeping SettingsFault
keeping_of rows = keeping_or_open (first_of (codes "links") rows)

unfoldable pub links_of : List Row → Result Links SettingsFault
links_of rows = do
  keeping ← keeping_of rows
  redial ← number_or 1000 1 86400000 (codes "redial") rows
  Ok (record { keeping = keeping; redial = redial })

-- which lines are logged: those of a level that is named in letters of either case, and of less verbose ones
abbrev pub level_or_info : Option Text → Result LevelFilter SettingsFault
level_or_info None = Ok filter.Info
level_or_info (Some word) = or_usage (parse_filter word)

unfoldable pub level_of : List Row → Result LevelFilter SettingsFault
level_of rows = level_or_info (first_of (codes "log") rows)

unfoldable pub telling_of : List Row → Result Told SettingsFault
telling_of rows = do
  from ← number_or 0 0 (2 ^ 64 - 1) (codes "from") rows
  stop ← number_or_none 1 (2 ^ 64 - 1) (codes "stop") rows
  level ← level_of rows
  Ok (record { from = from; stop = stop; level = level; status = first_of (codes "status") rows; metrics = first_of (codes "metrics") rows })

unfoldable pub run_of : List Row → Result Run SettingsFault
run_of rows = do
  seat ← place_of rows
  names ← files_of rows
  times ← times_of rows
  links ← links_of rows
  told ← telling_of rows
  Ok (record { seat = seat; names = names; times = times; links = links; told = told })
