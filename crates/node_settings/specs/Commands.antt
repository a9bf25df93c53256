-- The command line that the program takes.
use Rattle.std.specs.Prelude.{Bool, true, false, List, [], ◌∷◌, Some, codes, fold}
use Rattle.std.specs.List.{list_any}
use Rattle.std.specs.Str.{bytes_eq}
use Rattle.clap.specs.Walk.{Rule, Text}
use Rattle.clap.specs.Simple.{App, new_rule, new_app, with_rule, with_subcommand}
use Rattle.clap.specs.declared.builder.action.ArgAction.TheVariants.{SetTrue}
use Rattle.node_settings.specs.declared.command.WordOption.{WordOption}
use Rattle.node_settings.specs.declared.command.Flag.{Flag}

-- an option by its name, which takes one word
abbrev pub option : Text → Bool → Rule
option name is_required = record (new_rule name) { long = Some name; required = is_required; value_names = 1 }

abbrev pub rule_for : WordOption → Rule
rule_for o = option o.name.now o.is_required

-- a flag by its name
abbrev pub flag : Text → Rule
flag name = record (new_rule name) { long = Some name; action = Some SetTrue }

abbrev pub rule_for_flag : Flag → Rule
rule_for_flag f = flag f.name.now

-- a word by its place
abbrev pub positional : Text → Rule
positional name = record (new_rule name) { required = true; value_names = 1 }

abbrev pub with_rules : App → List Rule → App
with_rules app rules = fold with_rule app rules

unfoldable pub run_rules : List Rule
run_rules =
    option (codes "id") true ∷ option (codes "powers") true ∷ option (codes "keys") true ∷ option (codes "journal") true ∷ option (codes "peers") true
    ∷ option (codes "start") true ∷ option (codes "delta") true ∷ option (codes "idle") false ∷ option (codes "rest") false ∷ option (codes "links") false
    ∷ option (codes "redial") false ∷ option (codes "from") false ∷ option (codes "stop") false ∷ option (codes "log") false ∷ option (codes "status") false
    ∷ option (codes "metrics") false ∷ option (codes "config") false ∷ []

abbrev pub run_app : App
run_app = with_rules (new_app (codes "run")) run_rules

-- whether one of them has this name
abbrev pub is_run_option : Text → Bool
is_run_option name = list_any (λ (rule : Rule). bytes_eq rule.id name) run_rules

unfoldable pub send_rules : List Rule
send_rules =
    option (codes "id") true ∷ option (codes "validators") true ∷ option (codes "keys") true ∷ option (codes "to") true ∷ option (codes "number") true
    ∷ option (codes "session") false ∷ option (codes "data") false ∷ option (codes "file") false ∷ []

unfoldable pub send_flags : List Rule
send_flags = flag (codes "close") ∷ []

abbrev pub send_app : App
send_app = with_rules (with_rules (new_app (codes "send")) send_rules) send_flags

unfoldable pub keys_rules : List Rule
keys_rules = option (codes "validators") true ∷ option (codes "clients") true ∷ option (codes "out") true ∷ []

abbrev pub keys_app : App
keys_app = with_rules (new_app (codes "keys")) keys_rules

unfoldable pub journal_rules : List Rule
journal_rules = option (codes "height") false ∷ []

unfoldable pub journal_flags : List Rule
journal_flags = flag (codes "follow") ∷ flag (codes "json") ∷ flag (codes "list") ∷ []

abbrev pub journal_app : App
journal_app = with_rules (with_rules (with_rule (new_app (codes "journal")) (positional (codes "file"))) journal_rules) journal_flags

-- the program with `--help` and `--version`, and no word `help`
abbrev pub top_app : App
top_app =
    let top : App = new_app (codes "tmnode") in
    record top { top = record top.top { has_version = true; disable_help_subcommand = true } }

-- `tmnode run ..`, `tmnode send ..`, `tmnode keys ..` and `tmnode journal ..`
abbrev pub node_app : App
node_app = with_subcommand (with_subcommand (with_subcommand (with_subcommand top_app run_app.top) send_app.top) keys_app.top) journal_app.top
