-- Which options the words of a command line give.
use Rattle.std.specs.Prelude.{ℕ, Bool, ◌&&◌, take, drop, List, [], ◌∷◌, Option, Some, None, if◌then◌else◌, codes}
use Rattle.std.specs.List.{list_any}
use Rattle.std.specs.Str.{bytes_eq}
use Rattle.clap.specs.Lexer.{name_and_value}

abbrev pub Text : Type 0
Text = List ℕ

-- the value of an option: what stands behind `=`, or else the next word
abbrev pub value_of : Option Text → List Text → Option Text
value_of (Some value) words = Some value
value_of None [] = None
value_of None (word ∷ words) = Some word

-- the value of the first `--config`
unfoldable pub named_in : List Text → Option Text
named_in [] = None
named_in (word ∷ words) = if bytes_eq (name_and_value word).0 (codes "--config") then value_of (name_and_value word).1 words else named_in words

-- where the command is `run`
abbrev pub config_in : List Text → Option Text
config_in (program ∷ command ∷ words) = if bytes_eq command (codes "run") then named_in words else None
config_in _ = None

-- a name behind two dashes
abbrev pub is_option : Text → Text → Bool
is_option name text = bytes_eq (take 2 text) (codes "--") && bytes_eq (drop 2 text) name

-- `--NAME`, or `--NAME=` and anything
abbrev pub gives : Text → Text → Bool
gives name word = is_option name (name_and_value word).0

unfoldable pub is_given : List Text → Text → Bool
is_given words name = list_any (gives name) words
