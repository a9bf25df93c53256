-- Why a configuration file gives no words.
use Rattle.std.specs.Prelude.{◌≡◌, ℕ, List, None, IsSome}
use Rattle.toml.specs.Parse.{parse_document}
use Rattle.config_file.specs.declared.fault.ConfigFault.{ConfigFault}
use Rattle.config_file.specs.declared.fault.ConfigFault.TheVariants as fault
use Rattle.node_settings.specs.declared.failure.Failure.{Failure}
use Rattle.node_settings.specs.declared.failure.Failure.TheVariants.{Config, OutOfMemory}
use Rattle.node_settings.specs.declared.failure.ConfigTrouble.TheVariants.{NotToml, NotAnOption}

abbrev pub of_fault : ConfigFault → Failure
of_fault (fault.NotToml line) = Config (NotToml line)
of_fault fault.NotAnOption = Config NotAnOption
of_fault fault.OutOfMemory = OutOfMemory

-- an entry isn't taken, or memory ran out
abbrev pub IsOfEntries : ConfigFault → Type 0
IsOfEntries (fault.NotToml line) = ⊥
IsOfEntries fault.NotAnOption = Unit {0}
IsOfEntries fault.OutOfMemory = Unit {0}

-- The text isn't TOML; or it is, and has an entry that isn't taken; or memory ran out.
abbrev pub IsFaultOf : List ℕ → ConfigFault → Type 0
IsFaultOf text (fault.NotToml line) = parse_document text ≡ None
IsFaultOf text fault.NotAnOption = IsSome (parse_document text)
IsFaultOf text fault.OutOfMemory = Unit {0}
