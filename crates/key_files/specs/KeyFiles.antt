-- The key files that are made.
use Rattle.std.specs.Prelude.{◌≡◌, ◌⊎◌, ℕ, ◌-◌, ◌++◌, List, Option, nat_lt, if◌then◌else◌, codes}
use Rattle.std.specs.Path.{path_join}
use Rattle.std.specs.Io.KnownBytes.{Appends}
use Rattle.authenticators.specs.Party.{shown}
use Rattle.protocol.specs.Tags.{Party, Validator, Client}
use Rattle.key_making.specs.declared.table.DrawFault.{DrawFault}
use Rattle.key_making.specs.declared.table.DrawFault.TheVariants as draw
use Rattle.key_making.specs.Table.{Table}
use Rattle.key_making.specs.Rings.{IsFileOf}
use Rattle.node_settings.specs.declared.failure.KeysTrouble.TheVariants as in_keys
use Rattle.node_settings.specs.declared.failure.Failure.{Failure}
use Rattle.node_settings.specs.declared.failure.Failure.TheVariants.{Keys, OutOfMemory}

-- why keys were not drawn
abbrev pub of_draw : DrawFault → Failure
of_draw draw.NoBytes = Keys in_keys.NoBytes
of_draw draw.OutOfMemory = OutOfMemory

-- The failure is one of drawing keys.
abbrev pub IsUndrawn : Failure → Type 0
IsUndrawn failure = (failure ≡ Keys in_keys.NoBytes) ⊎ (failure ≡ OutOfMemory)

-- The failure is one of making and writing files.
abbrev pub IsUnwritten : Failure → Type 0
IsUnwritten failure = (failure ≡ Keys in_keys.Unwritten) ⊎ (failure ≡ OutOfMemory)

-- the parties in turn: so many validators, and then the clients
abbrev pub party_at : ℕ → ℕ → Party
party_at validators place = if nat_lt place validators then Validator place else Client (place - validators)

-- where a party's key file lies
abbrev pub file_name : List ℕ → Party → List ℕ
file_name folder party = path_join folder (shown party ++ codes ".keys")

-- known bytes grow by the key file of this party
abbrev pub GainsFile : Table → Party → Option (List ℕ) → Option (List ℕ) → Type 0
GainsFile table party old new = (text : List ℕ) × IsFileOf table party text × Appends old new text
