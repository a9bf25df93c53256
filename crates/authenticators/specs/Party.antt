-- How a party is shown.
use Rattle.std.specs.Prelude.{ℕ, List, ◌∷◌, decimal}
use Rattle.authenticators.specs.declared.party.Party.{Party}
use Rattle.authenticators.specs.declared.party.Party.TheVariants.{Validator, Client}

-- `v3` or `c7`
abbrev pub shown : Party → List ℕ
shown (Validator number) = 118 ∷ decimal number
shown (Client number) = 99 ∷ decimal number
