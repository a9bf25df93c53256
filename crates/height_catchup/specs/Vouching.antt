-- Which precommits have what is wanted.
use Rattle.std.specs.Prelude.{◌≡◌, Bool, ◌&&◌, ◌==◌, Option, Some, None}
use Rattle.messages.specs.declared.body.Precommit.{Precommit}
use Rattle.authenticators.specs.Tags.{is_right}
use Rattle.height_catchup.specs.declared.vouching.Wanted.{Wanted}

abbrev pub is_wanted : Wanted → Precommit → Bool
is_wanted w s = (s.sender == w.sender) && is_right w.validators w.key.now w.me w.body.items s.tags

-- something is wanted, and what has it is what passes the test
abbrev pub Finds : Option Wanted → (Precommit → Bool) → Type 0
Finds None test = ⊥
Finds (Some w) test = (s : Precommit) → is_wanted w s ≡ test s
