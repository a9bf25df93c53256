-- Who takes part in a world.
use Rattle.std.specs.Prelude.{◌≡◌, ◌==◌, ℕ, Bool, false, not, ◌&&◌, List, length, nat_lt, nat_le, slice_index_or}
use Rattle.std.specs.List.{filter, list_all, list_any}
use Rattle.protocol.specs.Tags.{Setting}
use Rattle.protocol.specs.Messages.{below}
use Rattle.world_parties.specs.Keys.{setting}

-- the powers of the validators, which of them lie, and how many clients there are
pub record Cast : Type 0 where
  pub powers : List ℕ
  pub lies : List Bool  -- by number
  pub clients : ℕ

abbrev pub setting_of : Cast → Setting
setting_of cast = setting cast.powers cast.clients

abbrev pub is_validator : Cast → ℕ → Bool
is_validator cast q = nat_lt q (length cast.powers)

abbrev pub is_liar : Cast → ℕ → Bool
is_liar cast q = is_validator cast q && slice_index_or cast.lies q false

abbrev pub is_correct : Cast → ℕ → Bool
is_correct cast q = is_validator cast q && not (slice_index_or cast.lies q false)

abbrev pub is_client : Cast → ℕ → Bool
is_client cast client = nat_lt client cast.clients

-- the correct validators, in order of number
abbrev pub correct : Cast → List ℕ
correct cast = filter (is_correct cast) (below (length cast.powers))

-- just these validators lie
abbrev pub LiesIn : Cast → List ℕ → Type 0
LiesIn cast liars = (q : ℕ) → slice_index_or cast.lies q false ≡ list_any (λ liar. liar == q) liars

-- one to 1,024 clients, and each liar is a validator
abbrev pub are_parties : List ℕ → ℕ → List ℕ → Bool
are_parties powers clients liars = nat_le 1 clients && nat_le clients 1024 && list_all (λ liar. nat_lt liar (length powers)) liars
