-- What stands in the two words, and what the seats know of it.
use Rattle.std.specs.Prelude.{◌≡◌, ℕ, Bool, true, false, [], ◌∷◌, Contains}
use mathlib.Core.Option.{some}
use lib.ListN.{get_elem?}
use Rattle.atomic_table.specs.Table.{State}
use Rattle.atomic_table.specs.Seated.{TableId}
use Rattle.status_words.specs.Seen.{Seen, unseen, greater, IsOf}
pub use Rattle.status_words.specs.declared.rule.Sight.{Sight}

-- the name of words that nobody has opened
abbrev pub no_table : TableId
no_table = record { words = 0; slots = 0; views_name = 0; atom = 0; block = 0; offset = 0; slot_names = [] }

abbrev pub sight : Bool → Seen → Seen → Sight
sight publishes own shown = record { publishes = publishes; own = own; shown = shown }

-- the pass that publishes, and a seat or a note
abbrev pub publishing : Seen → Sight
publishing own = sight true own unseen

abbrev pub sitting : Seen → Sight
sitting own = sight false own unseen

abbrev pub with_own : Sight → Seen → Sight
with_own v own = sight v.publishes own v.shown

-- what is left of a seat that took in a note, and of the pass that took in one
abbrev pub told : Sight → Sight → Sight
told v note = with_own v (greater v.own note.own)

abbrev pub shown : Sight → Sight → Sight
shown v note = sight v.publishes v.own note.own

-- who publishes is the one pass and knows what was published; nobody has seen or was shown another word
abbrev pub Fits : ℕ → Seen → ℕ → Sight → Type 0
Fits pass published id v = (v.publishes ≡ true → (id ≡ pass) × (v.own ≡ published)) × IsOf published v.own × IsOf published v.shown

-- The words are those published last.
pub record Rule (s : State (Unit {0}) Sight) : Type 0 where
  pub pass : ℕ
  pub published : Seen
  pub words : s.words ≡ published.height ∷ published.delivered ∷ []
  pub height : Contains published.heights published.height
  pub delivered : Contains published.counts published.delivered
  pub fits : (id : ℕ) (v : Sight) → get_elem? s.views id ≡ some v → Fits pass published id v

abbrev pub Keeps : State (Unit {0}) Sight → Type 0
Keeps s = Rule s
