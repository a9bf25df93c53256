-- Pairs of words, with the words that came before them.
use Rattle.std.specs.Prelude.{ℕ, ◌≤◌, max, List, [], ◌∷◌, ◌++◌, Contains}
pub use Rattle.status_words.specs.declared.rule.Seen.{Seen}

abbrev pub seen : ℕ → ℕ → List ℕ → List ℕ → Seen
seen height delivered heights counts = record { height = height; delivered = delivered; heights = heights; counts = counts }

-- a seat that never looked
abbrev pub unseen : Seen
unseen = seen 0 0 [] []

-- what stands published at the opening
abbrev pub opened : ℕ → ℕ → Seen
opened height delivered = seen height delivered (height ∷ []) (delivered ∷ [])

-- one word more
abbrev pub with_height : Seen → ℕ → Seen
with_height s height = seen height s.delivered (s.heights ++ height ∷ []) s.counts

abbrev pub with_delivered : Seen → ℕ → Seen
with_delivered s delivered = seen s.height delivered s.heights (s.counts ++ delivered ∷ [])

abbrev pub with_both : Seen → ℕ → ℕ → Seen
with_both s height delivered = with_delivered (with_height s height) delivered

-- the greater of both in each part; the words that were seen stay
abbrev pub greater : Seen → Seen → Seen
greater s t = seen (max s.height t.height) (max s.delivered t.delivered) s.heights s.counts

-- neither part is less
abbrev pub IsNoLess : Seen → Seen → Type 0
IsNoLess before after = (before.height ≤ after.height) × (before.delivered ≤ after.delivered)

abbrev pub AllIn : List ℕ → List ℕ → Type 0
AllIn xs all = (x : ℕ) → Contains xs x → Contains all x

-- what was seen is in neither part above what was published, and each word of it was published
abbrev pub IsOf : Seen → Seen → Type 0
IsOf published s = IsNoLess s published × AllIn s.heights published.heights × AllIn s.counts published.counts
