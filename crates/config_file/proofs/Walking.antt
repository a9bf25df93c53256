-- The words of a command line in turn.
use Rattle.std.proofs.Common.{◌≡◌, ℕ, ◌+◌, ◌<◌, ◌≤◌, true, false, List, [], ◌∷◌, length, map, drop, get_or, None, refl, ap, ◌∙◌}
use Rattle.std.specs.Prelude.{codes}
use Rattle.std.specs.Str.{bytes_eq}
use Rattle.std.proofs.lemmas.List.{at_drop_more, drop_all}
use Rattle.clap.specs.Lexer.{name_and_value}
use Rattle.config_file.specs.Named.{Text, named_in, value_of, gives, is_given}

here : (word : Text) (words : List Text) → bytes_eq (name_and_value word).0 (codes "--config") ≡ true → named_in (word ∷ words) ≡ value_of (name_and_value word).1 words
unfolding named_in
here word words e = rw e refl

later : (word : Text) (words : List Text) → bytes_eq (name_and_value word).0 (codes "--config") ≡ false → named_in (word ∷ words) ≡ named_in words
unfolding named_in
later word words e = rw e refl

nowhere : named_in [] ≡ None
unfolding named_in
nowhere = refl

-- the i-th word is `--config`
pub named_here : {X : Type 0} (text : X → Text) (words : List X) (i : ℕ) (word : X) → i < length words → bytes_eq (name_and_value (text (get_or words i word))).0 (codes "--config") ≡ true
    → named_in (map text (drop i words)) ≡ value_of (name_and_value (text (get_or words i word))).1 (map text (drop (i + 1) words))
named_here text words i word h e = at_drop_more (λ left. named_in (map text left)) words i word h ∙ here (text (get_or words i word)) (map text (drop (i + 1) words)) e

-- or another one
pub named_later : {X : Type 0} (text : X → Text) (words : List X) (i : ℕ) (word : X) → i < length words → bytes_eq (name_and_value (text (get_or words i word))).0 (codes "--config") ≡ false
    → named_in (map text (drop i words)) ≡ named_in (map text (drop (i + 1) words))
named_later text words i word h e = at_drop_more (λ left. named_in (map text left)) words i word h ∙ later (text (get_or words i word)) (map text (drop (i + 1) words)) e

pub named_end : {X : Type 0} (text : X → Text) (words : List X) (i : ℕ) → length words ≤ i → named_in (map text (drop i words)) ≡ None
named_end text words i h = ap (λ left. named_in (map text left)) (drop_all i words h) ∙ nowhere

given_first : (name word : Text) (words : List Text) → gives name word ≡ true → is_given (word ∷ words) name ≡ true
unfolding is_given
given_first name word words e = rw e refl

given_later : (name word : Text) (words : List Text) → gives name word ≡ false → is_given (word ∷ words) name ≡ is_given words name
unfolding is_given
given_later name word words e = rw e refl

given_nowhere : (name : Text) → is_given [] name ≡ false
unfolding is_given
given_nowhere name = refl

-- the i-th word gives the option
pub given_here : {X : Type 0} (text : X → Text) (words : List X) (name : Text) (i : ℕ) (word : X) → i < length words → gives name (text (get_or words i word)) ≡ true → is_given (map text (drop i words)) name ≡ true
given_here text words name i word h e = at_drop_more (λ left. is_given (map text left) name) words i word h ∙ given_first name (text (get_or words i word)) (map text (drop (i + 1) words)) e

-- or another one
pub given_behind : {X : Type 0} (text : X → Text) (words : List X) (name : Text) (i : ℕ) (word : X) → i < length words → gives name (text (get_or words i word)) ≡ false
    → is_given (map text (drop i words)) name ≡ is_given (map text (drop (i + 1) words)) name
given_behind text words name i word h e = at_drop_more (λ left. is_given (map text left) name) words i word h ∙ given_later name (text (get_or words i word)) (map text (drop (i + 1) words)) e

pub given_end : {X : Type 0} (text : X → Text) (words : List X) (name : Text) (i : ℕ) → length words ≤ i → is_given (map text (drop i words)) name ≡ false
given_end text words name i h = ap (λ left. is_given (map text left) name) (drop_all i words h) ∙ given_nowhere name
