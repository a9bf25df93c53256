-- Letters are text.
use Rattle.std.proofs.Common.{◌≡◌, ℕ, zero, suc, ◌<◌, true, List, [], ◌∷◌, lit<, arith}
use Rattle.std.proofs.lemmas.Bool.{and_parts}
use Rattle.std.proofs.lemmas.Bool.Decides.{nat_tests}
use Rattle.std.proofs.lemmas.Str.{IsUtf8-from_ascii}
use Rattle.std.specs.List.{list_all}
use Rattle.std.specs.Char.{is_ascii_uppercase}
use Rattle.std.specs.Str.{IsAscii, IsUtf8}

letter_is_ascii : (c : ℕ) → is_ascii_uppercase c ≡ true → c < 128
letter_is_ascii c e = grind (arith, nat_tests)

letters_are_ascii : (word : List ℕ) → list_all is_ascii_uppercase word ≡ true → IsAscii word
letters_are_ascii [] e i = lit< tt
letters_are_ascii (c ∷ cs) e zero = letter_is_ascii c (and_parts _ _ e).0
letters_are_ascii (c ∷ cs) e (suc i) = letters_are_ascii cs (and_parts _ _ e).1 i

pub letters_are_text : (word : List ℕ) → list_all is_ascii_uppercase word ≡ true → IsUtf8 word
letters_are_text word e = IsUtf8-from_ascii word (letters_are_ascii word e)
