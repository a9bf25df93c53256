-- What can't be written in an XML document as it is.
use Rattle.std.specs.Prelude.{ℕ, Bool, ◌==◌, ◌||◌, nat_lt}

-- `<`, `>`, `&`, `"`, and what is no character of XML
abbrev pub is_special : ℕ → Bool
is_special letter = nat_lt letter 32 || letter == 34 || letter == 38 || letter == 60 || letter == 62 || letter == 65534 || letter == 65535
