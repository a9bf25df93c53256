-- Names as words.
use Rattle.std.specs.Prelude.{ℕ, Bool, ◌&&◌, List, length, nat_lt, nat_le}
use Rattle.std.specs.List.{list_all}
use Rattle.std.specs.Char.{is_ascii_uppercase}

-- one to eight letters A to Z
abbrev pub is_name : List ℕ → Bool
is_name word = nat_lt 0 (length word) && nat_le (length word) 8 && list_all is_ascii_uppercase word
