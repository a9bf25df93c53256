-- Tags: the HMAC of a body under a key that sender and receiver share.
use Rattle.std.specs.Prelude.{ℕ, Bool, ◌&&◌, List, [], ◌++◌, map, length, nat_lt, cond, ◌==◌, ◌-◌, slice_index_or, replicate, bit_xor}
use Rattle.std.specs.Str.{bytes_eq}
use Rattle.sha2.specs.Sha256.{sha256}

-- 64 bytes, each xor this one
abbrev pub padded : List ℕ → ℕ → List ℕ
padded k pad = map (λ b. bit_xor b pad) (k ++ replicate (64 - length k) 0)

-- a key longer than 64 bytes is hashed first
abbrev pub short_key : List ℕ → List ℕ
short_key k = cond (nat_lt 64 (length k)) (sha256 k) k

-- RFC 2104, section 2, with SHA-256: H(K xor opad, H(K xor ipad, text))
unfoldable pub hmac : List ℕ → List ℕ → List ℕ
hmac k text = sha256 (padded (short_key k) 92 ++ sha256 (padded (short_key k) 54 ++ text))

-- there are n tags, and tag number p is right under this key
unfoldable pub is_right : ℕ → List ℕ → ℕ → List ℕ → List (List ℕ) → Bool
is_right n key p body tags = (length tags == n) && bytes_eq (slice_index_or tags p []) (hmac key body)
