-- A key's block under a pad, and the length of a tag.
use Rattle.std.proofs.Common.{◌≡◌, ℕ, ◌-◌, ◌<◌, ◌≤◌, ◌++◌, false, List, [], ◌∷◌, length, map, replicate, get_or, refl, sym, ◌∙◌, ap, inl, inr, arith}
use Rattle.std.specs.Prelude.{bit_xor}
use Rattle.std.specs.Str.{bytes_eq}
use Rattle.std.specs.Int.Bits.{xor_zero_l}
use Rattle.std.proofs.lemmas.Bool.{cases_lt}
use Rattle.std.proofs.lemmas.List.{same_lists, get_or-map, get_or_default, get_or-append_right, get_or_append_left, get_or-replicate, length-map, length-append, length-replicate}
use Rattle.sha2.proofs.Facts256.{length-sha256}
use Rattle.authenticators.specs.Tags.{padded, hmac}

-- a tag has 32 bytes
pub length-hmac : (key text : List ℕ) → length (hmac key text) ≡ 32
unfolding hmac
length-hmac key text = length-sha256 _

not_the_empty : (bytes : List ℕ) → length bytes ≡ 32 → bytes_eq [] bytes ≡ false
not_the_empty [] e = absurd (omega arith)
not_the_empty (b ∷ bytes) e = refl

-- no bytes are no tag
pub no_tag_is_wrong : (key text : List ℕ) → bytes_eq [] (hmac key text) ≡ false
no_tag_is_wrong key text = not_the_empty (hmac key text) (length-hmac key text)

-- The first n places of a block hold the key's bytes, each xor the pad, and the others the pad.
pub record IsPaddedTo (n : ℕ) (key : List ℕ) (pad : ℕ) (block : List ℕ) : Type 0 where
  pub whole : length block ≡ 64
  pub written : (k : ℕ) → k < n → get_or block k 0 ≡ bit_xor (get_or key k 0) pad
  pub others : (k : ℕ) → n ≤ k → k < 64 → get_or block k 0 ≡ pad

-- a block of the pad alone
pub IsPaddedTo-start : (key : List ℕ) (pad : ℕ) → IsPaddedTo 0 key pad (replicate 64 pad)
IsPaddedTo-start key pad = record {
  whole = length-replicate 64 pad;
  written = λ k lt. absurd (omega arith);
  others = λ k above lt. get_or-replicate 64 k pad 0 lt;
}

-- the block, once it holds the whole key
pub padded_from_places : (key : List ℕ) (pad : ℕ) (block : List ℕ) → length key ≤ 64 → IsPaddedTo (length key) key pad block → block ≡ padded key pad
padded_from_places key pad block short h =
    let rest : List ℕ = replicate (64 - length key) 0 in
    let long : length (key ++ rest) ≡ 64 = omega (arith, length-append key rest, length-replicate {A = ℕ} (64 - length key) 0) in
    let f = λ (b : ℕ). bit_xor b pad in
    same_lists block (map f (key ++ rest)) (omega (arith, h.whole, length-map (key ++ rest) f))
    (λ k d lt.
    let within : k < 64 = omega (arith, h.whole) in
    let inside : k < length (key ++ rest) = omega arith in
    let mapped : get_or (map f (key ++ rest)) k d ≡ bit_xor (get_or (key ++ rest) k 0) pad = get_or-map f (key ++ rest) k 0 d inside in
    let read : get_or block k d ≡ get_or block k 0 = get_or_default block k d 0 lt in
    elim (cases_lt k (length key)) [
      | inl below ↦ read ∙ h.written k below ∙ ap (λ b. bit_xor b pad) (sym (get_or_append_left key rest 0 k below)) ∙ sym mapped
      | inr above ↦
          let zero_byte : get_or (key ++ rest) k 0 ≡ 0 = get_or-append_right key rest (length key) k 0 refl above ∙ get_or-replicate (64 - length key) (k - length key) 0 0 (omega arith) in
          read ∙ h.others k above within ∙ sym (mapped ∙ ap (λ b. bit_xor b pad) zero_byte ∙ xor_zero_l pad)
    ])
