-- Numbers that differ, told by or and xor.
use Rattle.std.proofs.Common.{◌≡◌, ℕ, ◌+◌, ◌<◌, List, length, get_or, eqb, sym, ◌∙◌, ap, below_more, arith}
use Rattle.std.specs.Prelude.{bit_or, bit_xor}
use Rattle.std.specs.Int.{bit_at}
use Rattle.std.specs.Int.Bits.{xor_self, or_zero_r}
use Rattle.std.specs.Str.{bytes_eq}
use Rattle.std.proofs.lemmas.Bool.Decides.{Decides-eqb, Decides-like, same_from_decides}
use Rattle.std.proofs.lemmas.List.{same_lists, get_or_default}
use Rattle.std.proofs.lemmas.Slice.Eq.{bytes_eq-Decides}
use Rattle.std.proofs.lemmas.Nat.Bits.{bit_at_or, bit_at_xor, bit_at-zero, bit_at-lt, same_from_bits}

-- where no bit of two numbers is set in their or, there is none in either
pub left_of_or : (a b : ℕ) → bit_or a b ≡ 0 → a ≡ 0
left_of_or a b e = same_from_bits a 0 (λ i.
    let bit = ap (λ n. bit_at n i) e in
    omega (arith, bit_at_or a b i, bit, bit_at-zero i))

pub right_of_or : (a b : ℕ) → bit_or a b ≡ 0 → b ≡ 0
right_of_or a b e = same_from_bits b 0 (λ i.
    let bit = ap (λ n. bit_at n i) e in
    omega (arith, bit_at_or a b i, bit, bit_at-zero i))

-- two numbers without a difference are one
pub same_from_xor : (a b : ℕ) → bit_xor a b ≡ 0 → a ≡ b
same_from_xor a b e = same_from_bits a b (λ i.
    let bit = ap (λ n. bit_at n i) e in
    omega (arith, bit_at_xor a b i, bit, bit_at-zero i, bit_at-lt a i, bit_at-lt b i))

-- The difference is 0 exactly where the first n bytes of the two texts are the same.
pub record Compared (n : ℕ) (left right : List ℕ) (difference : ℕ) : Type 0 where
  pub same : difference ≡ 0 → (k : ℕ) → k < n → get_or left k 0 ≡ get_or right k 0
  pub differs : ((k : ℕ) → k < n → get_or left k 0 ≡ get_or right k 0) → difference ≡ 0

-- one place more
pub Compared-more : (n : ℕ) (left right : List ℕ) (difference a b : ℕ) → get_or left n 0 ≡ a → get_or right n 0 ≡ b
    → Compared n left right difference → Compared (n + 1) left right (bit_or difference (bit_xor a b))
Compared-more n left right difference a b ea eb h = record {
  same = λ e.
      let here : get_or left n 0 ≡ get_or right n 0 = ea ∙ same_from_xor a b (right_of_or difference (bit_xor a b) e) ∙ sym eb in
      below_more _ n (h.same (left_of_or difference (bit_xor a b) e)) here;
  differs = λ each.
      let before : difference ≡ 0 = h.differs (λ k lt. each k (omega arith)) in
      let equal : a ≡ b = sym ea ∙ each n (omega arith) ∙ eb in
      rw (before, equal, xor_self b) (or_zero_r 0);
}

-- the difference of two texts of one length tells whether they are the same
pub Compared-all : (left right : List ℕ) (difference : ℕ) → length left ≡ length right → Compared (length left) left right difference
    → eqb difference 0 ≡ bytes_eq left right
Compared-all left right difference long h =
    same_from_decides _ _
    (Decides-like (eqb difference 0)
    (λ e. same_lists left right long (λ k d lt. get_or_default left k d 0 lt ∙ h.same e k lt ∙ sym (get_or_default right k d 0 (omega arith))))
    (λ e. h.differs (λ k lt. ap (λ xs. get_or xs k 0) e))
    (Decides-eqb difference 0))
    (bytes_eq-Decides left right)
