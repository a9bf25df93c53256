-- Whether bytes have room for so many tags.
use Rattle.std.proofs.Common.{◌≡◌, ◌⊎◌, ℕ, zero, suc, ◌*◌, ◌<◌, ◌≤◌, List, ◌∷◌, length, drop, take, true, Result, Ok, Err, refl, sym, ◌∙◌, arith, inl, inr, length-drop}
use Rattle.std.proofs.lemmas.Bool.{cases_lt, lt-ltb, le-ltb}
use Rattle.transactions.specs.declared.fault.Fault.{Fault}
use Rattle.transactions.specs.declared.fault.Fault.TheVariants.{Truncated}
use Rattle.transactions.specs.Fields.{◌>>=◌, Read, bytes_at, repeat}

abbrev tags : ℕ → List ℕ → Read (List (List ℕ))
tags count bytes = repeat (bytes_at 32) (λ _. true) count bytes

abbrev pub failed : (Y : Type 0) → Fault → Result Y Fault
failed Y fault = Err fault

-- the fault is one, whatever else a function might have returned
pub same_fault : {X Y : Type 0} {a b : Fault} → failed Y a ≡ failed Y b → failed X a ≡ failed X b
same_fault e = cc

pub too_few : (count : ℕ) (bytes : List ℕ) → length bytes < 32 * count → tags count bytes ≡ Err Truncated
unfolding repeat
too_few zero bytes h = absurd (omega (arith, h))
too_few (suc n) bytes h = at_first (λ k. too_few n (drop 32 bytes) k) (cases_lt (length bytes) 32) where
  at_first : (length (drop 32 bytes) < 32 * n → tags n (drop 32 bytes) ≡ Err Truncated) → (length bytes < 32) ⊎ (32 ≤ length bytes) → tags (suc n) bytes ≡ Err Truncated
  at_first others (inl short) = rw (lt-ltb (length bytes) 32 short) refl
  at_first others (inr long) = rw (le-ltb (length bytes) 32 long, others (omega (arith, length-drop 32 bytes, h, long))) refl

abbrev behind : List ℕ → Read (List (List ℕ)) → Read (List (List ℕ))
behind first (Ok x) = Ok (first ∷ x.0, x.1)
behind first (Err fault) = Err fault

no_fault : (first : List ℕ) (others : Read (List (List ℕ))) (fault : Fault) → (others ≡ Err fault → ⊥) → behind first others ≡ Err fault → ⊥
no_fault first (Ok x) fault h e = cc
no_fault first (Err other) fault h e = h (same_fault e)

-- reading one more, where its bytes are there
one_more : (n : ℕ) (bytes : List ℕ) → 32 ≤ length bytes → tags (suc n) bytes ≡ behind (take 32 bytes) (tags n (drop 32 bytes))
unfolding repeat
one_more n bytes h = rw (le-ltb (length bytes) 32 h) (joins (tags n (drop 32 bytes))) where
  joins : (others : Read (List (List ℕ))) → ◌>>=◌ {B = List (List ℕ) × List ℕ} others (λ x. Ok (take 32 bytes ∷ x.0, x.1)) ≡ behind (take 32 bytes) others
  joins (Ok x) = refl
  joins (Err fault) = refl

pub enough : (count : ℕ) (bytes : List ℕ) → 32 * count ≤ length bytes → (fault : Fault) → tags count bytes ≡ Err fault → ⊥
unfolding repeat
enough zero bytes h fault e = cc
enough (suc n) bytes h fault e =
    let others = enough n (drop 32 bytes) (omega (arith, length-drop 32 bytes, h)) fault in
    no_fault (take 32 bytes) (tags n (drop 32 bytes)) fault others (sym (one_more n bytes (omega (arith, h))) ∙ e)
