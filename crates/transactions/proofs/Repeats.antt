-- Reading things one after the other, as a loop does.
use Rattle.std.proofs.Common.{◌≡◌, ℕ, suc, ◌-◌, ◌+◌, ◌≤◌, ◌<◌, Bool, true, false, List, [], ◌∷◌, ◌++◌, Ok, Err, refl, sym, ap, ◌∙◌, append_assoc, arith}
use Rattle.std.proofs.lemmas.List.{append-nil}
use Rattle.transactions.specs.declared.fault.Fault.{Fault}
use Rattle.transactions.specs.declared.fault.Fault.TheVariants.{Truncated, TooLong, BadSpelling, OutOfMemory, BadKind}
use Rattle.transactions.specs.Fields.{◌>>=◌, Read, Fails, repeat}

-- what was read before, and what is still read
abbrev pub with_front : {A : Type 0} → List A → Read (List A) → Read (List A)
with_front front read = read >>= λ x. Ok (front ++ x.0, x.1)

regroup : {A : Type 0} (front : List A) (x : A) (read : Read (List A)) → with_front front (read >>= λ y. Ok (x ∷ y.0, y.1)) ≡ with_front (front ++ x ∷ []) read
regroup {A = A} front x (Ok y) = ap (λ (xs : List A). Ok (xs, y.1)) (simp append_assoc)
regroup front x (Err f) = refl

module _ {A : Type 0} (read : List ℕ → Read A) (keeps : List ℕ → Bool) where
  pub goes_on : (front : List A) (count i : ℕ) (bytes : List ℕ) (x : A) (after : List ℕ) (total : Read (List A)) → i < count → read bytes ≡ Ok (x, after) → keeps after ≡ true
      → with_front front (repeat read keeps (count - i) bytes) ≡ total → with_front (front ++ x ∷ []) (repeat read keeps (count - (i + 1)) after) ≡ total
  unfolding repeat
  goes_on front count i bytes x after total lt h kept so_far =
      let k : count - i ≡ suc (count - (i + 1)) = omega arith in
      let one : with_front front (repeat read keeps (count - i) bytes) ≡ with_front (front ++ x ∷ []) (repeat read keeps (count - (i + 1)) after) = rw (k, h, kept) (regroup front x (repeat read keeps (count - (i + 1)) after)) in
      sym one ∙ so_far

  fault_ends : (f : Fault) (front : List A) (count i : ℕ) (bytes : List ℕ) (total : Read (List A)) → i < count → read bytes ≡ Err f
      → with_front front (repeat read keeps (count - i) bytes) ≡ total → total ≡ Err f
  unfolding repeat
  fault_ends f front count i bytes total lt h so_far =
      let k : count - i ≡ suc (count - (i + 1)) = omega arith in
      let one : with_front front (repeat read keeps (count - i) bytes) ≡ Err f = rw (k, h) refl in
      sym so_far ∙ one

  pub ends : (f : Fault) (front : List A) (count i : ℕ) (bytes : List ℕ) (total : Read (List A)) → i < count → Fails f (read bytes)
      → with_front front (repeat read keeps (count - i) bytes) ≡ total → Fails f total
  ends OutOfMemory front count i bytes total lt h so_far = tt
  ends Truncated front count i bytes total lt h so_far = fault_ends Truncated front count i bytes total lt h so_far
  ends TooLong front count i bytes total lt h so_far = fault_ends TooLong front count i bytes total lt h so_far
  ends BadSpelling front count i bytes total lt h so_far = fault_ends BadSpelling front count i bytes total lt h so_far
  ends BadKind front count i bytes total lt h so_far = fault_ends BadKind front count i bytes total lt h so_far

  pub too_long : (front : List A) (count i : ℕ) (bytes : List ℕ) (x : A) (after : List ℕ) (total : Read (List A)) → i < count → read bytes ≡ Ok (x, after) → keeps after ≡ false
      → with_front front (repeat read keeps (count - i) bytes) ≡ total → total ≡ Err TooLong
  unfolding repeat
  too_long front count i bytes x after total lt h kept so_far =
      let k : count - i ≡ suc (count - (i + 1)) = omega arith in
      let one : with_front front (repeat read keeps (count - i) bytes) ≡ Err TooLong = rw (k, h, kept) refl in
      sym so_far ∙ one

  pub is_done : (front : List A) (count i : ℕ) (bytes : List ℕ) (total : Read (List A)) → count ≤ i → with_front front (repeat read keeps (count - i) bytes) ≡ total → total ≡ Ok (front, bytes)
  unfolding repeat
  is_done front count i bytes total le so_far =
      let k : count - i ≡ 0 = omega arith in
      let one : with_front front (repeat read keeps (count - i) bytes) ≡ Ok (front, bytes) = rw k (ap (λ (xs : List A). Ok (xs, bytes)) (append-nil front)) in
      sym so_far ∙ one
