-- What stands, a stop may leave.
use Rattle.std.proofs.Common.{inl, inr, ℕ, List, [], ◌∷◌, ◌++◌, length, refl, sym, ap, arith}
use Rattle.std.proofs.lemmas.List.{take_all}
use Rattle.journal_file.specs.Asked.{Asked, Found, Appended, NotAppended, Cut, NotCut, Synced, stands, leaves}

pub stands_left : (calls : List Asked) → leaves calls (stands calls)
stands_left [] = refl
stands_left (Found bytes ∷ before) = refl
stands_left (Appended bytes ∷ before) = inr (length bytes, ap (λ (x : List ℕ). stands before ++ x) (sym (take_all (length bytes) bytes (omega arith))))
stands_left (NotAppended bytes ∷ before) = inl (stands_left before)
stands_left (Cut len ∷ before) = inr (len, omega arith, refl)
stands_left (NotCut len ∷ before) = inl (stands_left before)
stands_left (Synced ∷ before) = refl
