-- Messages and their numbers.
use Rattle.std.proofs.Common.{◌≡◌, ℕ, suc, ◌+◌, Bool, true, false, ◌||◌, inl, inr, List, [], ◌∷◌, ◌++◌, map, length, refl, sym, ap, ap₂, ◌∙◌, append_assoc, append-nil, arith}
use Rattle.std.specs.List.{list_any}
use Rattle.std.specs.Str.{bytes_eq}
use Rattle.std.proofs.lemmas.Bool.{cases_Bool}
use Rattle.std.proofs.lemmas.List.{map-append}
use Rattle.std.proofs.lemmas.Slice.Eq.{bytes_eq-Decides}
use Rattle.messages.specs.Grammar.{body_spelling}
use Rattle.protocol.specs.Messages.{Body}
use Rattle.world_schedule.specs.Reports.{is_numbered, newly, released_from}
use Rattle.world_schedule.specs.declared.report.What.TheVariants.{Released}

same_bool : (a b : Bool) → (a ≡ true → b ≡ true) → (b ≡ true → a ≡ true) → a ≡ b
same_bool true b f g = sym (f refl)
same_bool false true f g = g refl
same_bool false false f g = refl

bytes_turned : (xs ys : List ℕ) → bytes_eq xs ys ≡ bytes_eq ys xs
bytes_turned xs ys = same_bool _ _ (λ t. (bytes_eq-Decides ys xs).1 (sym ((bytes_eq-Decides xs ys).0 t))) (λ t. (bytes_eq-Decides xs ys).1 (sym ((bytes_eq-Decides ys xs).0 t)))

-- a body's bytes are among the keys where it is numbered
module _ {V : Type 0} (bytes : V → List ℕ) where
  pub any_key : (keys : List V) (numbered : List Body) (b : Body) (spelled : List ℕ) → spelled ≡ body_spelling b → map bytes keys ≡ map body_spelling numbered
      → list_any (λ k. bytes_eq spelled (bytes k)) keys ≡ is_numbered numbered b
  any_key [] [] b spelled e same = refl
  any_key [] (x ∷ xs) b spelled e same = absurd (let f : [] ≡ body_spelling x ∷ map body_spelling xs = same in cc)
  any_key (k ∷ ks) [] b spelled e same = absurd (let f : bytes k ∷ map bytes ks ≡ [] = same in cc)
  any_key (k ∷ ks) (x ∷ xs) b spelled e same =
      let first : bytes k ≡ body_spelling x = cc in
      let rest : map bytes ks ≡ map body_spelling xs = cc in
      ap₂ (λ p q. p || q) (bytes_turned spelled (bytes k) ∙ ap₂ bytes_eq first e) (any_key ks xs b spelled e rest)

-- ---- one body after the other

pub newly_append : (numbered xs ys : List Body) → newly numbered (xs ++ ys) ≡ newly numbered xs ++ newly (numbered ++ newly numbered xs) ys
newly_append numbered [] ys = ap (λ l. newly l ys) (sym (append-nil numbered))
newly_append numbered (x ∷ xs) ys = elim (cases_Bool (is_numbered numbered x)) [
  | inl e ↦ rw e (newly_append numbered xs ys)
  | inr e ↦ rw e (ap (λ l. x ∷ l) (newly_append (numbered ++ x ∷ []) xs ys ∙ ap (λ l. newly (numbered ++ x ∷ []) xs ++ newly l ys) (append_assoc numbered (x ∷ []) (newly (numbered ++ x ∷ []) xs))))
]

pub released_append : (n : ℕ) (xs ys : List Body) → released_from n (xs ++ ys) ≡ released_from n xs ++ released_from (n + length xs) ys
released_append n [] ys = ap (λ k. released_from k ys) (let e : n ≡ n + 0 = omega arith in e)
released_append n (x ∷ xs) ys = let e : suc n + length xs ≡ n + suc (length xs) = omega arith in ap (λ l. Released (record { number = n; body = x }) ∷ l) (released_append (suc n) xs ys ∙ ap (λ k. released_from (suc n) xs ++ released_from k ys) e)

-- one more at the end
pub pushed : {X Y : Type 0} (f : X → Y) (g : Body → Y) (old new : List X) (x : X) (numbered : List Body) (b : Body) → new ≡ old ++ x ∷ [] → map f old ≡ map g numbered → f x ≡ g b → map f new ≡ map g (numbered ++ b ∷ [])
pushed f g old new x numbered b e same one = ap (map f) e ∙ map-append f old (x ∷ []) ∙ ap₂ (λ l y. l ++ y ∷ []) same one ∙ sym (map-append g numbered (b ∷ []))
