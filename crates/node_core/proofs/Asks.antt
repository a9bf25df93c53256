-- The decision of a height in a journal.
use Rattle.std.proofs.Common.{◌≡◌, ℕ, ◌<◌, ◌≤◌, true, false, List, [], ◌∷◌, ◌++◌, length, get_or, Some, inl, inr, refl, sym, ap, ◌∙◌, eqb-true, eq-eqb, length-append, arith}
use Rattle.std.specs.Prelude.{◌==◌}
use Rattle.std.specs.List.{slice_get}
use Rattle.std.proofs.lemmas.Bool.{cases_Bool, cases_eq}
use Rattle.std.proofs.lemmas.List.{get_or_append_left}
use Rattle.std.proofs.lemmas.Option.{get_or_from_slice_get, slice_get_within, slice_get-get_or}
use Rattle.std.proofs.Math.Seq.{get_or-append_seam}
use Rattle.protocol.specs.Messages.{OfBundle, Bundle, Record, Own, Decided}
use Rattle.protocol.specs.Arrivals.{bundles_of}
use Rattle.protocol.specs.Effects.{bundles_in}
use Rattle.height_catchup.specs.Kept.{IsInPlace}

last_place : (bs : List Bundle) (b : Bundle) → IsInPlace (bs ++ b ∷ []) → b.height ≡ length bs
last_place bs b p = ap (λ (x : Bundle). x.height) (sym (get_or-append_seam bs b [] b)) ∙ p (length bs) b (let e = length-append bs (b ∷ []) in omega (arith, e))

first_places : (bs : List Bundle) (b : Bundle) → IsInPlace (bs ++ b ∷ []) → IsInPlace bs
first_places bs b p h d lt = ap (λ (x : Bundle). x.height) (sym (get_or_append_left bs (b ∷ []) d h lt)) ∙ p h d (let e = length-append bs (b ∷ []) in omega (arith, e, lt))

none_above : (journal : List Record) (h : ℕ) → IsInPlace (bundles_in journal) → length (bundles_in journal) ≤ h → bundles_of h journal ≡ []
none_above [] h p le = refl
none_above (Own a r act ∷ rest) h p le = none_above rest h p le
none_above (Decided b ∷ rest) h p le =
    let e = length-append (bundles_in rest) (b ∷ []) in
    let at : b.height ≡ length (bundles_in rest) = last_place (bundles_in rest) b p in
    elim (cases_Bool (b.height == h)) [
      | inl t ↦ (let f : b.height ≡ h = eqb-true _ _ t in absurd (omega (arith, e, le, at, f)))
      | inr t ↦ rw t (none_above rest h (first_places (bundles_in rest) b p) (omega (arith, e, le)))
    ]

pub bundle_at : (journal : List Record) (h : ℕ) (b : Bundle) → IsInPlace (bundles_in journal) → slice_get (bundles_in journal) h ≡ Some b → bundles_of h journal ≡ OfBundle b ∷ []
bundle_at [] h b p e = absurd cc
bundle_at (Own a r act ∷ rest) h b p e = bundle_at rest h b p e
bundle_at (Decided x ∷ rest) h b p e =
    let n = length-append (bundles_in rest) (x ∷ []) in
    let at : x.height ≡ length (bundles_in rest) = last_place (bundles_in rest) x p in
    let within : h < length (bundles_in rest ++ x ∷ []) = slice_get_within (bundles_in rest ++ x ∷ []) h b e in
    let value : get_or (bundles_in rest ++ x ∷ []) h b ≡ b = get_or_from_slice_get (bundles_in rest ++ x ∷ []) h b b e in
    elim (cases_Bool (x.height == h)) [
      | inl t ↦ (
          let f : x.height ≡ h = eqb-true _ _ t in
          let place : h ≡ length (bundles_in rest) = sym f ∙ at in
          let same : x ≡ b = sym (get_or-append_seam (bundles_in rest) x [] b) ∙ ap (λ i. get_or (bundles_in rest ++ x ∷ []) i b) (sym place) ∙ value in
          rw (t, none_above rest h (first_places (bundles_in rest) x p) (omega (arith, place))) (ap (λ y. OfBundle y ∷ []) same))
      | inr t ↦ rw t (bundle_at rest h b (first_places (bundles_in rest) x p) (elim (cases_eq h (length (bundles_in rest))) [
        | inl same ↦ absurd (let f : x.height == h ≡ true = eq-eqb _ _ (at ∙ sym same) in let g : true ≡ false = sym f ∙ t in cc)
        | inr lt ↦ (let below : h < length (bundles_in rest) = omega (arith, n, within, lt) in
            slice_get-get_or (bundles_in rest) h b below ∙ ap Some (sym (get_or_append_left (bundles_in rest) (x ∷ []) b h below) ∙ value))
      ]))
    ]
