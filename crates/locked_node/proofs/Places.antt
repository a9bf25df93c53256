-- Places of the delivered list.
use Rattle.std.proofs.Common.{◌≡◌, ℕ, zero, suc, ◌+◌, ◌<◌, ◌≤◌, ◌-◌, List, [], ◌∷◌, ◌++◌, drop, length, refl, sym, ap, ◌∙◌, subst, arith, length-append, get_or, drop-cons}
use Rattle.std.proofs.Math.Seq.{drop-append-add}
use Rattle.std.proofs.lemmas.List.{length-map, get_or-map, get_or_append_left, drop_all}
use Rattle.std.proofs.lemmas.List.Concat.{flat_map-cons}
use Rattle.protocol.specs.Values.{Tx, item, items}
use Rattle.protocol.specs.Messages.{Bundle}
use Rattle.node_core.specs.Core.{delivered_in}
use Rattle.locked_node.specs.declared.place.Place.{Place}
use Rattle.locked_node.specs.Feeding.{left_at, IsPlace, IsNormal, StandsAt, after_one}

abbrev place : ℕ → ℕ → Place
place height index = record { height = height; index = index }

module _ (d : List Bundle) (h i : ℕ) (b : Bundle) (within : h < length d) (is : b ≡ get_or d h b) where
  cut_at : drop h d ≡ b ∷ drop (suc h) d
  cut_at = drop-cons d h b within ∙ ap (λ x. x ∷ drop (suc h) d) (sym is)

  parts : delivered_in (drop h d) ≡ items b.value ++ delivered_in (drop (suc h) d)
  parts = ap delivered_in cut_at ∙ flat_map-cons (λ (x : Bundle). items x.value) b (drop (suc h) d)

  as_many : length (items b.value) ≡ length b.value.txs
  as_many = length-map b.value.txs item

  long : length (delivered_in (drop h d)) ≡ length b.value.txs + length (delivered_in (drop (suc h) d))
  long = omega (arith, ap length parts, length-append (items b.value) (delivered_in (drop (suc h) d)), as_many)

  pub over_place : length b.value.txs ≤ i → IsPlace d (place h i) → IsPlace d (place (h + 1) (i - length b.value.txs))
  over_place behind p = record {
    height = omega (arith, within);
    index = let one : suc h ≡ h + 1 = omega arith in subst (λ k. i - length b.value.txs ≤ length (delivered_in (drop k d))) one (omega (arith, p.index, long));
  }

  pub over_left : length b.value.txs ≤ i → left_at d (place (h + 1) (i - length b.value.txs)) ≡ left_at d (place h i)
  over_left behind =
      let n = length b.value.txs in
      let rest = delivered_in (drop (suc h) d) in
      let one : h + 1 ≡ suc h = omega arith in
      let sum : i ≡ length (items b.value) + (i - n) = omega (arith, as_many) in
      ap (λ k. drop (i - n) (delivered_in (drop k d))) one
      ∙ sym (ap (drop i) parts ∙ ap (λ k. drop k (items b.value ++ rest)) sum ∙ drop-append-add (items b.value) rest (i - n))

  pub normal_within : i < length b.value.txs → IsNormal d (place h i)
  normal_within inside = subst (λ l. StandsAt l i) (sym cut_at) inside

  pub here_tx : (tx : Tx) → i < length b.value.txs → tx ≡ get_or b.value.txs i tx → left_at d (place h i) ≡ item tx ∷ left_at d (after_one (place h i))
  here_tx tx inside at =
      let all = delivered_in (drop h d) in
      let rest = delivered_in (drop (suc h) d) in
      let one : suc i ≡ i + 1 = omega arith in
      let found : get_or all i (item tx) ≡ item tx = ap (λ l. get_or l i (item tx)) parts ∙ get_or_append_left (items b.value) rest (item tx) i (omega (arith, as_many))
      ∙ get_or-map item b.value.txs i tx (item tx) inside ∙ ap item (sym at) in
      drop-cons all i (item tx) (omega (arith, long)) ∙ ap (λ x. x ∷ drop (suc i) all) found ∙ ap (λ k. item tx ∷ drop k all) one

pub normal_at_end : (d : List Bundle) (h i : ℕ) → length d ≤ h → IsNormal d (place h i)
normal_at_end d h i end = subst (λ l. StandsAt l i) (sym (drop_all h d end)) tt

any_default : (d : List Bundle) (h : ℕ) (x y : Bundle) → h < length d → get_or d h x ≡ get_or d h y
any_default [] h x y l = absurd (omega (arith, l))
any_default (z ∷ zs) zero x y l = refl
any_default (z ∷ zs) (suc h) x y l = any_default zs h x y (omega (arith, l))

pub over_both : (d : List Bundle) (h i : ℕ) (x y : Bundle) (len n : ℕ) (from : Place) → h < length d → len ≡ length (get_or d h x).value.txs → n ≡ length (get_or d h y).value.txs → len ≤ i
    → IsPlace d (place h i) × (left_at d (place h i) ≡ left_at d from) → IsPlace d (place (h + 1) (i - n)) × (left_at d (place (h + 1) (i - n)) ≡ left_at d from)
over_both d h i x y len n from within a b behind p =
    let here = get_or d h x in
    let same : n ≡ length here.value.txs = b ∙ ap (λ (z : Bundle). length z.value.txs) (any_default d h y x within) in
    let is : here ≡ get_or d h here = any_default d h x here within in
    let late : length here.value.txs ≤ i = omega (arith, a, behind) in
    subst (λ k. IsPlace d (place (h + 1) (i - k)) × (left_at d (place (h + 1) (i - k)) ≡ left_at d from)) (sym same)
    (over_place d h i here within is late p.0, over_left d h i here within is late ∙ p.1)
