-- When items are a piece of the delivered list.
use Rattle.std.proofs.Common.{◌≡◌, ℕ, ◌≤◌, true, false, List, [], ◌∷◌, drop, take, length, get_or, ltb, refl, sym, ap, ◌∙◌, subst, arith, length-append, length-take-le, take-append-drop}
use Rattle.std.proofs.Math.Seq.{drop-append_seam}
use Rattle.std.proofs.lemmas.List.{drop_all}
use Rattle.std.proofs.lemmas.Bool.{false≢true, le-ltb, lt-ltb}
use Rattle.protocol.specs.Values.{Item}
use Rattle.subscriber_ring.specs.declared.delivered.Delivered.{Delivered}
use Rattle.locked_node.specs.Meeting.{AreNext, IsSegment}

next_none : (rest : List Item) (position : ℕ) (ds : List Delivered) → ds ≡ [] → AreNext rest position ds
next_none rest position ds e = subst (AreNext rest position) (sym e) (record { behind = rest; goes_on = refl; positions = tt })

pub next_behind_all : (rest : List Item) (position i : ℕ) (ds : List Delivered) → length ds ≤ i → AreNext rest position (drop i ds)
next_behind_all rest position i ds h = next_none rest position (drop i ds) (drop_all i ds h)

pub segment_of_none : (all : List Item) (ds : List Delivered) → ds ≡ [] → IsSegment all ds
segment_of_none all ds e = record { before = []; rest = all; whole = refl; next = next_none all 0 ds e }

pub segment_at : (all : List Item) (first : ℕ) (ds : List Delivered) → first ≤ length all → AreNext (drop first all) first ds → IsSegment all ds
segment_at all first ds h n = record {
  before = take first all;
  rest = drop first all;
  whole = sym (take-append-drop first all);
  next = subst (λ k. AreNext (drop first all) k ds) (sym (length-take-le first all h)) n;
}

module _ (all : List Item) (d : Delivered) (ds : List Delivered) (s : IsSegment all (d ∷ ds)) where
  within : d.position ≤ length all
  within = omega (arith, s.next.positions.0, ap length s.whole, length-append s.before s.rest)

  next_at : AreNext (drop d.position all) d.position (d ∷ ds)
  next_at =
      let cut : drop (length s.before) all ≡ s.rest = ap (drop (length s.before)) s.whole ∙ drop-append_seam s.before s.rest in
      subst (λ k. AreNext (drop k all) k (d ∷ ds)) (sym s.next.positions.0) (subst (λ l. AreNext l (length s.before) (d ∷ ds)) (sym cut) s.next)

pub none_first : (ds : List Delivered) → false ≡ ltb 0 (length ds) → ds ≡ []
none_first [] e = refl
none_first (d ∷ ds) e = absurd (false≢true (e ∙ lt-ltb 0 (length (d ∷ ds)) (omega arith)))

pub first_next : (all : List Item) (ds : List Delivered) (d : Delivered) → true ≡ ltb 0 (length ds) → d ≡ get_or ds 0 d → IsSegment all ds → (d.position ≤ length all) × AreNext (drop d.position all) d.position ds
first_next all [] d some is s = absurd (false≢true (sym (some ∙ le-ltb 0 0 (omega arith))))
first_next all (x ∷ xs) d some is s = subst (λ (k : Delivered). (k.position ≤ length all) × AreNext (drop k.position all) k.position (x ∷ xs)) (sym is) (within all x xs s, next_at all x xs s)
