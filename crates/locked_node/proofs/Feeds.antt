-- Rings and places, as decisions are added.
use Rattle.std.proofs.Common.{◌≡◌, ℕ, zero, suc, true, ◌+◌, ◌<◌, ◌≤◌, ◌-◌, List, [], ◌∷◌, ◌++◌, drop, take, length, refl, sym, ap, ◌∙◌, subst, arith, append_assoc, append-nil, length-append, get_or, slice_index_or, slice_set, Result, Ok, MatchResult, take-append-drop, length-take-le}
use Rattle.std.proofs.lemmas.List.{map-append}
use Rattle.std.proofs.lemmas.List.{take_more, length-map}
use Rattle.std.proofs.lemmas.Grind.{flat_map-append}
use Rattle.std.proofs.lemmas.List.{drop-append-le}
use Rattle.protocol.specs.Values.{Item, item, items, fifo}
use Rattle.protocol.specs.Messages.{Bundle}
use Rattle.node_core.specs.Core.{delivered_in}
use Rattle.proposal_validity.proofs.Turns.{fifo_beginning}
use Rattle.subscriber_ring.specs.declared.delivered.Delivered.{Delivered}
use Rattle.subscriber_ring.specs.Order.{items_of}
use Rattle.subscriber_ring.specs.Ends.{Feed}
use Rattle.locked_node.specs.declared.feeding.Stop.{Stop}
use Rattle.locked_node.specs.declared.feeding.Stop.TheVariants.{Unoffered, Full, Gone, NoneLeft, OutOfMemory}
use Rattle.locked_node.specs.declared.place.Place.{Place}
use Rattle.locked_node.specs.declared.feeding.Fed.{Fed}
use Rattle.locked_node.specs.Feeding.{left_at, IsPlace, IsFed, AreFed, answered, with_more, IsOffered, AreOffered, LacksMemory, HasFilled}

pub delivered_append : (d e : List Bundle) → delivered_in (d ++ e) ≡ delivered_in d ++ delivered_in e
delivered_append d e = flat_map-append (λ (b : Bundle). items b.value) d e

left_more : (d more : List Bundle) (place : Place) → IsPlace d place → left_at (d ++ more) place ≡ left_at d place ++ delivered_in more
left_more d more place p =
    ap (λ l. drop place.index (delivered_in l)) (drop-append-le place.height d more p.height) ∙ ap (drop place.index) (delivered_append (drop place.height d) more)
    ∙ drop-append-le place.index (delivered_in (drop place.height d)) (delivered_in more) p.index

place_more : (d more : List Bundle) (place : Place) → IsPlace d place → IsPlace (d ++ more) place
place_more d more place p = record {
  height = omega (arith, p.height, length-append d more);
  index = omega (arith, p.index, ap length (ap delivered_in (drop-append-le place.height d more p.height) ∙ delivered_append (drop place.height d) more), length-append (delivered_in (drop place.height d)) (delivered_in more));
}

fed_more : (d more : List Bundle) (f : Fed) → IsFed d f → IsFed (d ++ more) f
fed_more d more f s =
    let offered = items_of f.feeder.offered in record {
      before = s.before;
      start = s.start;
      whole = delivered_append d more ∙ ap (λ l. l ++ delivered_in more) s.whole ∙ append_assoc s.before (offered ++ left_at d f.place) (delivered_in more)
          ∙ ap (λ l. s.before ++ l) (append_assoc offered (left_at d f.place) (delivered_in more) ∙ ap (λ l. offered ++ l) (sym (left_more d more f.place s.place)));
      place = place_more d more f.place s.place;
    }

pub are_fed_more : (d more : List Bundle) (fs : List Fed) → AreFed d fs → AreFed (d ++ more) fs
are_fed_more d more [] s = tt
are_fed_more d more (f ∷ fs) s = (fed_more d more f s.0, are_fed_more d more fs s.1)

pub count_one_more : (d : List Bundle) (i : ℕ) (b : Bundle) → i < length d → b ≡ get_or d i b → length (delivered_in (take (i + 1) d)) ≡ length (delivered_in (take i d)) + length b.value.txs
count_one_more d i b h e =
    ap (λ l. length (delivered_in l)) (take_more d i b h) ∙ ap length (delivered_append (take i d) (get_or d i b ∷ [])) ∙ length-append (delivered_in (take i d)) (delivered_in (get_or d i b ∷ [])) ∙ ap (λ k. length (delivered_in (take i d)) + k) (ap (λ x. length (delivered_in (x ∷ []))) (sym e) ∙ ap length (append-nil (items b.value)) ∙ length-map b.value.txs item)

-- ---- offering

pub none_before : (before : List Item) (first : ℕ) → length before ≡ first → first ≡ 0 → before ≡ []
none_before [] first e z = refl
none_before (x ∷ xs) first e z = absurd (omega (arith, e, z))

pub next_order : (d : List Bundle) (f : Fed) (p : Place) (x y : Item) (rest : List Item) (position : ℕ) → IsFed d f → fifo (delivered_in d) ≡ true → left_at d p ≡ left_at d f.place → left_at d p ≡ x ∷ rest → y ≡ x
    → f.feeder.first ≡ 0 → fifo (items_of (f.feeder.offered ++ record { position = position; item = y } ∷ [])) ≡ true
next_order d f p x y rest position s order same here is z =
    let offered = items_of f.feeder.offered in
    let whole : delivered_in d ≡ items_of (f.feeder.offered ++ record { position = position; item = y } ∷ []) ++ rest =
    s.whole ∙ ap (λ b. b ++ (offered ++ left_at d f.place)) (none_before s.before f.feeder.first s.start z)
    ∙ ap (λ l. offered ++ l) (sym same ∙ here ∙ ap (λ (i : Item). i ∷ rest) (sym is))
    ∙ sym (append_assoc offered (y ∷ []) rest)
    ∙ ap (λ l. l ++ rest) (sym (map-append (λ (e : Delivered). e.item) f.feeder.offered (record { position = position; item = y } ∷ []))) in
    fifo_beginning _ rest (subst (λ l. fifo l ≡ true) whole order)

pub fed_at : (d : List Bundle) (fs : List Fed) (i : ℕ) (other : Fed) → i < length fs → AreFed d fs → IsFed d (slice_index_or fs i other)
fed_at d [] i other h s = absurd (omega (arith, h))
fed_at d (f ∷ fs) zero other h s = s.0
fed_at d (f ∷ fs) (suc i) other h s = fed_at d fs i other (omega (arith, h)) s.1

pub are_fed_set : (d : List Bundle) (fs : List Fed) (i : ℕ) (g : Fed) → IsFed d g → AreFed d fs → AreFed d (slice_set fs i g)
are_fed_set d [] i g new s = tt
are_fed_set d (f ∷ fs) zero g new s = (new, s.1)
are_fed_set d (f ∷ fs) (suc i) g new s = (s.0, are_fed_set d fs i g new s.1)

abbrev tail_of : List Fed → List Fed
tail_of [] = []
tail_of (f ∷ fs) = fs

are_offered_suc : (d : List Bundle) (i : ℕ) (olds news : List Fed) (other g : Fed) → i < length news → AreOffered d i olds news → IsOffered d (slice_index_or news i other) g → AreOffered d (suc i) olds (slice_set news i g)
are_offered_suc d zero [] [] other g h a o = absurd (omega (arith, h))
are_offered_suc d zero [] (x ∷ news) other g h a o = absurd (omega (arith, ap length a))
are_offered_suc d zero (old ∷ olds) [] other g h a o = absurd (omega (arith, h))
are_offered_suc d zero (old ∷ olds) (x ∷ news) other g h a o = (subst (λ (l : Fed). IsOffered d l g) (ap (λ l. slice_index_or l 0 other) a) o, ap tail_of a)
are_offered_suc d (suc i) [] news other g h a o = absurd a
are_offered_suc d (suc i) (old ∷ olds) [] other g h a o = absurd a
are_offered_suc d (suc i) (old ∷ olds) (x ∷ news) other g h a o = (a.0, are_offered_suc d i olds news other g (omega (arith, h)) a.1 o)

pub are_offered_set : (d : List Bundle) (i : ℕ) (olds news : List Fed) (other g : Fed) → i < length news → AreOffered d i olds news → IsOffered d (slice_index_or news i other) g → AreOffered d (i + 1) olds (slice_set news i g)
are_offered_set d i olds news other g h a o =
    let one : suc i ≡ i + 1 = omega arith in
    subst (λ k. AreOffered d k olds (slice_set news i g)) one (are_offered_suc d i olds news other g h a o)

-- ---- a new ring

pub new_fed : (d : List Bundle) (feed : Feed) (from : ℕ) → feed.first ≡ from → feed.offered ≡ [] → from ≤ length (delivered_in d) → IsFed d (record { feeder = feed; place = record { height = 0; index = from }; stopped = Unoffered })
new_fed d feed from first none h =
    let all = delivered_in d in record {
      before = take from all;
      start = length-take-le from all h ∙ sym first;
      whole = sym (ap (λ l. take from all ++ (items_of l ++ drop from all)) none ∙ take-append-drop from all);
      place = record { height = omega arith; index = h };
    }

pub are_fed_push : (d : List Bundle) (fs : List Fed) (f : Fed) → AreFed d fs → IsFed d f → AreFed d (fs ++ f ∷ [])
are_fed_push d [] f s new = (new, tt)
are_fed_push d (x ∷ fs) f s new = (s.0, are_fed_push d fs f s.1 new)

-- ---- one ring

pub filled_set : {E : Type 0} (d : List Bundle) (place : ℕ) (fs : List Fed) (other g : Fed) (result : Result ℕ E) → place < length fs → IsOffered d (slice_index_or fs place other) g
    → MatchResult result (λ n. (length g.feeder.offered ≡ length (slice_index_or fs place other).feeder.offered + n) × (LacksMemory g.stopped → ⊥)) (λ e. LacksMemory g.stopped) → HasFilled d place fs (slice_set fs place g) result
filled_set d place [] other g result h o r = absurd (omega (arith, h))
filled_set d zero (f ∷ fs) other g result h o r = (o, refl, r)
filled_set d (suc place) (f ∷ fs) other g result h o r = (refl, filled_set d place fs other g result (omega (arith, h)) o r)

pub filled_none : {E : Type 0} (d : List Bundle) (place : ℕ) (fs : List Fed) (result : Result ℕ E) → length fs ≤ place → result ≡ Ok 0 → HasFilled d place fs fs result
filled_none d place [] result h r = (refl, r)
filled_none d zero (f ∷ fs) result h r = absurd (omega (arith, h))
filled_none d (suc place) (f ∷ fs) result h r = (refl, filled_none d place fs result (omega (arith, h)) r)

pub filled_at : {E : Type 0} (d : List Bundle) (place : ℕ) (fs : List Fed) (o g : Fed) (result : Result ℕ E) → place < length fs → o ≡ slice_index_or fs place o → IsOffered d o g
    → MatchResult result (λ n. (length g.feeder.offered ≡ length o.feeder.offered + n) × (LacksMemory g.stopped → ⊥)) (λ e. LacksMemory g.stopped) → HasFilled d place fs (slice_set fs place g) result
filled_at d place fs o g result h e offered r =
    filled_set d place fs o g result h (subst (λ (l : Fed). IsOffered d l g) e offered)
    (subst (λ (l : Fed). MatchResult result (λ n. (length g.feeder.offered ≡ length l.feeder.offered + n) × (LacksMemory g.stopped → ⊥)) (λ e. LacksMemory g.stopped)) e r)

-- a stop changes neither where a ring begins nor what it was offered
pub answered_first : (s : Stop) (feed : Feed) → (answered s feed).first ≡ feed.first
answered_first Unoffered feed = refl
answered_first Full feed = refl
answered_first Gone feed = refl
answered_first NoneLeft feed = refl
answered_first (OutOfMemory cause) feed = refl

pub answered_offered : (s : Stop) (feed : Feed) → (answered s feed).offered ≡ feed.offered
answered_offered Unoffered feed = refl
answered_offered Full feed = refl
answered_offered Gone feed = refl
answered_offered NoneLeft feed = refl
answered_offered (OutOfMemory cause) feed = refl

-- a ring's offered items are counted by its next position
pub counted : (d : List Bundle) (o g : Fed) (before after : ℕ) → before ≡ o.feeder.first + length o.feeder.offered → after ≡ g.feeder.first + length g.feeder.offered → IsOffered d o g → length g.feeder.offered ≡ length o.feeder.offered + (after - before)
counted d o g before after a b m =
    let feed = with_more o.feeder m.more in
    omega
    (arith, a, b, ap (λ (f : Feed). f.first) m.offered ∙ answered_first g.stopped feed, ap (λ (f : Feed). length f.offered) m.offered ∙ ap length (answered_offered g.stopped feed), length-append o.feeder.offered m.more)
