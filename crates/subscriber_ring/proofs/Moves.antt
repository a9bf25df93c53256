-- Each step keeps the rule of the ring.
use Rattle.std.proofs.Common.{◌≡◌, ◌≢◌, ℕ, zero, suc, ◌+◌, ◌^◌, ◌<◌, true, false, true≢false, List, [], ◌∷◌, ◌++◌, length, set, sym, refl, ap, ◌∙◌, subst, ⊎_elim, append_assoc, arith, length-append}
use mathlib.Core.Option.{some, some-ne-none, some-injective}
use lib.ListN.{get_elem?}
use Rattle.crossbeam_channel.specs.Fifo.{Pushes, Pops, Forks, Merges, Learns}
use Rattle.std.proofs.lemmas.List.{map-append}
use Rattle.atomic_table.proofs.Lists.{at_set, at_snoc}
use Rattle.protocol.specs.Values.{fifo}
use Rattle.proposal_validity.proofs.Turns.{fifo_beginning}
use Rattle.subscriber_ring.specs.Ends.{Feed}
use Rattle.subscriber_ring.specs.Order.{Delivered, items_of, Consecutive, IsInOrder}
use Rattle.subscriber_ring.specs.Rule.{Hand, hand, offering, taking, with_offered, with_taken, both_ends, idle, EndsWith, LiesBetween, Took, Fits, Rule, Relayed}

-- ---- lists in order

consecutive_front : (first : ℕ) (xs ys : List Delivered) → Consecutive first (xs ++ ys) → Consecutive first xs
consecutive_front first [] ys h = tt
consecutive_front first (x ∷ xs) ys h = (h.0, consecutive_front (suc first) xs ys h.1)

consecutive_more : (first : ℕ) (xs : List Delivered) (d : Delivered) → Consecutive first xs → d.position ≡ first + length xs → Consecutive first (xs ++ d ∷ [])
consecutive_more first [] d h e = (omega arith, tt)
consecutive_more first (x ∷ xs) d h e = (h.0, consecutive_more (suc first) xs d h.1 (omega arith))

pub in_order_front : (first : ℕ) (xs ys : List Delivered) → IsInOrder first (xs ++ ys) → IsInOrder first xs
in_order_front first xs ys h = record {
  consecutive = consecutive_front first xs ys h.consecutive;
  fits = omega (arith, h.fits, length-append xs ys);
  clients = λ z. fifo_beginning (items_of xs) (items_of ys) (subst (λ l. fifo l ≡ true) (map-append (λ (d : Delivered). d.item) xs ys) (h.clients z));
}

pub in_order_more : (first : ℕ) (xs : List Delivered) (d : Delivered) → IsInOrder first xs → d.position ≡ first + length xs → d.position + 1 < 2 ^ 64 → (first ≡ 0 → fifo (items_of (xs ++ d ∷ [])) ≡ true) → IsInOrder first (xs ++ d ∷ [])
in_order_more first xs d h e small kept = record {
  consecutive = consecutive_more first xs d h.consecutive e;
  fits = omega (arith, e, small, length-append xs (d ∷ []));
  clients = kept;
}

-- ---- hands among the others

fits_set : (F : ℕ → Hand → Type 0) (hands : List Hand) (by : ℕ) (w : Hand) → F by w → ((j : ℕ) (u : Hand) → j ≢ by → get_elem? hands j ≡ some u → F j u) → (j : ℕ) (u : Hand) → get_elem? (set hands by w) j ≡ some u → F j u
fits_set F hands by w mine others j u e =
    ⊎_elim
    (λ (x : (j ≡ by) × (w ≡ u)). subst (λ (y : ℕ × Hand). F y.0 y.1) (λ i. (sym x.0 i, x.1 i)) mine)
    (λ (x : (j ≢ by) × (get_elem? hands j ≡ some u)). others j u x.0 x.1)
    (at_set hands by j w u e)

off : {A : Type 0} → false ≡ true → A
off e = absurd (true≢false (sym e))

at_end : (l : List Hand) (a b : Hand) (j : ℕ) → get_elem? l j ≢ some b → get_elem? (l ++ a ∷ []) j ≡ some b → j ≡ length l
at_end [] a b zero n e = refl
at_end [] a b (suc j) n e = absurd (some-ne-none b (sym e))
at_end (x ∷ xs) a b zero n e = absurd (n e)
at_end (x ∷ xs) a b (suc j) n e = ap suc (at_end xs a b j n e)

-- ---- the steps

pub nothing_yet : (first : ℕ) → first < 2 ^ 64 → IsInOrder first []
unfolding fifo
nothing_yet first small = record { consecutive = tt; fits = omega (arith, small); clients = λ _. refl }

pub begins : Rule [] (hand true true 0 [] [] ∷ [])
begins = record { feeder = 0; reader = 0; first = 0; offered = []; taken = []; whole = refl; order = nothing_yet 0 (omega arith); fits = one }
  where
    one : (place : ℕ) (v : Hand) → get_elem? (hand true true 0 [] [] ∷ []) place ≡ some v → Fits 0 0 0 [] [] place v
    one zero v e = subst (Fits 0 0 0 [] [] 0) (some-injective _ _ e) ((λ _. (refl, refl, refl)), (λ _. (refl, refl, refl)))
    one (suc place) v e = absurd (some-ne-none v (sym e))

pub offers : (n place first : ℕ) (sent : List Delivered) (v : Hand) (d : Delivered) → v ≡ offering first sent → IsInOrder first (sent ++ d ∷ []) → Pushes Relayed n place v d (λ w. w ≡ with_offered v d)
offers n place first sent v d is good queued hands _ h at =
    let w : Hand = with_offered v d in
    let mine = (h.fits place v at).0 (ap (λ u. u.offers) is) in
    let fi : first ≡ h.first = sym (ap (λ u. u.first) is) ∙ mine.1 in
    let se : sent ≡ h.offered = sym (ap (λ u. u.offered) is) ∙ mine.2 in
    let all = h.offered ++ d ∷ [] in (
      w,
      record {
        feeder = h.feeder;
        reader = h.reader;
        first = h.first;
        offered = all;
        taken = h.taken;
        whole = ap (λ l. l ++ d ∷ []) h.whole ∙ append_assoc h.taken queued (d ∷ []);
        order = subst (λ (p : ℕ × List Delivered). IsInOrder p.0 (p.1 ++ d ∷ [])) (λ i. (fi i, se i)) good;
        fits = fits_set (Fits h.feeder h.reader h.first all h.taken) hands place w
            ((λ _. (mine.0, mine.1, ap (λ l. l ++ d ∷ []) mine.2)), (λ p. off (sym (ap (λ u. u.takes) is) ∙ p)))
            (λ j u other e. ((λ p. absurd (other (((h.fits j u e).0 p).0 ∙ sym mine.0))), (h.fits j u e).1));
      },
      refl,
    )

pub full : (place first : ℕ) (sent : List Delivered) → Learns Relayed place (offering first sent) (EndsWith sent)
full place first sent queued hands h at = (h.taken, ((h.fits place (offering first sent) at).0 refl).2 ∙ h.whole)

pub takes : (place first : ℕ) (got : List Delivered) (v : Hand) → v ≡ taking first got → Pops Relayed place v (Took v)
takes place first got v is d queued hands h at =
    let w : Hand = with_taken v d in
    let mine = (h.fits place v at).1 (ap (λ u. u.takes) is) in
    let all = h.taken ++ d ∷ [] in
    let whole = h.whole ∙ sym (append_assoc h.taken (d ∷ []) queued) in
    let good : IsInOrder h.first all = in_order_front h.first all queued (subst (IsInOrder h.first) whole h.order) in (
      w,
      record {
        feeder = h.feeder;
        reader = h.reader;
        first = h.first;
        offered = h.offered;
        taken = all;
        whole = whole;
        order = h.order;
        fits = fits_set (Fits h.feeder h.reader h.first h.offered all) hands place w
            ((λ p. off (sym (ap (λ u. u.offers) is) ∙ p)), (λ _. (mine.0, mine.1, ap (λ l. l ++ d ∷ []) mine.2)))
            (λ j u other e. ((h.fits j u e).0, (λ p. absurd (other (((h.fits j u e).1 p).0 ∙ sym mine.0)))));
      },
      (refl, subst (λ (p : ℕ × List Delivered). IsInOrder p.0 (p.1 ++ d ∷ [])) (λ i. (sym mine.1 i, sym mine.2 i)) good),
    )

-- ---- both ends in one hand

-- the ends part, at a position from which all that was offered is in order
pub parts : (start place first : ℕ) (sent got : List Delivered) (v : Hand) → v ≡ hand true true first sent got → IsInOrder start sent → Forks Relayed place v (offering start sent) (taking start got)
parts start place first sent got v is good queued hands h at =
    let l : Hand = offering start sent in
    let r : Hand = taking start got in
    let a = (h.fits place v at).0 (ap (λ u. u.offers) is) in
    let b = (h.fits place v at).1 (ap (λ u. u.takes) is) in
    let se : sent ≡ h.offered = sym (ap (λ u. u.offered) is) ∙ a.2 in
    let go : got ≡ h.taken = sym (ap (λ u. u.taken) is) ∙ b.2 in
    let vs : List Hand = set hands place l in
    let Old : ℕ → Hand → Type 0 = λ j u. (u.offers ≡ true → (j ≡ h.feeder) × (u.first ≡ start) × (u.offered ≡ h.offered)) × (u.takes ≢ true) in
    let old : (j : ℕ) (u : Hand) → get_elem? vs j ≡ some u → Old j u = fits_set Old hands place l ((λ _. (a.0, refl, se)), (λ p. off p))
    (λ j u other e. ((λ p. absurd (other (((h.fits j u e).0 p).0 ∙ sym a.0))), (λ p. other (((h.fits j u e).1 p).0 ∙ sym b.0)))) in
    record {
      feeder = h.feeder;
      reader = length vs;
      first = start;
      offered = h.offered;
      taken = h.taken;
      whole = h.whole;
      order = subst (IsInOrder start) se good;
      fits = λ j u e. ⊎_elim
          (λ x. ((old j u x).0, λ p. absurd ((old j u x).1 p)))
          (λ (eq : r ≡ u). ((λ p. off (ap (λ (y : Hand). y.offers) eq ∙ p)), (λ p. (at_end vs r u j (λ x. (old j u x).1 p) e, ap (λ (y : Hand). y.first) (sym eq), ap (λ (y : Hand). y.taken) (sym eq) ∙ go))))
          (at_snoc vs r u j e);
    }

-- they come together
pub meets : (place other first start : ℕ) (sent got : List Delivered) (v w : Hand) → v ≡ offering first sent → w ≡ taking start got → Merges Relayed place v other w (both_ends v w) idle
meets place other first start sent got v w is was queued hands h at apart beside =
    let both : Hand = both_ends v w in
    let there : get_elem? hands other ≡ some w = ⊎_elim (λ (x : (other ≡ place) × (both ≡ w)). absurd (apart x.0)) (λ (x : (other ≢ place) × (get_elem? hands other ≡ some w)). x.1) (at_set hands place other both w beside) in
    let a = (h.fits place v at).0 (ap (λ u. u.offers) is) in
    let b = (h.fits other w there).1 (ap (λ u. u.takes) was) in
    let F : ℕ → Hand → Type 0 = Fits h.feeder place h.first h.offered h.taken in
    let G : ℕ → Hand → Type 0 = λ j u. j ≢ other → F j u in
    let joined : (j : ℕ) (u : Hand) → get_elem? (set hands place both) j ≡ some u → G j u = fits_set G hands place both (λ _. ((λ _. a), (λ _. (refl, a.1, b.2))))
    (λ j u far e away. ((λ p. absurd (far (((h.fits j u e).0 p).0 ∙ sym a.0))), (λ p. absurd (away (((h.fits j u e).1 p).0 ∙ sym b.0))))) in
    record {
      feeder = h.feeder;
      reader = place;
      first = h.first;
      offered = h.offered;
      taken = h.taken;
      whole = h.whole;
      order = h.order;
      fits = fits_set F (set hands place both) other idle ((λ p. off p), (λ p. off p)) (λ j u away e. joined j u e away);
    }

-- they part again
pub parts_again : (place first : ℕ) (v w both : Hand) → v ≡ offering first v.offered → IsInOrder first v.offered → both ≡ both_ends v w → Forks Relayed place both (offering both.first both.offered) (taking both.first both.taken)
parts_again place first v w both is good e = subst
    (λ (b : Hand). Forks Relayed place b (offering b.first b.offered) (taking b.first b.taken))
    (sym e)
    (parts v.first place v.first v.offered w.taken (both_ends v w) refl (subst (λ f. IsInOrder f v.offered) (sym (ap (λ (u : Hand). u.first) is)) good))

-- and what is queued lies between them
pub between : (place : ℕ) (v : Hand) → v.offers ≡ true → v.takes ≡ true → Learns Relayed place v (LiesBetween v)
between place v offers takes queued hands h at = ((h.fits place v at).0 offers).2 ∙ h.whole ∙ ap (λ l. l ++ queued) (sym ((h.fits place v at).1 takes).2)

-- ---- what an end knows

-- of an end that offers: its counter, its view, and the order of what it offered
abbrev pub Offering : ℕ → ℕ → Hand → Type 0
Offering first count w = (count ≡ length w.offered) × (w ≡ offering first w.offered) × IsInOrder first w.offered

abbrev pub Taking : ℕ → ℕ → Hand → Type 0
Taking first count w = (count ≡ length w.taken) × (w ≡ taking first w.taken) × IsInOrder first w.taken

pub new_feeder : (first : ℕ) (w : Hand) → first < 2 ^ 64 → w ≡ offering first [] → Offering first 0 w
new_feeder first w small e = subst (Offering first 0) (sym e) (refl, refl, nothing_yet first small)

pub new_subscription : (first : ℕ) (w : Hand) → first < 2 ^ 64 → w ≡ taking first [] → Taking first 0 w
new_subscription first w small e = subst (Taking first 0) (sym e) (refl, refl, nothing_yet first small)

pub one_offered : (first count : ℕ) (v w : Hand) (d : Delivered) → Offering first count v → IsInOrder first (v.offered ++ d ∷ []) → w ≡ with_offered v d → Offering first (count + 1) w
one_offered first count v w d o good e =
    let all : w ≡ offering first (v.offered ++ d ∷ []) = e ∙ ap (λ (u : Hand). with_offered u d) o.1 in
    subst (Offering first (count + 1)) (sym all) (omega (arith, o.0, length-append v.offered (d ∷ [])), refl, good)

-- the item that comes next, as callers tell of it
pub next_in_order : (first : ℕ) (sent : List Delivered) (f : Feed) (d : Delivered) → first ≡ f.first → sent ≡ f.offered → IsInOrder first sent → d.position ≡ f.first + length f.offered → d.position + 1 < 2 ^ 64 → (f.first ≡ 0 → fifo (items_of (f.offered ++ d ∷ [])) ≡ true) → IsInOrder first (sent ++ d ∷ [])
next_in_order first sent f d a b h e small kept = in_order_more first sent d h (e ∙ (λ i. sym a i + length (sym b i))) small (λ z. subst (λ l. fifo (items_of (l ++ d ∷ [])) ≡ true) (sym b) (kept (sym a ∙ z)))

pub one_taken : (first count : ℕ) (v w : Hand) (d : Delivered) → Taking first count v → Took v d w → Taking first (count + 1) w
one_taken first count v w d o took =
    let all : w ≡ taking first (v.taken ++ d ∷ []) = took.0 ∙ ap (λ (u : Hand). with_taken u d) o.1 in
    subst (Taking first (count + 1)) (sym all) (omega (arith, o.0, length-append v.taken (d ∷ [])), refl, subst (λ f. IsInOrder f (v.taken ++ d ∷ [])) (ap (λ (u : Hand). u.first) o.1) took.1)
