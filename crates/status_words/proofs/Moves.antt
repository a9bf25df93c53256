-- Each step keeps the rule of the words.
use Rattle.std.proofs.Common.{◌≡◌, ◌≢◌, ℕ, zero, suc, ◌≤◌, true, false, true≢false, List, [], ◌∷◌, ◌++◌, set, sym, refl, ap, ◌∙◌, subst, ⊎_elim, arith}
use Rattle.std.specs.Prelude.{slice_index, slice_set, Contains}
use Rattle.std.proofs.lemmas.List.Elements.{Contains-append_left, Contains-push, Contains-push_cases}
use mathlib.Core.Option.{some, none, some-ne-none, some-injective}
use lib.ListN.{get_elem?}
use Rattle.atomic_table.specs.Table.{step, Allows, Splits, Joins, opening}
use Rattle.atomic_table.specs.Table.Act.{keeps}
use Rattle.atomic_table.proofs.Lists.{at_set, at_snoc}
use Rattle.status_words.specs.Seen.{Seen, unseen, opened, with_height, with_delivered, greater, AllIn, IsOf}
use Rattle.status_words.specs.Rule.{Sight, sight, publishing, sitting, with_own, told, shown, Fits, Keeps}
use Rattle.status_words.specs.Plays.{Knower, StoredHeight, StoredDelivered, LoadedHeight, LoadedDelivered, CheckedHeight, CheckedDelivered}

-- ---- words that were published

all_more : (xs all : List ℕ) (x : ℕ) → AllIn xs all → AllIn xs (all ++ x ∷ [])
all_more xs all x h y c = Contains-append_left all (x ∷ []) y (h y c)

all_push : (xs all : List ℕ) (x : ℕ) → AllIn xs all → Contains all x → AllIn (xs ++ x ∷ []) all
all_push xs all x h at y c = ⊎_elim (λ (there : Contains xs y). h y there) (λ (e : x ≡ y). subst (λ z. Contains all z) e at) (Contains-push_cases xs x y c)

all_none : (all : List ℕ) → AllIn [] all
all_none all y c = absurd (omega (arith, c.1))

all_same : (all : List ℕ) → AllIn all all
all_same all y c = c

of_none : (p : Seen) → IsOf p unseen
of_none p = ((omega arith, omega arith), all_none p.heights, all_none p.counts)

of_itself : (p : Seen) → IsOf p p
of_itself p = ((omega arith, omega arith), all_same p.heights, all_same p.counts)

of_higher : (p s : Seen) (h : ℕ) → p.height ≤ h → IsOf p s → IsOf (with_height p h) s
of_higher p s h more o = ((omega (arith, o.0.0, more), o.0.1), all_more s.heights p.heights h o.1, o.2)

of_further : (p s : Seen) (n : ℕ) → p.delivered ≤ n → IsOf p s → IsOf (with_delivered p n) s
of_further p s n more o = ((o.0.0, omega (arith, o.0.1, more)), o.1, all_more s.counts p.counts n o.2)

sees_height : (p s : Seen) (n : ℕ) → n ≡ p.height → Contains p.heights p.height → IsOf p s → IsOf p (with_height s n)
sees_height p s n is at o = ((omega (arith, is), o.0.1), all_push s.heights p.heights n o.1 (subst (λ z. Contains p.heights z) (sym is) at), o.2)

sees_delivered : (p s : Seen) (n : ℕ) → n ≡ p.delivered → Contains p.counts p.delivered → IsOf p s → IsOf p (with_delivered s n)
sees_delivered p s n is at o = ((o.0.0, omega (arith, is)), o.1, all_push s.counts p.counts n o.2 (subst (λ z. Contains p.counts z) (sym is) at))

of_greater : (p s t : Seen) → IsOf p s → IsOf p t → IsOf p (greater s t)
of_greater p s t o q = ((omega (arith, o.0.0, q.0.0), omega (arith, o.0.1, q.0.1)), o.1, o.2)

-- ---- seats among the others

fits_set : (F : ℕ → Sight → Type 0) (views : List Sight) (by : ℕ) (w : Sight) → F by w → ((j : ℕ) (u : Sight) → j ≢ by → get_elem? views j ≡ some u → F j u) → (j : ℕ) (u : Sight) → get_elem? (set views by w) j ≡ some u → F j u
fits_set F views by w mine others j u e =
    ⊎_elim
    (λ (x : (j ≡ by) × (w ≡ u)). subst (λ (y : ℕ × Sight). F y.0 y.1) (λ i. (sym x.0 i, x.1 i)) mine)
    (λ (x : (j ≢ by) × (get_elem? views j ≡ some u)). others j u x.0 x.1)
    (at_set views by j w u e)

off : {A : Type 0} → false ≡ true → A
off e = absurd (true≢false (sym e))

pub begins : (h n : ℕ) → Keeps (opening (h ∷ n ∷ []) [] (publishing (opened h n)))
begins h n = record { pass = 0; published = opened h n; words = refl; height = Contains-push [] h; delivered = Contains-push [] n; fits = one }
  where
    one : (id : ℕ) (v : Sight) → get_elem? (publishing (opened h n) ∷ []) id ≡ some v → Fits 0 (opened h n) id v
    one zero v e = subst (Fits 0 (opened h n) 0) (some-injective _ _ e) ((λ _. (refl, refl)), of_itself (opened h n), of_none (opened h n))
    one (suc id) v e = absurd (some-ne-none v (sym e))

first_is : (l : List ℕ) (h n : ℕ) → l ≡ h ∷ n ∷ [] → slice_index l 0 ≡ h
first_is l h n e = ap (λ x. slice_index x 0) e

second_is : (l : List ℕ) (h n : ℕ) → l ≡ h ∷ n ∷ [] → slice_index l 1 ≡ n
second_is l h n e = ap (λ x. slice_index x 1) e

same_first : (l : List ℕ) (h n : ℕ) → l ≡ h ∷ n ∷ [] → slice_set l 0 (slice_index l 0) ≡ h ∷ n ∷ []
same_first l h n e = ap (λ x. slice_set x 0 (slice_index x 0)) e

same_second : (l : List ℕ) (h n : ℕ) → l ≡ h ∷ n ∷ [] → slice_set l 1 (slice_index l 1) ≡ h ∷ n ∷ []
same_second l h n e = ap (λ x. slice_set x 1 (slice_index x 1)) e

-- ---- stores

stores_height : (slots id h : ℕ) (v : Sight) → v.publishes ≡ true → v.own.height ≤ h → Allows Keeps slots id (v, []) 0 (λ _. h) (λ _. StoredHeight (step slots 0 h 0 none) (v, []) h)
stores_height slots id h v may more s r _ at _ =
    let mine = r.fits id v at in
    let known = mine.0 may in
    let p = r.published in
    let above : p.height ≤ h = subst (λ (q : Seen). q.height ≤ h) known.1 more in
    let q = with_height p h in
    let w = with_own v (with_height v.own h) in (
      w,
      keeps,
      tt,
      record {
        pass = r.pass;
        published = q;
        words = ap (λ l. slice_set l 0 h) r.words;
        height = Contains-push p.heights h;
        delivered = r.delivered;
        fits = fits_set (Fits r.pass q) s.views id w
            ((λ _. (known.0, ap (λ o. with_height o h) known.1)), subst (λ o. IsOf q (with_height o h)) (sym known.1) (of_itself q), of_higher p v.shown h above mine.2)
            (λ j u other e. let theirs = r.fits j u e in ((λ yes. absurd (other ((theirs.0 yes).0 ∙ sym known.0))), of_higher p u.own h above theirs.1, of_higher p u.shown h above theirs.2));
      },
      refl,
    )

stores_delivered : (slots id n : ℕ) (v : Sight) → v.publishes ≡ true → v.own.delivered ≤ n → Allows Keeps slots id (v, []) 1 (λ _. n) (λ _. StoredDelivered (step slots 1 n 0 none) (v, []) n)
stores_delivered slots id n v may more s r _ at _ =
    let mine = r.fits id v at in
    let known = mine.0 may in
    let p = r.published in
    let above : p.delivered ≤ n = subst (λ (q : Seen). q.delivered ≤ n) known.1 more in
    let q = with_delivered p n in
    let w = with_own v (with_delivered v.own n) in (
      w,
      keeps,
      tt,
      record {
        pass = r.pass;
        published = q;
        words = ap (λ l. slice_set l 1 n) r.words;
        height = r.height;
        delivered = Contains-push p.counts n;
        fits = fits_set (Fits r.pass q) s.views id w
            ((λ _. (known.0, ap (λ o. with_delivered o n) known.1)), subst (λ o. IsOf q (with_delivered o n)) (sym known.1) (of_itself q), of_further p v.shown n above mine.2)
            (λ j u other e. let theirs = r.fits j u e in ((λ yes. absurd (other ((theirs.0 yes).0 ∙ sym known.0))), of_further p u.own n above theirs.1, of_further p u.shown n above theirs.2));
      },
      refl,
    )

-- ---- loads

loads_height : (slots id : ℕ) (v : Sight) → v.publishes ≡ false → Allows Keeps slots id (v, []) 0 (λ n. n) (LoadedHeight (step slots 0 0 0 none) (v, []))
loads_height slots id v plain s r _ at _ =
    let mine = r.fits id v at in
    let p = r.published in
    let found = slice_index s.words 0 in
    let is : found ≡ p.height = first_is s.words p.height p.delivered r.words in
    let w = with_own v (with_height v.own found) in (
      w,
      keeps,
      tt,
      record {
        pass = r.pass;
        published = p;
        words = same_first s.words p.height p.delivered r.words;
        height = r.height;
        delivered = r.delivered;
        fits = fits_set (Fits r.pass p) s.views id w
            ((λ yes. off (sym plain ∙ yes)), sees_height p v.own found is r.height mine.1, mine.2)
            (λ j u other e. r.fits j u e);
      },
      (refl, omega (arith, is, mine.1.0.0)),
    )

loads_delivered : (slots id : ℕ) (v : Sight) → v.publishes ≡ false → Allows Keeps slots id (v, []) 1 (λ n. n) (LoadedDelivered (step slots 1 0 0 none) (v, []))
loads_delivered slots id v plain s r _ at _ =
    let mine = r.fits id v at in
    let p = r.published in
    let found = slice_index s.words 1 in
    let is : found ≡ p.delivered = second_is s.words p.height p.delivered r.words in
    let w = with_own v (with_delivered v.own found) in (
      w,
      keeps,
      tt,
      record {
        pass = r.pass;
        published = p;
        words = same_second s.words p.height p.delivered r.words;
        height = r.height;
        delivered = r.delivered;
        fits = fits_set (Fits r.pass p) s.views id w
            ((λ yes. off (sym plain ∙ yes)), sees_delivered p v.own found is r.delivered mine.1, mine.2)
            (λ j u other e. r.fits j u e);
      },
      (refl, omega (arith, is, mine.1.0.1)),
    )

checks_height : (slots id : ℕ) (v : Sight) → v.publishes ≡ true → Allows Keeps slots id (v, []) 0 (λ n. n) (CheckedHeight (step slots 0 0 0 none) (v, []))
checks_height slots id v may s r _ at _ =
    let mine = r.fits id v at in
    let known = mine.0 may in
    let p = r.published in
    let found = slice_index s.words 0 in
    let is : found ≡ p.height = first_is s.words p.height p.delivered r.words in (
      v,
      keeps,
      tt,
      record {
        pass = r.pass;
        published = p;
        words = same_first s.words p.height p.delivered r.words;
        height = r.height;
        delivered = r.delivered;
        fits = fits_set (Fits r.pass p) s.views id v mine (λ j u other e. r.fits j u e);
      },
      (refl, is ∙ ap (λ (q : Seen). q.height) (sym known.1), omega (arith, is, mine.2.0.0), subst (λ (q : Seen). AllIn v.shown.heights q.heights) (sym known.1) mine.2.1),
    )

checks_delivered : (slots id : ℕ) (v : Sight) → v.publishes ≡ true → Allows Keeps slots id (v, []) 1 (λ n. n) (CheckedDelivered (step slots 1 0 0 none) (v, []))
checks_delivered slots id v may s r _ at _ =
    let mine = r.fits id v at in
    let known = mine.0 may in
    let p = r.published in
    let found = slice_index s.words 1 in
    let is : found ≡ p.delivered = second_is s.words p.height p.delivered r.words in (
      v,
      keeps,
      tt,
      record {
        pass = r.pass;
        published = p;
        words = same_second s.words p.height p.delivered r.words;
        height = r.height;
        delivered = r.delivered;
        fits = fits_set (Fits r.pass p) s.views id v mine (λ j u other e. r.fits j u e);
      },
      (refl, is ∙ ap (λ (q : Seen). q.delivered) (sym known.1), omega (arith, is, mine.2.0.1), subst (λ (q : Seen). AllIn v.shown.counts q.counts) (sym known.1) mine.2.2),
    )

-- ---- notes

-- a seat is split off with what it may have seen
splits : (id : ℕ) (v : Sight) (own : Seen) → ((p : Seen) → IsOf p v.own → IsOf p own) → Splits Keeps id v v (sitting own)
splits id v own may s r at =
    let mine = r.fits id v at in
    let p = r.published in
    record {
      pass = r.pass;
      published = p;
      words = r.words;
      height = r.height;
      delivered = r.delivered;
      fits = λ j u e. ⊎_elim
          (λ x. fits_set (Fits r.pass p) s.views id v mine (λ i y _ e'. r.fits i y e') j u x)
          (λ (eq : sitting own ≡ u). subst (Fits r.pass p j) eq ((λ yes. off yes), may p mine.1, of_none p))
          (at_snoc (set s.views id v) (sitting own) u j e);
    }

pub notes : (id : ℕ) (v : Sight) → Splits Keeps id v v (sitting v.own)
notes id v = splits id v v.own (λ p o. o)

pub blanks : (id : ℕ) (v : Sight) → Splits Keeps id v v (sitting unseen)
blanks id v = splits id v unseen (λ p _. of_none p)

joined : (id : ℕ) (v : Sight) (other : ℕ) (w both : Sight) (pass : ℕ) (p : Seen) (views : List Sight)
    → ((j : ℕ) (u : Sight) → get_elem? views j ≡ some u → Fits pass p j u) → Fits pass p id both
    → (j : ℕ) (u : Sight) → get_elem? (set (set views id both) other (sitting unseen)) j ≡ some u → Fits pass p j u
joined id v other w both pass p views fits mine =
    fits_set (Fits pass p) (set views id both) other (sitting unseen) ((λ yes. off yes), of_none p, of_none p)
    (λ j u _ e. fits_set (Fits pass p) views id both mine (λ i y _ e'. fits i y e') j u e)

-- what the other seat knew, before the first was set
there : (id other : ℕ) (both w : Sight) (views : List Sight) → other ≢ id → get_elem? (set views id both) other ≡ some w → get_elem? views other ≡ some w
there id other both w views apart e = ⊎_elim (λ (x : (other ≡ id) × (both ≡ w)). absurd (apart x.0)) (λ (x : (other ≢ id) × (get_elem? views other ≡ some w)). x.1) (at_set views id other both w e)

pub tells : (id : ℕ) (v : Sight) (other : ℕ) (w : Sight) → v.publishes ≡ false → Joins Keeps id v other w (told v w) (sitting unseen)
tells id v other w plain s r at apart at' =
    let mine = r.fits id v at in
    let p = r.published in
    let theirs = r.fits other w (there id other (told v w) w s.views apart at') in
    record {
      pass = r.pass;
      published = p;
      words = r.words;
      height = r.height;
      delivered = r.delivered;
      fits = joined id v other w (told v w) r.pass p s.views r.fits
          ((λ yes. off (sym plain ∙ yes)), of_greater p v.own w.own mine.1 theirs.1, mine.2);
    }

pub shows : (id : ℕ) (v : Sight) (other : ℕ) (w : Sight) → Joins Keeps id v other w (shown v w) (sitting unseen)
shows id v other w s r at apart at' =
    let mine = r.fits id v at in
    let p = r.published in
    let theirs = r.fits other w (there id other (shown v w) w s.views apart at') in
    record {
      pass = r.pass;
      published = p;
      words = r.words;
      height = r.height;
      delivered = r.delivered;
      fits = joined id v other w (shown v w) r.pass p s.views r.fits (mine.0, mine.1, theirs.1);
    }

-- ---- the same at a seat that holds no slot

pub stores_height_at : (slots id h : ℕ) (me : Knower) → me.1 ≡ [] → me.0.publishes ≡ true → me.0.own.height ≤ h → Allows Keeps slots id me 0 (λ _. h) (λ _. StoredHeight (step slots 0 h 0 none) me h)
stores_height_at slots id h me e may more = subst (λ l. Allows Keeps slots id (me.0, l) 0 (λ _. h) (λ _. StoredHeight (step slots 0 h 0 none) (me.0, l) h)) (sym e) (stores_height slots id h me.0 may more)

pub stores_delivered_at : (slots id n : ℕ) (me : Knower) → me.1 ≡ [] → me.0.publishes ≡ true → me.0.own.delivered ≤ n → Allows Keeps slots id me 1 (λ _. n) (λ _. StoredDelivered (step slots 1 n 0 none) me n)
stores_delivered_at slots id n me e may more = subst (λ l. Allows Keeps slots id (me.0, l) 1 (λ _. n) (λ _. StoredDelivered (step slots 1 n 0 none) (me.0, l) n)) (sym e) (stores_delivered slots id n me.0 may more)

pub loads_height_at : (slots id : ℕ) (me : Knower) → me.1 ≡ [] → me.0.publishes ≡ false → Allows Keeps slots id me 0 (λ n. n) (LoadedHeight (step slots 0 0 0 none) me)
loads_height_at slots id me e plain = subst (λ l. Allows Keeps slots id (me.0, l) 0 (λ n. n) (LoadedHeight (step slots 0 0 0 none) (me.0, l))) (sym e) (loads_height slots id me.0 plain)

pub loads_delivered_at : (slots id : ℕ) (me : Knower) → me.1 ≡ [] → me.0.publishes ≡ false → Allows Keeps slots id me 1 (λ n. n) (LoadedDelivered (step slots 1 0 0 none) me)
loads_delivered_at slots id me e plain = subst (λ l. Allows Keeps slots id (me.0, l) 1 (λ n. n) (LoadedDelivered (step slots 1 0 0 none) (me.0, l))) (sym e) (loads_delivered slots id me.0 plain)

pub checks_height_at : (slots id : ℕ) (me : Knower) → me.1 ≡ [] → me.0.publishes ≡ true → Allows Keeps slots id me 0 (λ n. n) (CheckedHeight (step slots 0 0 0 none) me)
checks_height_at slots id me e may = subst (λ l. Allows Keeps slots id (me.0, l) 0 (λ n. n) (CheckedHeight (step slots 0 0 0 none) (me.0, l))) (sym e) (checks_height slots id me.0 may)

pub checks_delivered_at : (slots id : ℕ) (me : Knower) → me.1 ≡ [] → me.0.publishes ≡ true → Allows Keeps slots id me 1 (λ n. n) (CheckedDelivered (step slots 1 0 0 none) me)
checks_delivered_at slots id me e may = subst (λ l. Allows Keeps slots id (me.0, l) 1 (λ n. n) (CheckedDelivered (step slots 1 0 0 none) (me.0, l))) (sym e) (checks_delivered slots id me.0 may)

-- ---- a seat beside the publishing pass

-- the pass before and after a note of s was shown to it, and after its first load
pub beside : (v w x note : Sight) (s : Seen) → note ≡ sitting s → w ≡ shown v note → x ≡ w
    → (w.shown.height ≤ w.own.height) × AllIn w.shown.heights w.own.heights → (x.shown.delivered ≤ x.own.delivered) × AllIn x.shown.counts x.own.counts → IsOf v.own s
beside v w x note s is was same h d =
    let e : w ≡ sight v.publishes v.own s = was ∙ ap (λ (u : Sight). shown v u) is in
    let a = subst (λ (u : Sight). (u.shown.height ≤ u.own.height) × AllIn u.shown.heights u.own.heights) e h in
    let b = subst (λ (u : Sight). (u.shown.delivered ≤ u.own.delivered) × AllIn u.shown.counts u.own.counts) (same ∙ e) d in
    ((a.0, b.0), a.1, b.1)
