-- Frames in front of bytes, and what any calls of a reader give.
use Rattle.std.proofs.Common.{◌≡◌, ◌⊎◌, ℕ, ◌+◌, ◌<◌, ◌≤◌, Bool, List, [], ◌∷◌, ◌++◌, length, take, drop, Option, Some, None, Result, Ok, Err, refl, sym, ap, subst, ◌∙◌, append_assoc, arith, inl, inr, length-append, length-drop}
use Rattle.std.specs.Prelude.{IsOk, All}
use Rattle.std.specs.List.{flat_map}
use Rattle.std.proofs.lemmas.Bool.{cases_lt, lt-ltb, le-ltb, le-leb, lt-leb, eq-eqb, ne_eqb}
use Rattle.std.proofs.lemmas.List.{get_or_append_left, take_at, drop_at, append-nil}
use Rattle.std.proofs.lemmas.List.Elements.{All-nil, All-cons, All-head, All-tail}
use Rattle.byteorder.specs.Endian.{big_number}
use Rattle.transactions.specs.declared.fault.Fault.{Fault}
use Rattle.transactions.specs.declared.fault.Fault.TheVariants.{Truncated, TooLong, BadSpelling}
use Rattle.transactions.specs.Fields.{limited, whole}
use Rattle.messages.specs.Framing.{content_of}
use Rattle.messages.specs.Pieces.{Held, nothing, IsFrame, Call, Fed, NotFed, Asked, Happened, bytes_fed, frames_given, PiecesLaw, HasNoFrame, DryLaw, CutLaw, EachRefused, RefusedLaw, OneAnswerLaw}

-- ---- the length in front

abbrev len_of : List ℕ → ℕ
len_of bytes = big_number 4 bytes

len_of-append : (xs ys : List ℕ) → 4 ≤ length xs → len_of (xs ++ ys) ≡ len_of xs
len_of-append xs ys h =
    simp (get_or_append_left xs ys 0 0 (omega (arith, h)), get_or_append_left xs ys 0 1 (omega (arith, h)), get_or_append_left xs ys 0 2 (omega (arith, h)), get_or_append_left xs ys 0 3 (omega (arith, h)))

-- ---- each way in which bytes may begin

is_short : (bytes : List ℕ) → length bytes < 4 → content_of bytes ≡ Err Truncated
unfolding content_of limited
is_short bytes h = rw (lt-ltb (length bytes) 4 h) refl

is_too_long : (bytes : List ℕ) → 4 ≤ length bytes → 1048576 < len_of bytes → content_of bytes ≡ Err TooLong
unfolding content_of limited
is_too_long bytes h long = rw (le-ltb (length bytes) 4 h, lt-leb (len_of bytes) 1048576 long) refl

is_cut : (bytes : List ℕ) → 4 ≤ length bytes → len_of bytes ≤ 1048576 → length bytes < 4 + len_of bytes → content_of bytes ≡ Err Truncated
unfolding content_of limited whole
is_cut bytes h fits cut = rw (le-ltb (length bytes) 4 h, le-leb (len_of bytes) 1048576 fits, lt-ltb (length (drop 4 bytes)) (len_of bytes) (omega (arith, length-drop 4 bytes, cut, h))) refl

is_more : (bytes : List ℕ) → 4 ≤ length bytes → len_of bytes ≤ 1048576 → 4 + len_of bytes < length bytes → content_of bytes ≡ Err BadSpelling
unfolding content_of limited whole
is_more bytes h fits more =
    let left : length (drop (len_of bytes) (drop 4 bytes)) ≡ 0 → ⊥ = λ e. omega (arith, length-drop 4 bytes, length-drop (len_of bytes) (drop 4 bytes), more, e) in
    rw (le-ltb (length bytes) 4 h, le-leb (len_of bytes) 1048576 fits, le-ltb (length (drop 4 bytes)) (len_of bytes) (omega (arith, length-drop 4 bytes, more)), ne_eqb (length (drop (len_of bytes) (drop 4 bytes))) 0 left) refl

-- how a frame begins
record Sized (frame : List ℕ) : Type 0 where
  head : 4 ≤ length frame
  fits : len_of frame ≤ 1048576
  same : length frame ≡ 4 + len_of frame

not_ok : {A : Type 0} (r : Result A Fault) (fault : Fault) → r ≡ Err fault → IsOk r → ⊥
not_ok r fault e h = cc

sized : (frame : List ℕ) → IsFrame frame → Sized frame
sized frame h = at_head (cases_lt (length frame) 4) where
  at_len : 4 ≤ length frame → len_of frame ≤ 1048576 → (length frame < 4 + len_of frame) ⊎ (4 + len_of frame ≤ length frame) → (4 + len_of frame < length frame) ⊎ (length frame ≤ 4 + len_of frame) → Sized frame
  at_len head fits (inl cut) more = absurd (not_ok (content_of frame) Truncated (is_cut frame head fits cut) h)
  at_len head fits (inr all) (inl more) = absurd (not_ok (content_of frame) BadSpelling (is_more frame head fits more) h)
  at_len head fits (inr all) (inr only) = record { head = head; fits = fits; same = omega (arith, all, only) }

  at_limit : 4 ≤ length frame → (1048576 < len_of frame) ⊎ (len_of frame ≤ 1048576) → Sized frame
  at_limit head (inl long) = absurd (not_ok (content_of frame) TooLong (is_too_long frame head long) h)
  at_limit head (inr fits) = at_len head fits (cases_lt (length frame) (4 + len_of frame)) (cases_lt (4 + len_of frame) (length frame))

  at_head : (length frame < 4) ⊎ (4 ≤ length frame) → Sized frame
  at_head (inl short) = absurd (not_ok (content_of frame) Truncated (is_short frame short) h)
  at_head (inr head) = at_limit head (cases_lt 1048576 (len_of frame))

-- what stands behind a frame is not looked at
pub begins : (frame after : List ℕ) → IsFrame frame → (4 ≤ length (frame ++ after)) × (len_of (frame ++ after) ≤ 1048576) × (4 + len_of (frame ++ after) ≤ length (frame ++ after))
begins frame after h =
    let s = sized frame h in
    let len = len_of-append frame after s.head in
    (omega (arith, length-append frame after, s.head), omega (arith, len, s.fits), omega (arith, length-append frame after, len, s.same))

-- ---- what can't be said where a frame stands in front

is_whole : (bytes : List ℕ) → 4 ≤ length bytes → len_of bytes ≤ 1048576 → length bytes ≡ 4 + len_of bytes → IsFrame bytes
unfolding content_of limited whole
is_whole bytes h fits same =
    let none : length (drop (len_of bytes) (drop 4 bytes)) ≡ 0 = omega (arith, length-drop 4 bytes, length-drop (len_of bytes) (drop 4 bytes), same) in
    rw (le-ltb (length bytes) 4 h, le-leb (len_of bytes) 1048576 fits, le-ltb (length (drop 4 bytes)) (len_of bytes) (omega (arith, length-drop 4 bytes, same)), eq-eqb (length (drop (len_of bytes) (drop 4 bytes))) 0 none) refl

in_front : (frame after : List ℕ) → IsFrame frame → IsFrame (frame ++ after) ⊎ (content_of (frame ++ after) ≡ Err BadSpelling)
in_front frame after h = at_end (cases_lt (4 + len_of (frame ++ after)) (length (frame ++ after))) where
  at_end : (4 + len_of (frame ++ after) < length (frame ++ after)) ⊎ (length (frame ++ after) ≤ 4 + len_of (frame ++ after)) → IsFrame (frame ++ after) ⊎ (content_of (frame ++ after) ≡ Err BadSpelling)
  at_end (inl more) = let b = begins frame after h in inr (is_more (frame ++ after) b.0 b.1 more)
  at_end (inr only) = let b = begins frame after h in inl (is_whole (frame ++ after) b.0 b.1 (omega (arith, b.2, only)))

other_fault : (r : Result (List ℕ) Fault) → r ≡ Err BadSpelling → r ≡ Err Truncated → ⊥
other_fault r a b = cc

another_fault : (r : Result (List ℕ) Fault) → r ≡ Err BadSpelling → r ≡ Err TooLong → ⊥
another_fault r a b = cc

neither : (r : Result (List ℕ) Fault) → r ≡ Err Truncated → r ≡ Err TooLong → ⊥
neither r a b = cc

cut_has_none : (bytes : List ℕ) → content_of bytes ≡ Err Truncated → HasNoFrame bytes
cut_has_none bytes cut = λ frame after h e. told frame after (ap content_of (sym e) ∙ cut) (in_front frame after h) where
  told : (frame after : List ℕ) → content_of (frame ++ after) ≡ Err Truncated → IsFrame (frame ++ after) ⊎ (content_of (frame ++ after) ≡ Err BadSpelling) → ⊥
  told frame after is (inl ok) = not_ok (content_of (frame ++ after)) Truncated is ok
  told frame after is (inr bad) = other_fault (content_of (frame ++ after)) bad is

long_has_none : (bytes : List ℕ) → content_of bytes ≡ Err TooLong → HasNoFrame bytes
long_has_none bytes long = λ frame after h e. told frame after (ap content_of (sym e) ∙ long) (in_front frame after h) where
  told : (frame after : List ℕ) → content_of (frame ++ after) ≡ Err TooLong → IsFrame (frame ++ after) ⊎ (content_of (frame ++ after) ≡ Err BadSpelling) → ⊥
  told frame after is (inl ok) = not_ok (content_of (frame ++ after)) TooLong is ok
  told frame after is (inr bad) = another_fault (content_of (frame ++ after)) bad is

-- a length above the limit stays one, whatever follows
long_on : (bytes more : List ℕ) → content_of bytes ≡ Err TooLong → content_of (bytes ++ more) ≡ Err TooLong
long_on bytes more e = at_head (cases_lt (length bytes) 4) where
  at_len : 4 ≤ length bytes → len_of bytes ≤ 1048576 → (length bytes < 4 + len_of bytes) ⊎ (4 + len_of bytes ≤ length bytes) → (4 + len_of bytes < length bytes) ⊎ (length bytes ≤ 4 + len_of bytes) → ⊥
  at_len head fits (inl cut) rest = neither (content_of bytes) (is_cut bytes head fits cut) e
  at_len head fits (inr all) (inl over) = another_fault (content_of bytes) (is_more bytes head fits over) e
  at_len head fits (inr all) (inr only) = not_ok (content_of bytes) TooLong e (is_whole bytes head fits (omega (arith, all, only)))

  at_limit : 4 ≤ length bytes → (1048576 < len_of bytes) ⊎ (len_of bytes ≤ 1048576) → content_of (bytes ++ more) ≡ Err TooLong
  at_limit head (inl long) = is_too_long (bytes ++ more) (omega (arith, length-append bytes more, head)) (omega (arith, len_of-append bytes more head, long))
  at_limit head (inr fits) = absurd (at_len head fits (cases_lt (length bytes) (4 + len_of bytes)) (cases_lt (4 + len_of bytes) (length bytes)))

  at_head : (length bytes < 4) ⊎ (4 ≤ length bytes) → content_of (bytes ++ more) ≡ Err TooLong
  at_head (inl short) = absurd (neither (content_of bytes) (is_short bytes short) e)
  at_head (inr head) = at_limit head (cases_lt 1048576 (len_of bytes))

-- the frame in front is one
same_front : (f g x y : List ℕ) → IsFrame f → IsFrame g → f ++ x ≡ g ++ y → (f ≡ g) × (x ≡ y)
same_front f g x y hf hg e =
    let a = sized f hf in
    let b = sized g hg in
    let len : len_of f ≡ len_of g = sym (len_of-append f x a.head) ∙ ap len_of e ∙ len_of-append g y b.head in
    let same : length g ≡ length f = omega (arith, len, a.same, b.same) in
    let front : f ≡ g = sym (take_at f x (length f) refl) ∙ ap (take (length f)) e ∙ take_at g y (length f) same in
    (front, sym (drop_at f x (length f) refl) ∙ ap (drop (length f)) e ∙ drop_at g y (length f) same)

-- ---- over many calls

abbrev joined : List (List ℕ) → List ℕ
joined frames = flat_map (λ frame. frame) frames

regrouped : (frame flat rest old next fed : List ℕ) → old ≡ frame ++ next → flat ++ rest ≡ next ++ fed → (frame ++ flat) ++ rest ≡ old ++ fed
regrouped frame flat rest old next fed is ih = append_assoc frame flat rest ∙ ap (λ (t : List ℕ). frame ++ t) ih ∙ sym (append_assoc frame next fed) ∙ ap (λ (t : List ℕ). t ++ fed) (sym is)

keeps : (calls : List Call) (old new : Held) → Happened old calls new → All IsFrame (frames_given calls) × (joined (frames_given calls) ++ new.rest ≡ old.rest ++ bytes_fed calls)
keeps [] old new e = (All-nil IsFrame, ap (λ (h : Held). h.rest) e ∙ sym (append-nil old.rest))
keeps (Fed piece ∷ calls) old new h =
    let ih = keeps calls h.0 new h.2 in
    (ih.0, ih.1 ∙ ap (λ (held : Held). held.rest ++ bytes_fed calls) h.1 ∙ append_assoc old.rest piece (bytes_fed calls))
keeps (NotFed piece ∷ calls) old new h =
    let ih = keeps calls h.0 new h.2 in
    (ih.0, ih.1 ∙ ap (λ (held : Held). held.rest ++ bytes_fed calls) h.1)
keeps (Asked (Ok (Some frame)) ∷ calls) old new h =
    let ih = keeps calls h.0 new h.2 in
    (All-cons IsFrame frame (frames_given calls) h.1.0 ih.0, regrouped frame (joined (frames_given calls)) new.rest old.rest h.0.rest (bytes_fed calls) (ap (λ (held : Held). held.rest) h.1.1) ih.1)
keeps (Asked (Ok None) ∷ calls) old new h =
    let ih = keeps calls h.0 new h.2 in
    (ih.0, ih.1 ∙ ap (λ (held : Held). held.rest ++ bytes_fed calls) h.1.1)
keeps (Asked (Err fault) ∷ calls) old new h =
    let ih = keeps calls h.0 new h.2 in
    (ih.0, ih.1 ∙ ap (λ (held : Held). held.rest ++ bytes_fed calls) h.1.2)

pub pieces_hold : PiecesLaw
pieces_hold calls held h = keeps calls nothing held h

-- bytes are frames, and a rest that has none in front, in one way
one_way : (fs gs : List (List ℕ)) (x y : List ℕ) → All IsFrame fs → All IsFrame gs → HasNoFrame x → HasNoFrame y → joined fs ++ x ≡ joined gs ++ y → (fs ≡ gs) × (x ≡ y)
one_way [] [] x y hf hg nx ny e = (refl, e)
one_way [] (g ∷ gs) x y hf hg nx ny e = absurd (nx g (joined gs ++ y) (All-head IsFrame g gs hg) (e ∙ append_assoc g (joined gs) y))
one_way (f ∷ fs) [] x y hf hg nx ny e = absurd (ny f (joined fs ++ x) (All-head IsFrame f fs hf) (sym e ∙ append_assoc f (joined fs) x))
one_way (f ∷ fs) (g ∷ gs) x y hf hg nx ny e =
    let s = same_front f g (joined fs ++ x) (joined gs ++ y) (All-head IsFrame f fs hf) (All-head IsFrame g gs hg) (sym (append_assoc f (joined fs) x) ∙ e ∙ append_assoc g (joined gs) y) in
    let ih = one_way fs gs x y (All-tail IsFrame f fs hf) (All-tail IsFrame g gs hg) nx ny s.1 in
    (ap (λ (frame : List ℕ). frame ∷ fs) s.0 ∙ ap (λ (frames : List (List ℕ)). g ∷ frames) ih.0, ih.1)

pub cut_holds : CutLaw
cut_holds one other held held' h h' same none none' =
    let a = keeps one nothing held h in
    let b = keeps other nothing held' h' in
    one_way (frames_given one) (frames_given other) held.rest held'.rest a.0 b.0 none none' (a.1 ∙ same ∙ sym b.1)

pub dry_holds : DryLaw
dry_holds old new (Ok (Some frame)) h none = absurd cc
dry_holds old new (Ok None) h none = subst (λ (held : Held). HasNoFrame held.rest) (sym h.1) (cut_has_none old.rest h.0)
dry_holds old new (Err fault) h none = subst (λ (held : Held). HasNoFrame held.rest) (sym h.2) (long_has_none old.rest h.0)

refused_on : (calls : List Call) (old new : Held) → content_of old.rest ≡ Err TooLong → Happened old calls new → EachRefused calls
refused_on [] old new long h = tt
refused_on (Fed piece ∷ calls) old new long h = refused_on calls h.0 new (ap (λ (held : Held). content_of held.rest) h.1 ∙ long_on old.rest piece long) h.2
refused_on (NotFed piece ∷ calls) old new long h = refused_on calls h.0 new (ap (λ (held : Held). content_of held.rest) h.1 ∙ long) h.2
refused_on (Asked (Ok (Some frame)) ∷ calls) old new long h = absurd (long_has_none old.rest long frame h.0.rest h.1.0 (ap (λ (held : Held). held.rest) h.1.1))
refused_on (Asked (Ok None) ∷ calls) old new long h = absurd (neither (content_of old.rest) h.1.0 long)
refused_on (Asked (Err fault) ∷ calls) old new long h = (ap (λ (f : Fault). refusal f) h.1.1, refused_on calls h.0 new (ap (λ (held : Held). content_of held.rest) h.1.2 ∙ long) h.2) where
  refusal : Fault → Result (Option (List ℕ)) Fault
  refusal f = Err f

pub refused_holds : RefusedLaw
refused_holds calls old next new fault first h = refused_on calls next new (ap (λ (held : Held). content_of held.rest) first.2 ∙ first.0) h

-- ---- one answer

alike : (a b : Held) → a.rest ≡ b.rest → a.refused ≡ b.refused → a ≡ b
alike a b p q = ap (λ (rest : List ℕ). record a { rest = rest }) p ∙ ap (λ (refused : Bool). record b { refused = refused }) q

pub one_answer_holds : OneAnswerLaw
one_answer_holds old new new' (Ok (Some f)) (Ok (Some g)) h h' =
    let e = sym h.1 ∙ h'.1 in
    let s = same_front f g new.rest new'.rest h.0 h'.0 (ap (λ (held : Held). held.rest) e) in
    (ap (λ (frame : List ℕ). given frame) s.0, alike new new' s.1 (ap (λ (held : Held). held.refused) e)) where
      given : List ℕ → Result (Option (List ℕ)) Fault
      given frame = Ok (Some frame)
one_answer_holds old new new' (Ok (Some f)) (Ok None) h h' = absurd (cut_has_none old.rest h'.0 f new.rest h.0 (ap (λ (held : Held). held.rest) h.1))
one_answer_holds old new new' (Ok (Some f)) (Err e) h h' = absurd (long_has_none old.rest h'.0 f new.rest h.0 (ap (λ (held : Held). held.rest) h.1))
one_answer_holds old new new' (Ok None) (Ok (Some g)) h h' = absurd (cut_has_none old.rest h.0 g new'.rest h'.0 (ap (λ (held : Held). held.rest) h'.1))
one_answer_holds old new new' (Ok None) (Ok None) h h' = (refl, h.1 ∙ sym h'.1)
one_answer_holds old new new' (Ok None) (Err e) h h' = absurd (neither (content_of old.rest) h.0 h'.0)
one_answer_holds old new new' (Err e) (Ok (Some g)) h h' = absurd (long_has_none old.rest h.0 g new'.rest h'.0 (ap (λ (held : Held). held.rest) h'.1))
one_answer_holds old new new' (Err e) (Ok None) h h' = absurd (neither (content_of old.rest) h'.0 h.0)
one_answer_holds old new new' (Err e) (Err e') h h' = (ap (λ (f : Fault). refusal f) (h.1 ∙ sym h'.1), h.2 ∙ sym h'.2) where
  refusal : Fault → Result (Option (List ℕ)) Fault
  refusal f = Err f
