-- What opening keeps of a journal's records, and what that tells.
use Rattle.std.specs.Prelude.{◌==◌}
use Rattle.std.specs.Prelude.{All, nat_lt, slice_index_or}
use Rattle.std.proofs.Common.{◌≡◌, ℕ, zero, ◌<◌, ◌≤◌, ◌^◌, inl, inr, true, take, ltb-true, cond, suc, not, is_none, unwrap_or, List, [], ◌∷◌, ◌++◌, length, reverse, map, flat_map, refl, sym, ap, subst, ◌∙◌, arith, length-append, eqb-true}
use Rattle.std.proofs.lemmas.List.{append-nil, map-append, reverse-append, reverse-reverse, length-reverse, take-append-le, get_or_append_left, get_or-map, length-map}
use Rattle.std.proofs.lemmas.List.Elements.{All-append}
use Rattle.std.proofs.Math.Seq.{take-append_seam, get_or-append_seam}
use Rattle.std.proofs.lemmas.Bool.{and_parts, cases_eq}
use Rattle.std.proofs.lemmas.Grind.{flat_map-append}
use Rattle.protocol.specs.Values.{Item, items, valid}
use Rattle.protocol.specs.Messages.{◌∈◌, OfBundle, Bundle, Body, Record, Own, Decided, body_of, below}
use Rattle.protocol.specs.declared.types.Step.TheVariants.{Propose}
use Rattle.protocol.specs.State.{fresh}
use Rattle.protocol.specs.Records.{act_of, record_of}
use Rattle.protocol.specs.Restart.{delivered_of, height_of, last_place, lock_of, lock_by, own_since, proposals_in, votes_in, restart, opened}
use Rattle.protocol.specs.Tags.{Setting}
use Rattle.protocol.proofs.Membership.{each_pushed, map_in}
use Rattle.protocol.specs.Arrivals.{bundles_of}
use Rattle.protocol.specs.Effects.{bundles_in}
use Rattle.protocol.specs.declared.records.OwnMessage.{OwnMessage}
use Rattle.protocol.specs.declared.records.Record.TheVariants as records
use Rattle.vote_journal.specs.Grammar.{IsDecision, IsRecord}
use Rattle.vote_journal.specs.Order.{may_follow, AreLawful}
use Rattle.vote_journal.specs.Kept.{said, own_in, Keeps, journal_of, IsToldBy, AreReplayable, KeptLaw}
use Rattle.vote_journal.specs.Laws.{EachFollows, EachMade, IsLawful}
use Rattle.vote_journal.proofs.Following.{opened_lawful}
use Rattle.vote_journal.proofs.Layouts.{reverse_onto}

-- ---- a record more

pub newest : (rs : List Record) (r : Record) → reverse (rs ++ r ∷ []) ≡ r ∷ reverse rs
newest rs r = reverse-append rs (r ∷ [])

pub keeps_own : (rs : List Record) (m : OwnMessage) (decisions now_decisions : List Bundle) (own now_own : List OwnMessage) → now_decisions ≡ decisions → now_own ≡ own ++ m ∷ []
    → Keeps rs decisions own → Keeps (rs ++ record_of (records.Own m) ∷ []) now_decisions now_own
keeps_own rs m decisions now_decisions own now_own d o k = record {
  decided = d ∙ k.decided ∙ ap bundles_in (sym (newest rs (said m)));
  since = ap (map said) o ∙ map-append said own (m ∷ []) ∙ ap (λ (x : List Record). x ++ said m ∷ []) k.since ∙ ap own_in (sym (newest rs (said m)));
}

pub keeps_decision : (rs : List Record) (b : Bundle) (decisions now_decisions : List Bundle) (own now_own : List OwnMessage) → now_decisions ≡ decisions ++ b ∷ [] → now_own ≡ []
    → Keeps rs decisions own → Keeps (rs ++ record_of (records.Decided b) ∷ []) now_decisions now_own
keeps_decision rs b decisions now_decisions own now_own d o k = record {
  decided = d ∙ ap (λ (x : List Bundle). x ++ b ∷ []) k.decided ∙ ap bundles_in (sym (newest rs (Decided b)));
  since = ap (map said) o ∙ ap own_in (sym (newest rs (Decided b)));
}

-- ---- lists, from either end

map_reverse : {X Y : Type 0} (f : X → Y) (xs : List X) → map f (reverse xs) ≡ reverse (map f xs)
map_reverse f [] = refl
map_reverse f (x ∷ xs) = ap (map f) (reverse-append (x ∷ []) xs) ∙ map-append f (reverse xs) (x ∷ []) ∙ ap (λ ys. ys ++ f x ∷ []) (map_reverse f xs) ∙ sym (reverse-append (f x ∷ []) (map f xs))

abbrev items_of : Bundle → List Item
items_of b = items b.value

flat_push : (bs : List Bundle) (b : Bundle) → flat_map items_of (bs ++ b ∷ []) ≡ flat_map items_of bs ++ items_of b
flat_push bs b = flat_map-append items_of bs (b ∷ []) ∙ ap (λ x. flat_map items_of bs ++ x) (append-nil (items_of b))

more : {X : Type 0} (xs : List X) (x : X) → length (xs ++ x ∷ []) ≡ suc (length xs)
more xs x = omega (arith, length-append xs (x ∷ []))

-- ---- a journal, the newest record first, by its decisions and its own messages since the last

delivered_told : (j : List Record) → delivered_of j ≡ flat_map items_of (bundles_in j)
delivered_told [] = refl
delivered_told (Own h r act ∷ j) = delivered_told j
delivered_told (Decided b ∷ j) = ap (λ x. x ++ items_of b) (delivered_told j) ∙ sym (flat_push (bundles_in j) b)

pub height_told : (j : List Record) → height_of j ≡ length (bundles_in j)
height_told [] = refl
height_told (Own h r act ∷ j) = height_told j
height_told (Decided b ∷ j) = ap suc (height_told j) ∙ sym (more (bundles_in j) b)

place_told : (j : List Record) → last_place j ≡ last_place (reverse (own_in j))
place_told [] = refl
place_told (Own h r act ∷ j) = ap last_place (sym (newest (own_in j) (Own h r act)))
place_told (Decided b ∷ j) = refl

lock_told : (j : List Record) → lock_of j ≡ lock_of (reverse (own_in j))
lock_told [] = refl
lock_told (Own h r act ∷ j) = ap (lock_by r act) (lock_told j) ∙ ap lock_of (sym (newest (own_in j) (Own h r act)))
lock_told (Decided b ∷ j) = refl

own_told : (p : ℕ) (j : List Record) → own_since p j ≡ own_since p (reverse (own_in j))
own_told p [] = refl
own_told p (Own h r act ∷ j) = ap (λ x. x ++ body_of p h r act ∷ []) (own_told p j) ∙ ap (own_since p) (sym (newest (own_in j) (Own h r act)))
own_told p (Decided b ∷ j) = refl

asks_told : (height : ℕ) (j : List Record) → bundles_of height j ≡ bundles_of height (map Decided (reverse (bundles_in j)))
asks_told height [] = refl
asks_told height (Own h r act ∷ j) = asks_told height j
asks_told height (Decided b ∷ j) =
    (λ i. cond (b.height == height) (OfBundle b ∷ asks_told height j i) (asks_told height j i)) ∙ ap (λ (x : List Bundle). bundles_of height (map Decided x)) (sym (reverse-append (bundles_in j) (b ∷ [])))

-- ---- the journal of what is kept alone

abbrev joined : List OwnMessage → List Bundle → List Record
joined ms bs = map said ms ++ map Decided bs

joined_is : (decisions : List Bundle) (own : List OwnMessage) → journal_of decisions own ≡ joined (reverse own) (reverse decisions)
joined_is decisions own = λ i. sym (map_reverse said own) i ++ sym (map_reverse Decided decisions) i

decided_items : (bs : List Bundle) → delivered_of (map Decided bs) ≡ flat_map items_of (reverse bs)
decided_items [] = refl
decided_items (b ∷ bs) = ap (λ x. x ++ items_of b) (decided_items bs) ∙ sym (flat_push (reverse bs) b) ∙ ap (flat_map items_of) (sym (reverse-append (b ∷ []) bs))

joined_items : (ms : List OwnMessage) (bs : List Bundle) → delivered_of (joined ms bs) ≡ flat_map items_of (reverse bs)
joined_items [] bs = decided_items bs
joined_items (m ∷ ms) bs = joined_items ms bs

joined_height : (ms : List OwnMessage) (bs : List Bundle) → height_of (joined ms bs) ≡ length bs
joined_height [] [] = refl
joined_height [] (b ∷ bs) = ap suc (joined_height [] bs)
joined_height (m ∷ ms) bs = joined_height ms bs

joined_place : (ms : List OwnMessage) (bs : List Bundle) → last_place (joined ms bs) ≡ last_place (map said ms)
joined_place [] [] = refl
joined_place [] (b ∷ bs) = refl
joined_place (m ∷ ms) bs = refl

joined_lock : (ms : List OwnMessage) (bs : List Bundle) → lock_of (joined ms bs) ≡ lock_of (map said ms)
joined_lock [] [] = refl
joined_lock [] (b ∷ bs) = refl
joined_lock (m ∷ ms) bs = ap (lock_by m.round (act_of m.act)) (joined_lock ms bs)

joined_own : (p : ℕ) (ms : List OwnMessage) (bs : List Bundle) → own_since p (joined ms bs) ≡ own_since p (map said ms)
joined_own p [] [] = refl
joined_own p [] (b ∷ bs) = refl
joined_own p (m ∷ ms) bs = ap (λ x. x ++ body_of p m.height m.round (act_of m.act) ∷ []) (joined_own p ms bs)

abbrev body_by : ℕ → OwnMessage → Body
body_by p m = body_of p m.height m.round (act_of m.act)

own_bodies : (p : ℕ) (ms : List OwnMessage) → own_since p (map said ms) ≡ map (body_by p) (reverse ms)
own_bodies p [] = refl
own_bodies p (m ∷ ms) = ap (λ x. x ++ body_by p m ∷ []) (own_bodies p ms) ∙ sym (map-append (body_by p) (reverse ms) (m ∷ [])) ∙ ap (map (body_by p)) (sym (reverse-append (m ∷ []) ms))

-- ---- a restart looks at no more

restart_same : (me : ℕ) (a b : List Record) → delivered_of a ≡ delivered_of b → height_of a ≡ height_of b → last_place a ≡ last_place b → lock_of a ≡ lock_of b → own_since me a ≡ own_since me b → restart me a ≡ restart me b
unfolding restart
restart_same me a b delivered height place lock own = λ i. record (fresh (delivered i) (height i)) {
  begun = not (is_none (place i));
  round = (unwrap_or (place i) (0, Propose)).0;
  step = (unwrap_or (place i) (0, Propose)).1;
  lock = lock i;
  proposals = flat_map proposals_in (own i);
  votes = flat_map votes_in (own i);
}

pub told : (me : ℕ) (rs : List Record) (decisions : List Bundle) (own : List OwnMessage) → Keeps rs decisions own → IsToldBy me (reverse rs) decisions own
told me rs decisions own k =
    let j = reverse rs in
    let both = joined_is decisions own in
    let ms = reverse own in
    let bs = reverse decisions in
    let own_here : own_in j ≡ map said own = sym k.since in
    let said_here : reverse (map said own) ≡ map said ms = sym (map_reverse said own) in
    let delivered : delivered_of j ≡ flat_map items_of decisions = delivered_told j ∙ ap (flat_map items_of) (sym k.decided) in
    let height : height_of j ≡ length decisions = height_told j ∙ ap length (sym k.decided) in
    let place : last_place j ≡ last_place (reverse (map said own)) = place_told j ∙ ap (λ x. last_place (reverse x)) own_here in
    let lock : lock_of j ≡ lock_of (reverse (map said own)) = lock_told j ∙ ap (λ x. lock_of (reverse x)) own_here in
    let messages : own_since me j ≡ own_since me (reverse (map said own)) = own_told me j ∙ ap (λ x. own_since me (reverse x)) own_here in
    record {
      delivered = delivered;
      height = height;
      place = place;
      lock = lock;
      messages = messages ∙ ap (own_since me) said_here ∙ own_bodies me ms ∙ ap (map (body_by me)) (reverse-reverse own);
      state = restart_same me j (journal_of decisions own)
          (delivered ∙ ap (flat_map items_of) (sym (reverse-reverse decisions)) ∙ sym (joined_items ms bs) ∙ ap delivered_of (sym both))
          (height ∙ sym (length-reverse decisions) ∙ sym (joined_height ms bs) ∙ ap height_of (sym both))
          (place ∙ ap last_place said_here ∙ sym (joined_place ms bs) ∙ ap last_place (sym both))
          (lock ∙ ap lock_of said_here ∙ sym (joined_lock ms bs) ∙ ap lock_of (sym both))
          (messages ∙ ap (own_since me) said_here ∙ sym (joined_own me ms bs) ∙ ap (own_since me) (sym both));
      asks = λ height. asks_told height j ∙ ap (λ (x : List Bundle). bundles_of height (map Decided (reverse x))) (sym k.decided) ∙ ap (bundles_of height) (map_reverse Decided decisions);
    }

-- ---- where they stand

-- lawful records, the oldest first, each follow those before them
pub lawful_follows : (powers : List ℕ) (me : ℕ) (before rs : List Record) → AreLawful powers me before rs → EachFollows powers before → EachFollows powers (reverse rs ++ before)
lawful_follows powers me before [] l f = f
lawful_follows powers me before (r ∷ rs) l f = subst (EachFollows powers) (reverse_onto r rs before) (lawful_follows powers me (r ∷ before) rs l.2 (l.1, f))

made : (p : ℕ) (r : Record) (j : List Record) → IsRecord p r → EachMade p j → EachMade p (r ∷ j)
made p (Own h round act) j is m = m
made p (Decided b) j is m = (record { sender = is.sender; name = is.name; order = is.order }, m)

lawful_made : (powers : List ℕ) (me : ℕ) (before rs : List Record) → AreLawful powers me before rs → EachMade me before → EachMade me (reverse rs ++ before)
lawful_made powers me before [] l m = m
lawful_made powers me before (r ∷ rs) l m = subst (EachMade me) (reverse_onto r rs before) (lawful_made powers me (r ∷ before) rs l.2 (made me r before l.0 m))

-- so a node that is opened over them is lawful
pub lawful_opened : (c : Setting) (me : ℕ) (rs : List Record) → AreLawful c.powers me [] rs → IsLawful c me (opened me (reverse rs))
lawful_opened c me rs l = opened_lawful c me (reverse rs)
    (subst (EachFollows c.powers) (append-nil (reverse rs)) (lawful_follows c.powers me [] rs l tt))
    (subst (EachMade me) (append-nil (reverse rs)) (lawful_made c.powers me [] rs l tt))

heights_told : (powers : List ℕ) (j : List Record) → EachFollows powers j → map (λ (b : Bundle). b.height) (bundles_in j) ≡ below (length (bundles_in j))
unfolding may_follow below
heights_told powers [] f = refl
heights_told powers (Own h r act ∷ j) f = heights_told powers j f.1
heights_told powers (Decided b ∷ j) f =
    let here : b.height ≡ length (bundles_in j) = eqb-true _ _ (and_parts _ _ (and_parts _ _ (and_parts _ _ f.0).0).0).0 ∙ height_told j in
    map-append (λ (d : Bundle). d.height) (bundles_in j) (b ∷ []) ∙ (λ i. heights_told powers j f.1 i ++ here i ∷ []) ∙ ap below (sym (more (bundles_in j) b))

abbrev IsAt : ℕ → Record → Type 0
IsAt n (Own h r act) = h ≡ n
IsAt n (Decided b) = Unit {0}

own_at : (powers : List ℕ) (j : List Record) → EachFollows powers j → (x : Record) → x ∈ own_in j → IsAt (height_of j) x
unfolding may_follow
own_at powers [] f x k = absurd k
own_at powers (Own h r act ∷ j) f x k = each_pushed (IsAt (height_of j)) (own_in j) (Own h r act) (own_at powers j f.1) (eqb-true _ _ (and_parts _ _ f.0).0) x k
own_at powers (Decided b ∷ j) f x k = absurd k

-- ---- what a restart is made of them

abbrev EachSpelled : ℕ → List Record → Type 0
EachSpelled me [] = Unit {0}
EachSpelled me (r ∷ rest) = IsRecord me r × EachSpelled me rest

lawful_spelled : (powers : List ℕ) (me : ℕ) (before rs : List Record) → AreLawful powers me before rs → EachSpelled me before → EachSpelled me (reverse rs ++ before)
lawful_spelled powers me before [] l s = s
lawful_spelled powers me before (r ∷ rs) l s = subst (EachSpelled me) (reverse_onto r rs before) (lawful_spelled powers me (r ∷ before) rs l.2 (l.0, s))

all_one : {X : Type 0} (P : X → Type 0) (x : X) → P x → All P (x ∷ [])
all_one P x p zero d lt = p
all_one P x p (suc k) d lt = absurd (omega (arith, lt))

decisions_spelled : (me : ℕ) (j : List Record) → EachSpelled me j → All (IsDecision me) (bundles_in j)
decisions_spelled me [] s = λ k d lt. absurd (omega (arith, lt))
decisions_spelled me (Own h r act ∷ j) s = decisions_spelled me j s.1
decisions_spelled me (Decided b ∷ j) s = All-append (IsDecision me) (bundles_in j) (b ∷ []) (decisions_spelled me j s.1) (all_one (IsDecision me) b s.0)

own_spelled : (me : ℕ) (j : List Record) → EachSpelled me j → All (IsRecord me) (own_in j)
own_spelled me [] s = λ k d lt. absurd (omega (arith, lt))
own_spelled me (Own h r act ∷ j) s = All-append (IsRecord me) (own_in j) (Own h r act ∷ []) (own_spelled me j s.1) (all_one (IsRecord me) (Own h r act) s.0)
own_spelled me (Decided b ∷ j) s = λ k d lt. absurd (omega (arith, lt))

few_told : (powers : List ℕ) (j : List Record) → EachFollows powers j → height_of j ≤ 2 ^ 48
unfolding may_follow
few_told powers [] f = omega arith
few_told powers (Own h r act ∷ j) f = few_told powers j f.1
few_told powers (Decided b ∷ j) f =
    let here = and_parts (b.height == height_of j) (nat_lt b.height (2 ^ 48)) (and_parts _ _ (and_parts _ _ f.0).0).0 in
    let same : b.height ≡ height_of j = eqb-true _ _ here.0 in
    let less : b.height < 2 ^ 48 = ltb-true _ _ here.1 in
    omega (arith, same, less)

-- each is of a value that might be delivered behind those before it
abbrev AreNext : List Bundle → Type 0
AreNext bs = (i : ℕ) (d : Bundle) → i < length bs → valid (flat_map items_of (take i bs)) (slice_index_or bs i d).value ≡ true

next_pushed : (bs : List Bundle) (b : Bundle) → AreNext bs → valid (flat_map items_of bs) b.value ≡ true → AreNext (bs ++ b ∷ [])
next_pushed bs b next v i d lt = elim (cases_eq i (length bs)) [
  | inl e ↦ rw (e, take-append_seam bs (b ∷ []), get_or-append_seam bs b [] d) v
  | inr e ↦ (let less : i < length bs = omega (arith, lt, e, more bs b) in
      rw (take-append-le i bs (b ∷ []) (omega (arith, less)), get_or_append_left bs (b ∷ []) d i less) (next i d less))
]

next_told : (powers : List ℕ) (j : List Record) → EachFollows powers j → AreNext (bundles_in j)
unfolding may_follow
next_told powers [] f = λ i d lt. absurd (omega (arith, lt))
next_told powers (Own h r act ∷ j) f = next_told powers j f.1
next_told powers (Decided b ∷ j) f = next_pushed (bundles_in j) b (next_told powers j f.1) (subst (λ (d : List Item). valid d b.value ≡ true) (delivered_told j) (and_parts _ _ f.0).1)

pub replayable : (powers : List ℕ) (me : ℕ) (rs : List Record) (decisions : List Bundle) (own : List OwnMessage) → Keeps rs decisions own → AreLawful powers me [] rs → AreReplayable me decisions own
replayable powers me rs decisions own k l =
    let j = reverse rs in
    let decided : bundles_in j ≡ decisions = sym k.decided in
    let f : EachFollows powers j = subst (EachFollows powers) (append-nil j) (lawful_follows powers me [] rs l tt) in
    let s : EachSpelled me j = subst (EachSpelled me) (append-nil j) (lawful_spelled powers me [] rs l tt) in
    let height : height_of j ≡ length decisions = height_told j ∙ ap length decided in
    record {
      heights = subst (λ (x : List Bundle). map (λ (b : Bundle). b.height) x ≡ below (length x)) decided (heights_told powers j f);
      few = subst (λ n. n ≤ 2 ^ 48) height (few_told powers j f);
      spelled = subst (All (IsDecision me)) decided (decisions_spelled me j s);
      follow = subst AreNext decided (next_told powers j f);
      present = λ m i. own_at powers j f (said m) (subst (λ (x : List Record). said m ∈ x) k.since (map_in said m own i)) ∙ height;
      own_spelled = λ i m lt. subst (IsRecord me) (get_or-map said own i m (said m) lt) (subst (All (IsRecord me)) (sym k.since) (own_spelled me j s) i (said m) (omega (arith, lt, length-map own said)));
    }

pub kept_holds : KeptLaw
kept_holds me rs decisions own k = (told me rs decisions own k, λ powers l. replayable powers me rs decisions own k l)

-- ---- where nothing is kept

nothing_in : (j : List Record) → bundles_in j ≡ [] → own_in j ≡ [] → j ≡ []
nothing_in [] b o = refl
nothing_in (Own h r act ∷ j) b o = absurd (omega (arith, ap length o, more (own_in j) (Own h r act)))
nothing_in (Decided d ∷ j) b o = absurd (omega (arith, ap length b, more (bundles_in j) d))

pub keeps_nothing : (rs : List Record) (decisions : List Bundle) (own : List OwnMessage) → decisions ≡ [] → own ≡ [] → Keeps rs decisions own → rs ≡ []
keeps_nothing rs decisions own d o k = sym (reverse-reverse rs) ∙ ap reverse (nothing_in (reverse rs) (sym k.decided ∙ d) (sym k.since ∙ ap (map said) o))
