-- What is said is numbered and told.
use Rattle.std.proofs.Common.{◌≡◌, ℕ, suc, zero, ◌+◌, ◌<◌, ◌≤◌, inl, inr, Option, Some, None, List, [], ◌∷◌, ◌++◌, map, length, take, get_or, Ok, Err, OnOk, Result, refl, sym, ap, ap₂, ◌∙◌, subst, append_assoc, append-nil, arith, length-append}
use Rattle.std.specs.Prelude.{IfOk}
use Rattle.std.proofs.lemmas.List.{map-append, take_more, take_all}
use Rattle.messages.specs.Framing.{message_of}
use Rattle.protocol.specs.Tags.{Setting}
use Rattle.protocol.specs.Messages.{◌∈◌, Body, OfAsk, Message, tagged}
use Rattle.world_schedule.specs.Cores.{frame_in}
use Rattle.world_schedule.specs.Reports.{newly, released_from}
use Rattle.world_schedule.specs.Standings.{Holds, IsNumbered, Tells, Says, IsReadable}
use Rattle.world_schedule.specs.declared.numbering.Messages.{Messages}
use Rattle.world_schedule.specs.declared.chronicle.Chronicle.{Chronicle}
use Rattle.world_schedule.specs.declared.report.What.{What}
use Rattle.world_schedule.specs.declared.report.What.TheVariants.{Released}
use Rattle.world_schedule.proofs.Numbered.{newly_append, released_append}

-- ---- telling

pub tells_none : (who : Option ℕ) (old : Chronicle) → Tells who [] old old
tells_none who old = record { told = sym (append-nil old.told.items); event = refl; alloc = refl }

pub tells_both : (who : Option ℕ) (xs ys : List What) (old middle new : Chronicle) → Tells who xs old middle → Tells who ys middle new → Tells who (xs ++ ys) old new
tells_both who xs ys old middle new a b =
    let note : ℕ → What → _ = λ event what. record { event = event; validator = who; what = what } in record {
      told = b.told ∙ ap₂ (λ l e. l ++ map (note e) ys) a.told a.event ∙ append_assoc old.told.items (map (note old.event) xs) (map (note old.event) ys) ∙ ap (λ l. old.told.items ++ l) (sym (map-append (note old.event) xs ys));
      event = b.event ∙ a.event;
      alloc = b.alloc ∙ a.alloc;
    }

-- one thing more of a list
pub tells_more : {X : Type 0} (who : Option ℕ) (f : X → What) (xs : List X) (i : ℕ) (x : X) (old middle new : Chronicle) → i < length xs → x ≡ get_or xs i x → Tells who (map f (take i xs)) old middle → Tells who (f x ∷ []) middle new → Tells who (map f (take (i + 1) xs)) old new
tells_more who f xs i x old middle new l e a b = subst (λ t. Tells who t old new) (ap (λ y. map f (take i xs) ++ f y ∷ []) e ∙ sym (ap (map f) (take_more xs i x l) ∙ map-append f (take i xs) (get_or xs i x ∷ []))) (tells_both who (map f (take i xs)) (f x ∷ []) old middle new a b)

pub tells_all : {X : Type 0} (who : Option ℕ) (f : X → What) (xs : List X) (i : ℕ) (old new : Chronicle) → length xs ≤ i → Tells who (map f (take i xs)) old new → Tells who (map f xs) old new
tells_all who f xs i old new l a = subst (λ t. Tells who (map f t) old new) (take_all i xs l) a

-- ---- saying

pub says_none : (c : Setting) (numbered : List Body) (who : Option ℕ) (old : Chronicle) → Holds c numbered old.messages → Says c numbered who [] old old
says_none c numbered who old h = record { holds = subst (λ l. Holds c l old.messages) (sym (append-nil numbered)) h; tells = tells_none who old }

pub says_both : (c : Setting) (numbered : List Body) (who : Option ℕ) (xs ys : List Body) (old middle new : Chronicle) → Says c numbered who xs old middle
    → Says c (numbered ++ newly numbered xs) who ys middle new → Says c numbered who (xs ++ ys) old new
says_both c numbered who xs ys old middle new a b =
    let first : List Body = newly numbered xs in
    let later : List Body = newly (numbered ++ first) ys in
    let all : newly numbered (xs ++ ys) ≡ first ++ later = newly_append numbered xs ys in
    let release : released_from (length numbered) (first ++ later) ≡ released_from (length numbered) first ++ released_from (length (numbered ++ first)) later
    = released_append (length numbered) first later ∙ ap (λ k. released_from (length numbered) first ++ released_from k later) (sym (length-append numbered first)) in record {
      holds = subst (λ l. Holds c l new.messages) (append_assoc numbered first later ∙ ap (λ l. numbered ++ l) (sym all)) b.holds;
      tells = subst (λ l. Tells who l old new) (sym release ∙ ap (released_from (length numbered)) (sym all)) (tells_both who _ _ old middle new a.tells b.tells);
    }

-- ---- one message

pub says_known : (c : Setting) (numbered : List Body) (who : Option ℕ) (b : Body) (old : Chronicle) (messages : Messages) → IsNumbered c numbered b None messages → Says c numbered who (b ∷ []) old (record old { messages = messages })
says_known c numbered who b old messages k =
    let none : newly numbered (b ∷ []) ≡ [] = rw k.0 refl in record {
      holds = subst (λ l. Holds c l messages) (sym (append-nil numbered) ∙ ap (λ l. numbered ++ l) (sym none)) k.1;
      tells = subst (λ l. Tells who l old (record old { messages = messages })) (ap (released_from (length numbered)) (sym none)) (record { told = sym (append-nil old.told.items); event = refl; alloc = refl });
    }

pub says_new : (c : Setting) (numbered : List Body) (who : Option ℕ) (b : Body) (old new : Chronicle) (number : ℕ) (messages : Messages) → IsNumbered c numbered b (Some number) messages
    → Tells who (Released (record { number = number; body = b }) ∷ []) (record old { messages = messages }) new → new.messages ≡ messages → Says c numbered who (b ∷ []) old new
says_new c numbered who b old new number messages k t same =
    let one : newly numbered (b ∷ []) ≡ b ∷ [] = rw k.0 refl in record {
      holds = subst (λ m. Holds c (numbered ++ newly numbered (b ∷ [])) m) (sym same) (subst (λ l. Holds c (numbered ++ l) messages) (sym one) k.2);
      tells = subst (λ l. Tells who l old new) (ap (λ n. Released (record { number = n; body = b }) ∷ []) k.1 ∙ ap (released_from (length numbered)) (sym one)) (record { told = t.told; event = t.event; alloc = t.alloc });
    }

-- ---- a frame that was read

pub tagged_body : (c : Setting) (b : Body) → (tagged c b).body ≡ b
unfolding tagged
tagged_body c b = refl

pub read_again : (c : Setting) (b : Body) (bytes : List ℕ) (m : Message) → bytes ≡ frame_in c b → IsReadable c b → message_of bytes ≡ Ok m → m ≡ tagged c b
read_again c b bytes m e r exact = let same : Ok m ≡ Ok (tagged c b) = sym exact ∙ ap message_of e ∙ r in cc

-- and its body
pub its_body : (c : Setting) (b : Body) (m : Message) → m ≡ tagged c b → m.body ≡ b
its_body c b m e = ap (λ (x : Message). x.body) e ∙ tagged_body c b

pub its_tags : (c : Setting) (b : Body) (m : Message) → m ≡ tagged c b → m ≡ tagged c m.body
its_tags c b m e = e ∙ ap (tagged c) (sym (its_body c b m e))

-- ---- the frame at a place

pub at_place : {V : Type 0} (items : V → List ℕ) (g : Body → List ℕ) (frames : List V) (bodies : List Body) (i : ℕ) (dv : V) (db : Body) → map items frames ≡ map g bodies → i < length frames
    → (items (get_or frames i dv) ≡ g (get_or bodies i db)) × (i < length bodies) × (get_or bodies i db ∈ bodies)
at_place items g [] bodies i dv db e l = absurd (omega arith)
at_place items g (f ∷ fs) [] i dv db e l = absurd (let z : items f ∷ map items fs ≡ [] = e in cc)
at_place items g (f ∷ fs) (b ∷ bs) zero dv db e l = let one : items f ≡ g b = cc in (one, omega arith, inl refl)
at_place items g (f ∷ fs) (b ∷ bs) (suc i) dv db e l =
    let rest : map items fs ≡ map g bs = cc in
    let k = at_place items g fs bs i dv db rest (omega arith) in (k.0, omega (arith, k.1), inr k.2)

pub no_body : Body
no_body = OfAsk (record { height = 0; sender = 0 })

-- one frame more
pub says_more : (c : Setting) (numbered bodies : List Body) (who : Option ℕ) (i : ℕ) (old middle new : Chronicle) → i < length bodies → Says c numbered who (take i bodies) old middle
    → Says c (numbered ++ newly numbered (take i bodies)) who (get_or bodies i no_body ∷ []) middle new → Says c numbered who (take (i + 1) bodies) old new
says_more c numbered bodies who i old middle new l a b = subst (λ t. Says c numbered who t old new) (sym (take_more bodies i no_body l)) (says_both c numbered who (take i bodies) (get_or bodies i no_body ∷ []) old middle new a b)

pub says_all : (c : Setting) (numbered bodies : List Body) (who : Option ℕ) (i : ℕ) (old new : Chronicle) → length bodies ≤ i → Says c numbered who (take i bodies) old new → Says c numbered who bodies old new
says_all c numbered bodies who i old new l a = subst (λ t. Says c numbered who t old new) (take_all i bodies l) a

-- ---- clauses

pub on_ok_both : {T E : Type 0} {P Q : Type 0} (result : Result T E) → OnOk result P → (P → Q) → OnOk result Q
on_ok_both (Ok x) p f = f p
on_ok_both (Err e) p f = tt

pub on_ok_if : {T E : Type 0} {P : T → Type 0} {Q : Type 0} (result : Result T E) → IfOk result P → ((x : T) → P x → Q) → OnOk result Q
on_ok_if (Ok x) p f = f x p
on_ok_if (Err e) p f = tt
