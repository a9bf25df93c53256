-- What the reader finds in the parts of a record is what they spell.
use Rattle.std.proofs.Common.{◌≡◌, ℕ, zero, suc, ◌≤◌, Bool, true, false, ◌&&◌, cond, eqb, List, [], ◌∷◌, ◌++◌, length, take, drop, Option, Some, None, Err, refl, sym, ap, subst, ◌∙◌, arith, length-append}
use Rattle.std.specs.Prelude.{option_map}
use Rattle.std.proofs.lemmas.Bool.{eqb-true, eq-eqb}
use Rattle.std.proofs.lemmas.Slice.Eq.{bytes_eq-Decides}
use Rattle.std.proofs.lemmas.List.{take_at, drop_at}
use Rattle.transactions.specs.Grammar.{value_spelling, IsValue, SpellsValue}
use Rattle.transactions.proofs.TxFormats.{value_format, one_reading}
use Rattle.messages.specs.Grammar.{body_spelling, IsBody, IsVote, SpellsBody}
use Rattle.messages.specs.declared.body.Step.{Step}
use Rattle.messages.specs.declared.body.Step.TheVariants as steps
use Rattle.messages.proofs.BodyFormats.{body_format}
use Rattle.messages.proofs.Equality.{vote_eq_decides}
use Rattle.messages.proofs.Lengths.{vote_length}
use Rattle.protocol.specs.Values.{Id, Value, id}
use Rattle.protocol.specs.Messages.{Vote, Bundle, Body, OfTx, OfProposal, OfVote, OfAsk, OfBundle, Proposing, Prevoting, Precommitting, Record, Own, Decided, precommit, body_of, vote_eq}
use Rattle.vote_journal.specs.declared.fault.JournalFault.{JournalFault}
use Rattle.vote_journal.specs.declared.fault.JournalFault.TheVariants.{Failed, OutOfMemory, BadRecord}
use Rattle.vote_journal.specs.Grammar.{IsDecision, Spells, IsReading, Entry, OfRecord, Mark, SpellsEntry}
use Rattle.vote_journal.specs.Parts.{IsReadingOf, act_by, plain_record, lock_record, is_decision, bundle_of}

some_is : {T : Type 0} (b : Bool) (x y : T) → cond b (Some x) None ≡ Some y → (b ≡ true) × (x ≡ y)
some_is true x y e = (refl, cc)
some_is false x y e = absurd cc

never : {T : Type 0} (b : Bool) (y : T) → cond b None None ≡ Some y → ⊥
never true y e = absurd cc
never false y e = absurd cc

pub head_is : (a b : ℕ) (xs ys : List ℕ) → a ∷ xs ≡ b ∷ ys → (a ≡ b) × (xs ≡ ys)
head_is a b xs ys e = (cc, cc)

-- no two bodies are spelled alike
pub same_body : (bytes : List ℕ) (a b : Body) → SpellsBody bytes a → IsBody b → bytes ≡ body_spelling b → a ≡ b
same_body bytes a b s fits e = one_reading body_format a b s.lawful fits (sym s.same ∙ e)

-- ---- kind 1

vote_spells : (me height round sender : ℕ) (step : Step) (content : Option Id) (bytes : List ℕ) → SpellsBody bytes (OfVote (record { step = step; height = height; round = round; sender = sender; content = content }))
    → (r : Record) → cond (eqb sender me) (option_map (Own height round) (act_by step content)) None ≡ Some r → Spells me (1 ∷ bytes) r
vote_spells me height round sender steps.Prevote content bytes s r e =
    let h = some_is (eqb sender me) (Own height round (Prevoting content)) r e in
    let here : Spells sender (1 ∷ bytes) (Own height round (Prevoting content)) = record { lawful = (s.lawful, tt); same = ap (λ (w : List ℕ). 1 ∷ w) s.same } in
    subst (λ (p : ℕ × Record). Spells p.0 (1 ∷ bytes) p.1) (λ i. (eqb-true _ _ h.0 i, h.1 i)) here
vote_spells me height round sender steps.Precommit None bytes s r e =
    let h = some_is (eqb sender me) (Own height round (Precommitting None)) r e in
    let here : Spells sender (1 ∷ bytes) (Own height round (Precommitting None)) = record { lawful = (s.lawful, tt); same = ap (λ (w : List ℕ). 1 ∷ w) s.same } in
    subst (λ (p : ℕ × Record). Spells p.0 (1 ∷ bytes) p.1) (λ i. (eqb-true _ _ h.0 i, h.1 i)) here
vote_spells me height round sender steps.Precommit (Some x) bytes s r e = absurd (never (eqb sender me) r e)

pub plain_spells : (me : ℕ) (body : Body) (bytes : List ℕ) → SpellsBody bytes body → (r : Record) → plain_record me body ≡ Some r → Spells me (1 ∷ bytes) r
plain_spells me (OfTx t) bytes s r e = absurd cc
plain_spells me (OfProposal q) bytes s r e =
    let h = some_is (eqb q.sender me) (Own q.height q.round (Proposing q.valid_round q.value)) r e in
    let here : Spells q.sender (1 ∷ bytes) (Own q.height q.round (Proposing q.valid_round q.value)) = record { lawful = (s.lawful, tt); same = ap (λ (w : List ℕ). 1 ∷ w) s.same } in
    subst (λ (p : ℕ × Record). Spells p.0 (1 ∷ bytes) p.1) (λ i. (eqb-true _ _ h.0 i, h.1 i)) here
plain_spells me (OfVote v) bytes s r e = vote_spells me v.height v.round v.sender v.step v.content bytes s r e
plain_spells me (OfAsk a) bytes s r e = absurd cc
plain_spells me (OfBundle b) bytes s r e = absurd cc

found_some : {T : Type 0} (me : ℕ) (x : T) → cond (eqb me me) (Some x) None ≡ Some x
found_some me x = let t : eqb me me ≡ true = eq-eqb me me refl in rw t refl

-- the parts of a record of kind 1
pub plain_parts : (me : ℕ) (bytes : List ℕ) (r : Record) → Spells me (1 ∷ bytes) r → (body : Body) × SpellsBody bytes body × (plain_record me body ≡ Some r)
plain_parts me bytes (Own height round (Proposing vr v)) h = (body_of me height round (Proposing vr v), record { lawful = h.lawful.0; same = (head_is _ _ _ _ h.same).1 }, found_some me _)
plain_parts me bytes (Own height round (Prevoting x)) h = (body_of me height round (Prevoting x), record { lawful = h.lawful.0; same = (head_is _ _ _ _ h.same).1 }, found_some me _)
plain_parts me bytes (Own height round (Precommitting None)) h = (body_of me height round (Precommitting None), record { lawful = h.lawful.0; same = (head_is _ _ _ _ h.same).1 }, found_some me _)
plain_parts me bytes (Own height round (Precommitting (Some v))) h = absurd (omega (arith, (head_is _ _ _ _ h.same).0))
plain_parts me bytes (Decided b) h = absurd (omega (arith, (head_is _ _ _ _ h.same).0))

none_is_some : {T : Type 0} (x : T) (o : Option T) → o ≡ None → o ≡ Some x → ⊥
none_is_some x o n s = absurd cc

pub plain_only : (me : ℕ) (body : Body) (bytes : List ℕ) → SpellsBody bytes body → plain_record me body ≡ None → (r : Record) → Spells me (1 ∷ bytes) r → ⊥
plain_only me body bytes s e r h =
    let p = plain_parts me bytes r h in
    let is = same_body bytes body p.0 s p.1.lawful p.1.same in
    none_is_some r (plain_record me body) e (ap (plain_record me) is ∙ p.2)

-- what spells no body spells no record of kind 1
pub body_only : (me : ℕ) (bytes : List ℕ) → ((body : Body) → SpellsBody bytes body → ⊥) → (r : Record) → Spells me (1 ∷ bytes) r → ⊥
body_only me bytes absent r h = let p = plain_parts me bytes r h in absent p.0 p.1

pub plain_no_body : (me : ℕ) (bytes : List ℕ) (e : JournalFault) → IsReadingOf (SpellsBody bytes) (Err e) → IsReading me (1 ∷ bytes) (Err e)
plain_no_body me bytes Failed h = h
plain_no_body me bytes OutOfMemory h = tt
plain_no_body me bytes BadRecord h = body_only me bytes h

plain_same : (me : ℕ) (bytes : List ℕ) (a b : Record) → Spells me (1 ∷ bytes) a → Spells me (1 ∷ bytes) b → a ≡ b
plain_same me bytes a b h k =
    let p = plain_parts me bytes a h in
    let q = plain_parts me bytes b k in
    let is = same_body bytes p.0 q.0 p.1 q.1.lawful q.1.same in
    let both : Some a ≡ Some b = sym p.2 ∙ ap (plain_record me) is ∙ q.2 in cc

-- ---- kind 2

abbrev lock_vote : ℕ → ℕ → ℕ → Value → Vote
lock_vote me height round value = precommit height round me (Some (id value))

pub lock_spells : (me : ℕ) (body : Body) (value : Value) (front back : List ℕ) → SpellsBody front body → SpellsValue back value → (r : Record) → lock_record me body value ≡ Some r → Spells me (2 ∷ (front ++ back)) r
lock_spells me (OfTx t) value front back s u r e = absurd cc
lock_spells me (OfProposal q) value front back s u r e = absurd cc
lock_spells me (OfVote v) value front back s u r e =
    let w = lock_vote me v.height v.round value in
    let h = some_is (vote_eq v w) (Own v.height v.round (Precommitting (Some value))) r e in
    let is : v ≡ w = (vote_eq_decides v w).0 h.0 in
    let text : front ++ back ≡ body_spelling (OfVote w) ++ value_spelling value = rw (s.same, u.same) (ap (λ (x : Vote). body_spelling (OfVote x) ++ value_spelling value) is) in
    subst (Spells me (2 ∷ (front ++ back))) h.1 (record { lawful = (subst IsVote is s.lawful, u.lawful); same = ap (λ (x : List ℕ). 2 ∷ x) text })
lock_spells me (OfAsk a) value front back s u r e = absurd cc
lock_spells me (OfBundle b) value front back s u r e = absurd cc

-- the parts of a record of kind 2
pub record IsLock (me : ℕ) (bytes : List ℕ) (r : Record) : Type 0 where
  pub height : ℕ
  pub round : ℕ
  pub value : Value
  pub is : r ≡ Own height round (Precommitting (Some value))
  pub vote : SpellsBody (take 48 bytes) (OfVote (precommit height round me (Some (id value))))
  pub lock : SpellsValue (drop 48 bytes) value
  pub long : 48 ≤ length bytes

length-lock : (me height round : ℕ) (value : Value) → IsVote (lock_vote me height round value) → length (body_spelling (OfVote (lock_vote me height round value))) ≡ 48
length-lock me height round value h = omega (arith, vote_length (lock_vote me height round value) h.content)

pub lock_parts : (me : ℕ) (bytes : List ℕ) (r : Record) → Spells me (2 ∷ bytes) r → IsLock me bytes r
lock_parts me bytes (Own height round (Proposing vr v)) h = absurd (omega (arith, (head_is _ _ _ _ h.same).0))
lock_parts me bytes (Own height round (Prevoting x)) h = absurd (omega (arith, (head_is _ _ _ _ h.same).0))
lock_parts me bytes (Own height round (Precommitting None)) h = absurd (omega (arith, (head_is _ _ _ _ h.same).0))
lock_parts me bytes (Own height round (Precommitting (Some v))) h =
    let w = body_spelling (OfVote (lock_vote me height round v)) in
    let len : length w ≡ 48 = length-lock me height round v h.lawful.0 in
    let e : bytes ≡ w ++ value_spelling v = (head_is _ _ _ _ h.same).1 in
    record {
      height = height;
      round = round;
      value = v;
      is = refl;
      vote = record { lawful = h.lawful.0; same = ap (take 48) e ∙ take_at w (value_spelling v) 48 len };
      lock = record { lawful = h.lawful.1; same = ap (drop 48) e ∙ drop_at w (value_spelling v) 48 len };
      long = omega (arith, ap length e, length-append w (value_spelling v), len);
    }
lock_parts me bytes (Decided b) h = absurd (omega (arith, (head_is _ _ _ _ h.same).0))

pub same_value_at : (bytes : List ℕ) (a b : Value) → SpellsValue bytes a → SpellsValue bytes b → a ≡ b
same_value_at bytes a b s t = one_reading value_format a b s.lawful t.lawful (sym s.same ∙ t.same)

pub lock_only : (me : ℕ) (bytes : List ℕ) (body : Body) (value : Value) → SpellsBody (take 48 bytes) body → SpellsValue (drop 48 bytes) value → lock_record me body value ≡ None → (r : Record) → Spells me (2 ∷ bytes) r → ⊥
lock_only me bytes body value s u e r h =
    let p = lock_parts me bytes r h in
    let w = lock_vote me p.height p.round p.value in
    let ib : body ≡ OfVote w = same_body (take 48 bytes) body (OfVote w) s p.vote.lawful p.vote.same in
    let iv : value ≡ p.value = same_value_at (drop 48 bytes) value p.value u p.lock in
    let found : lock_record me (OfVote w) p.value ≡ None = ap (λ (x : Body × Value). lock_record me x.0 x.1) (λ i. (sym ib i, sym iv i)) ∙ e in
    let t : vote_eq w w ≡ true = (vote_eq_decides w w).1 refl in
    absurd cc

abbrev height_in : Body → ℕ
height_in (OfVote v) = v.height
height_in _ = 0

abbrev round_in : Body → ℕ
round_in (OfVote v) = v.round
round_in _ = 0

same_lock : (h h' n n' : ℕ) (v v' : Value) → h ≡ h' → n ≡ n' → v ≡ v' → Own h n (Precommitting (Some v)) ≡ Own h' n' (Precommitting (Some v'))
same_lock h h' n n' v v' eh en ev = cc

lock_same : (me : ℕ) (bytes : List ℕ) (a b : Record) → Spells me (2 ∷ bytes) a → Spells me (2 ∷ bytes) b → a ≡ b
lock_same me bytes a b h k =
    let p = lock_parts me bytes a h in
    let q = lock_parts me bytes b k in
    let votes = same_body (take 48 bytes) (OfVote (lock_vote me p.height p.round p.value)) (OfVote (lock_vote me q.height q.round q.value)) p.vote q.vote.lawful q.vote.same in
    let values = same_value_at (drop 48 bytes) p.value q.value p.lock q.lock in
    p.is ∙ same_lock p.height q.height p.round q.round p.value q.value (ap height_in votes) (ap round_in votes) values ∙ sym q.is

pub lock_no_body : (me : ℕ) (bytes : List ℕ) (e : JournalFault) → IsReadingOf (SpellsBody (take 48 bytes)) (Err e) → IsReading me (2 ∷ bytes) (Err e)
lock_no_body me bytes Failed h = h
lock_no_body me bytes OutOfMemory h = tt
lock_no_body me bytes BadRecord h = λ r k. let p = lock_parts me bytes r k in h _ p.vote

pub lock_no_value : (me : ℕ) (bytes : List ℕ) (e : JournalFault) → IsReadingOf (SpellsValue (drop 48 bytes)) (Err e) → IsReading me (2 ∷ bytes) (Err e)
lock_no_value me bytes Failed h = h
lock_no_value me bytes OutOfMemory h = tt
lock_no_value me bytes BadRecord h = λ r k. let p = lock_parts me bytes r k in h _ p.lock

-- ---- kind 3

pub decision_parts : (me : ℕ) (bytes : List ℕ) (r : Record) → Spells me (3 ∷ bytes) r → (b : Bundle) × IsDecision me b × (bytes ≡ body_spelling (OfBundle b)) × (r ≡ Decided b)
decision_parts me bytes (Own height round (Proposing vr v)) h = absurd (omega (arith, (head_is _ _ _ _ h.same).0))
decision_parts me bytes (Own height round (Prevoting x)) h = absurd (omega (arith, (head_is _ _ _ _ h.same).0))
decision_parts me bytes (Own height round (Precommitting None)) h = absurd (omega (arith, (head_is _ _ _ _ h.same).0))
decision_parts me bytes (Own height round (Precommitting (Some v))) h = absurd (omega (arith, (head_is _ _ _ _ h.same).0))
decision_parts me bytes (Decided b) h = (b, h.lawful, (head_is _ _ _ _ h.same).1, refl)

-- the body is the decision's bundle, and has what a decision has
pub decision_only : (me : ℕ) (bytes : List ℕ) (body : Body) → SpellsBody bytes body → (r : Record) → Spells me (3 ∷ bytes) r → (b : Bundle) × IsDecision me b × (body ≡ OfBundle b)
decision_only me bytes body s r h = let p = decision_parts me bytes r h in (p.0, p.1, same_body bytes body (OfBundle p.0) s p.1.fits p.2)

decision_same : (me : ℕ) (bytes : List ℕ) (a b : Record) → Spells me (3 ∷ bytes) a → Spells me (3 ∷ bytes) b → a ≡ b
decision_same me bytes a b h k =
    let p = decision_parts me bytes a h in
    let q = decision_parts me bytes b k in
    let bodies = same_body bytes (OfBundle p.0) (OfBundle q.0) (record { lawful = p.1.fits; same = p.2 }) q.1.fits q.2 in
    let bundles : p.0 ≡ q.0 = cc in
    p.3 ∙ ap (λ (x : Bundle). Decided x) bundles ∙ sym q.3

pub decision_no_body : (me : ℕ) (bytes : List ℕ) (e : JournalFault) → IsReadingOf (SpellsBody bytes) (Err e) → IsReading me (3 ∷ bytes) (Err e)
decision_no_body me bytes Failed h = h
decision_no_body me bytes OutOfMemory h = tt
decision_no_body me bytes BadRecord h = λ r k. let p = decision_parts me bytes r k in h (OfBundle p.0) (record { lawful = p.1.fits; same = p.2 })

pub no_bundle : (me : ℕ) (bytes : List ℕ) (body : Body) → SpellsBody bytes body → bundle_of body ≡ None → (r : Record) → Spells me (3 ∷ bytes) r → ⊥
no_bundle me bytes body s e r h =
    let p = decision_only me bytes body s r h in
    let found : Some p.0 ≡ None = ap bundle_of (sym p.2) ∙ e in absurd cc

is_bundle : (body : Body) (b : Bundle) → bundle_of body ≡ Some b → body ≡ OfBundle b
is_bundle (OfTx t) b e = absurd cc
is_bundle (OfProposal q) b e = absurd cc
is_bundle (OfVote v) b e = absurd cc
is_bundle (OfAsk a) b e = absurd cc
is_bundle (OfBundle c) b e = cc

three_parts : (a b c : Bool) → a && b && c ≡ true → (a ≡ true) × (b ≡ true) × (c ≡ true)
three_parts true true true e = (refl, refl, refl)
three_parts true true false e = absurd cc
three_parts true false c e = absurd cc
three_parts false b c e = absurd cc

pub decision_spells : (me : ℕ) (bytes : List ℕ) (body : Body) (b : Bundle) → SpellsBody bytes body → bundle_of body ≡ Some b → is_decision me b ≡ true → Spells me (3 ∷ bytes) (Decided b)
decision_spells me bytes body b s e own =
    let is : body ≡ OfBundle b = is_bundle body b e in
    let t : SpellsBody bytes (OfBundle b) = subst (SpellsBody bytes) is s in
    let p = three_parts _ _ _ own in
    record {
      lawful = record { fits = t.lawful; sender = eqb-true _ _ p.0; name = (bytes_eq-Decides b.id (id b.value)).0 p.2; order = p.1 };
      same = ap (λ (w : List ℕ). 3 ∷ w) t.same;
    }

pub decision_fits : (bytes : List ℕ) (body : Body) (b : Bundle) → SpellsBody bytes body → bundle_of body ≡ Some b → IsValue b.value
decision_fits bytes body b s e = let t : SpellsBody bytes (OfBundle b) = subst (SpellsBody bytes) (is_bundle body b e) s in t.lawful.value

all_true : (a b c : Bool) → a ≡ true → b ≡ true → c ≡ true → a && b && c ≡ false → ⊥
all_true true true true ea eb ec e = absurd cc
all_true true true false ea eb ec e = absurd cc
all_true true false c ea eb ec e = absurd cc
all_true false b c ea eb ec e = absurd cc

pub no_decision : (me : ℕ) (bytes : List ℕ) (body : Body) (b : Bundle) → SpellsBody bytes body → bundle_of body ≡ Some b → is_decision me b ≡ false → (r : Record) → Spells me (3 ∷ bytes) r → ⊥
no_decision me bytes body b s e own r h =
    let p = decision_only me bytes body s r h in
    let both : Some p.0 ≡ Some b = ap bundle_of (sym p.2) ∙ e in
    let is : p.0 ≡ b = cc in
    let d : IsDecision me b = subst (IsDecision me) is p.1 in
    all_true _ _ _ (eq-eqb _ _ d.sender) d.order ((bytes_eq-Decides b.id (id b.value)).1 d.name) own

-- ---- other kinds

pub kinds_of : (me : ℕ) (content : List ℕ) (r : Record) → Spells me content r → (kind : ℕ) × (rest : List ℕ) × (content ≡ kind ∷ rest) × (1 ≤ kind) × (kind ≤ 3)
kinds_of me content (Own height round (Proposing vr v)) h = (1, _, h.same, omega arith, omega arith)
kinds_of me content (Own height round (Prevoting x)) h = (1, _, h.same, omega arith, omega arith)
kinds_of me content (Own height round (Precommitting None)) h = (1, _, h.same, omega arith, omega arith)
kinds_of me content (Own height round (Precommitting (Some v))) h = (2, _, h.same, omega arith, omega arith)
kinds_of me content (Decided b) h = (3, _, h.same, omega arith, omega arith)

kind_by : (me kind : ℕ) (rest : List ℕ) (a b : Record) → 1 ≤ kind → kind ≤ 3 → Spells me (kind ∷ rest) a → Spells me (kind ∷ rest) b → a ≡ b
kind_by me zero rest a b low high h k = absurd (omega arith)
kind_by me (suc zero) rest a b low high h k = plain_same me rest a b h k
kind_by me (suc (suc zero)) rest a b low high h k = lock_same me rest a b h k
kind_by me (suc (suc (suc zero))) rest a b low high h k = decision_same me rest a b h k
kind_by me (suc (suc (suc (suc n)))) rest a b low high h k = absurd (omega arith)

-- no two records have one content
pub same_record : (me : ℕ) (content : List ℕ) (a b : Record) → Spells me content a → Spells me content b → a ≡ b
same_record me content a b h k =
    let p = kinds_of me content a h in
    kind_by me p.0 p.1 a b p.3 p.4 (subst (λ (c : List ℕ). Spells me c a) p.2 h) (subst (λ (c : List ℕ). Spells me c b) p.2 k)

pub other_kind : (me kind : ℕ) (bytes : List ℕ) (r : Record) → (1 ≤ kind → kind ≤ 3 → ⊥) → Spells me (kind ∷ bytes) r → ⊥
other_kind me kind bytes r outside h =
    let p = kinds_of me (kind ∷ bytes) r h in
    let is : kind ≡ p.0 = (head_is kind p.0 bytes p.1 p.2).0 in
    outside (omega (arith, p.3)) (omega (arith, p.4))

pub nothing_spelled : (me : ℕ) (content : List ℕ) (r : Record) → Spells me content r → content ≡ [] → ⊥
nothing_spelled me content r h e = let p = kinds_of me content r h in let both : [] ≡ p.0 ∷ p.1 = sym e ∙ p.2 in absurd cc

-- ---- entries

pub kind_four : (me kind : ℕ) (rest : List ℕ) (r : Record) → (eqb kind 4) ≡ true → Spells me (kind ∷ rest) r → ⊥
kind_four me kind rest r e h = other_kind me kind rest r (λ low high. let four : kind ≡ 4 = eqb-true _ _ e in omega (arith, high, four)) h

-- no two entries have one content
pub same_entry : (me : ℕ) (content : List ℕ) (a b : Entry) → SpellsEntry me content a → SpellsEntry me content b → a ≡ b
same_entry me content (OfRecord a) (OfRecord b) h k = ap (λ (r : Record). OfRecord r) (same_record me content a b (record { lawful = h.lawful; same = h.same }) (record { lawful = k.lawful; same = k.same }))
same_entry me content (OfRecord a) Mark h k = absurd (kind_four me 4 _ a refl (record { lawful = h.lawful; same = sym k.same ∙ h.same }))
same_entry me content Mark (OfRecord b) h k = absurd (kind_four me 4 _ b refl (record { lawful = k.lawful; same = sym h.same ∙ k.same }))
same_entry me content Mark Mark h k = refl
