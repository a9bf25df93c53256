-- The causes of the gate and those of the state, one after the other.
use Rattle.std.proofs.Common.{◌≡◌, ℕ, ◌<◌, Bool, true, false, cond, not, ◌&&◌, List, [], ◌∷◌, ◌++◌, length, Option, Some, None, Result, Ok, Err, is_ok, refl, ap, ◌∙◌, inl, inr}
use Rattle.std.proofs.lemmas.Bool.{cases_Bool, ltb-true}
use Rattle.transactions.specs.declared.fault.Fault.{Fault}
use Rattle.transactions.specs.declared.fault.Fault.TheVariants as faults
use Rattle.transactions.specs.declared.tx.Tx.{Tx}
use Rattle.transactions.specs.Fields.{Fails}
use Rattle.transactions.specs.Grammar.{tx_body_spelling, tx_fields_spelling}
use Rattle.messages.specs.Framing.{message_of}
use Rattle.protocol.specs.Tags.{Setting, Validator, Client, right, tx_is_right}
use Rattle.messages.specs.Grammar.{body_spelling}
use Rattle.protocol.specs.Messages.{Body, sender_of, OfTx, OfProposal, OfVote, OfAsk, OfBundle, Message}
use Rattle.protocol.specs.State.{Node}
use Rattle.protocol.specs.Refusals.{Cause, ◌↪◌, first_cause, Refusal, causes, refusal_of, is_known, sender_causes, tagged_tx}
use Rattle.protocol.specs.Refusals as names
use Rattle.protocol.specs.Answers.{IsCause, IsVerdict, cause_of, of_fault}
use Rattle.protocol.specs.declared.refusal.Refusal.{Refusal as Answer}
use Rattle.protocol.specs.declared.refusal.Refusal.TheVariants as answers
use Rattle.frame_admission.specs.Examined.{found_of}
use Rattle.frame_admission.specs.declared.examined.Found.TheVariants as founds
use Rattle.frame_admission.specs.Gate.{tag_causes, validator_of, let_in, judged, gate_causes, admission, state_causes, answer_behind, GateLaw, IsAnswer, IsRefused}

-- a cause, and where there is none another
abbrev or_else : {R : Type 0} → Option R → Option R → Option R
or_else (Some x) y = Some x
or_else None y = y

after_cond : {R : Type 0} (b : Bool) (x : R) (y z : Option R) → cond b (Some x) (or_else y z) ≡ or_else (cond b (Some x) y) z
after_cond true x y z = refl
after_cond false x y z = refl

first_cause-append : {R : Type 0} (xs ys : List (Cause R)) → first_cause (xs ++ ys) ≡ or_else (first_cause xs) (first_cause ys)
first_cause-append [] ys = refl
first_cause-append (x ∷ xs) ys = rw (first_cause-append xs ys) (after_cond x.stands x.answer (first_cause xs) (first_cause ys))

-- a message's causes are the gate's, and then the state's
gate_then_state : (c : Setting) (p : ℕ) (n : Node) (m : Message) (b : Body) → first_cause (causes c p n m b) ≡ or_else (first_cause (gate_causes c p b m.tags)) (first_cause (state_causes c p n m b))
gate_then_state c p n m (OfTx t) = refl
gate_then_state c p n m (OfProposal q) = first_cause-append (gate_causes c p (OfProposal q) m.tags) (state_causes c p n m (OfProposal q))
gate_then_state c p n m (OfVote v) = first_cause-append (gate_causes c p (OfVote v) m.tags) (state_causes c p n m (OfVote v))
gate_then_state c p n m (OfAsk a) = first_cause-append (gate_causes c p (OfAsk a) m.tags) (state_causes c p n m (OfAsk a))
gate_then_state c p n m (OfBundle b) = first_cause-append (gate_causes c p (OfBundle b) m.tags) (state_causes c p n m (OfBundle b))

let_in_or_else : (c : Setting) (p : ℕ) (n : Node) (m : Message) (cause : Option Refusal) → or_else cause (first_cause (state_causes c p n m m.body)) ≡ answer_behind c p n (let_in m cause)
let_in_or_else c p n m (Some cause) = refl
let_in_or_else c p n m None = refl

behind : (c : Setting) (p : ℕ) (n : Node) (read : Result Message Fault) → refusal_of c p n read ≡ answer_behind c p n (judged c p read)
behind c p n (Ok m) = rw (gate_then_state c p n m m.body) (let_in_or_else c p n m (first_cause (gate_causes c p m.body m.tags)))
behind c p n (Err fault) = refl

pub gate_law : GateLaw
unfolding admission
gate_law c p n frame = behind c p n (message_of frame)

-- ---- what is known of a message that is let in

let_in_parts : (m found : Message) (cause : Option Refusal) → let_in m cause ≡ Ok found → (m ≡ found) × (cause ≡ None)
let_in_parts m found None e = (cc, refl)
let_in_parts m found (Some cause) e = absurd cc

judged_parts : (c : Setting) (p : ℕ) (read : Result Message Fault) (m : Message) → judged c p read ≡ Ok m → (read ≡ Ok m) × (first_cause (gate_causes c p m.body m.tags) ≡ None)
judged_parts c p (Ok found) m e =
    let parts = let_in_parts found m (first_cause (gate_causes c p found.body found.tags)) e in
    (ap (λ (x : Message). Ok x) parts.0, rw parts.0 at parts.1)
judged_parts c p (Err fault) m e = absurd cc

-- the frame spells it, and no cause of the gate stands
pub let_in_message : (c : Setting) (p : ℕ) (frame : List ℕ) (m : Message) → admission c p frame ≡ Ok m → (message_of frame ≡ Ok m) × (first_cause (gate_causes c p m.body m.tags) ≡ None)
unfolding admission
let_in_message c p frame m e = judged_parts c p (message_of frame) m e

known_number : (c : Setting) (i : ℕ) (b : Bool) → first_cause ((not (is_known c (Validator i)) ↪ names.UnknownSender) ∷ (not b ↪ names.BadTag) ∷ []) ≡ None → i < length c.powers
known_number c i b none = elim (cases_Bool (is_known c (Validator i))) [
  | inl known ↦ ltb-true i (length c.powers) known
  | inr unknown ↦ (let some : Some names.UnknownSender ≡ None = rw unknown at none in absurd cc)
]

sender_number : (c : Setting) (p : ℕ) (b : Body) (tags : List (List ℕ)) (i j : ℕ) → sender_of b ≡ Validator i → Some i ≡ Some j → first_cause (sender_causes c p b tags) ≡ None → j < length c.powers
sender_number c p b tags i j is same none =
    let number : i ≡ j = cc in
    rw number at (known_number c i (right c p (Validator i) (body_spelling b) tags) (rw is at none))

-- its sender is a validator's number, but for a transaction's
pub known_validator : (c : Setting) (p : ℕ) (b : Body) (tags : List (List ℕ)) (sender : ℕ) → validator_of b ≡ Some sender → first_cause (gate_causes c p b tags) ≡ None → sender < length c.powers
known_validator c p (OfTx t) tags sender is none = absurd cc
known_validator c p (OfProposal q) tags sender is none = sender_number c p (OfProposal q) tags q.sender sender refl is none
known_validator c p (OfVote v) tags sender is none = sender_number c p (OfVote v) tags v.sender sender refl is none
known_validator c p (OfAsk a) tags sender is none = sender_number c p (OfAsk a) tags a.sender sender refl is none
known_validator c p (OfBundle b) tags sender is none = sender_number c p (OfBundle b) tags b.sender sender refl is none

-- ---- what the code answers

-- a fault of reading
pub unread_answer : (c : Setting) (p : ℕ) (frame : List ℕ) (fault : Fault) → Fails fault (message_of frame) → IsAnswer (admission c p frame) (Err (of_fault fault))
unfolding admission
unread_answer c p frame faults.Truncated e = rw e refl
unread_answer c p frame faults.TooLong e = rw e refl
unread_answer c p frame faults.BadSpelling e = rw e refl
unread_answer c p frame faults.BadKind e = rw e refl
unread_answer c p frame faults.OutOfMemory e = tt

named_answer : (wanted : Result Message Refusal) (e : Answer) → IsRefused wanted (cause_of e) → IsAnswer wanted (Err e)
named_answer wanted answers.Truncated h = h
named_answer wanted answers.TooLong h = h
named_answer wanted answers.BadKind h = h
named_answer wanted answers.BadSpelling h = h
named_answer wanted answers.UnknownSender h = h
named_answer wanted answers.BadTag h = h
named_answer wanted answers.OtherHeight h = h
named_answer wanted answers.VoterFull h = h
named_answer wanted answers.Repeat h = h
named_answer wanted answers.RoundLimit h = h
named_answer wanted answers.RoundAhead h = h
named_answer wanted answers.WrongProposer h = h
named_answer wanted (answers.Submit fault) h = h
named_answer wanted (answers.Bundle fault) h = h
named_answer wanted answers.Halted h = h
named_answer wanted answers.OutOfMemory h = tt
named_answer wanted answers.JournalFailed h = h

-- the cause that is told is the gate's
refused_by : (c : Setting) (p : ℕ) (read : Result Message Fault) (m : Message) (told : Option Refusal) → read ≡ Ok m → IsCause (first_cause (gate_causes c p m.body m.tags)) told → IsRefused (judged c p read) told
refused_by c p read m None is cause = cause
refused_by c p read m (Some told) is cause = rw (is, cause) refl

module _ (c : Setting) (p : ℕ) (frame : List ℕ) (m : Message) (read : message_of frame ≡ Ok m) where
  -- a message that is refused
  pub refused_answer : (e : Answer) → IsVerdict (first_cause (gate_causes c p m.body m.tags)) (Err e) → IsAnswer (admission c p frame) (Err e)
  unfolding admission
  refused_answer e cause = named_answer (judged c p (message_of frame)) e (refused_by c p (message_of frame) m (cause_of e) read cause)

  -- a message that is let in
  pub let_in_answer : first_cause (gate_causes c p m.body m.tags) ≡ None → admission c p frame ≡ Ok m
  unfolding admission
  let_in_answer cause = rw (read, cause) refl

-- nothing is told where no cause stands
none_told : (told : Option Refusal) → IsCause None told → ⊥
none_told None h = h
none_told (Some cause) h = cc

both : (a b : Bool) (x y : Refusal) (r : Result (Unit {0}) Answer) → IsVerdict (first_cause ((not a ↪ x) ∷ (not b ↪ y) ∷ [])) r → is_ok r ≡ (a && b)
both true true x y (Ok done) h = refl
both true false x y (Ok done) h = absurd cc
both false b x y (Ok done) h = absurd cc
both true true x y (Err e) h = absurd (none_told (cause_of e) h)
both true false x y (Err e) h = refl
both false b x y (Err e) h = refl

-- a body's bytes have no tags
same_body : (t : Tx) (m : Message) → tx_body_spelling t ≡ tx_body_spelling (tagged_tx t m)
unfolding tx_fields_spelling
same_body t m = refl

-- a transaction is right where neither cause stands
pub tx_verdict : (c : Setting) (p : ℕ) (t : Tx) (r : Result (Unit {0}) Answer) → IsVerdict (first_cause (tag_causes c p (Client t.client) (tx_body_spelling t) t.tags)) r → is_ok r ≡ tx_is_right c p t
unfolding tx_is_right
tx_verdict c p t r h = both (c.clients t.client) (right c p (Client t.client) (tx_body_spelling t) t.tags) names.UnknownSender names.BadTag r h

-- what is found of a transaction: in any state nothing stands against it
pub tx_checked : (c : Setting) (p : ℕ) (m : Message) (b : Body) (t : Tx) (r : Result (Unit {0}) Answer) (found : Bool) → b ≡ OfTx t
    → IsVerdict (first_cause (tag_causes c p (sender_of b) (body_spelling b) m.tags)) r → found ≡ is_ok r
    → (first_cause (gate_causes c p b m.tags) ≡ None) × (founds.Tx found ≡ found_of c p m b)
tx_checked c p m b t r found is h ok =
    let verdict : IsVerdict (first_cause (tag_causes c p (Client t.client) (tx_body_spelling (tagged_tx t m)) m.tags)) r = rw (← same_body t m) (rw is at h) in
    rw is (refl, ap (λ (x : Bool). founds.Tx x) (ok ∙ tx_verdict c p (tagged_tx t m) r verdict))
