-- A frame that is handed in: its message is taken in, or it is refused.
use Rattle.std.proofs.Common.{◌≡◌, ◌≢◌, ℕ, List, ◌++◌, map, inl, inr, ◌⊎◌, Option, Some, None, Result, Ok, Err, refl, sym, ap, subst, ◌∙◌}
use Rattle.std.proofs.lemmas.List.{append-nil}
use Rattle.messages.specs.Framing.{message_of}
use Rattle.protocol.specs.Tags.{Setting}
use Rattle.protocol.specs.State.{Node}
use Rattle.protocol.specs.Messages.{Message}
use Rattle.protocol.specs.Refusals.{Refusal, answer}
use Rattle.protocol.specs.Arrivals.{Outcome, arrival, received, nothing}
use Rattle.protocol.specs.History.{Given}
use Rattle.protocol.proofs.Arrivals.{refused_law}
use Rattle.frame_admission.specs.Gate.{answer_behind, IsRefused as IsTold, IsAnswer as IsAdmitted}
use Rattle.protocol.specs.declared.refusal.SubmitFault.TheVariants as submits
use Rattle.protocol.specs.declared.refusal.JudgeFault.TheVariants as judges
use Rattle.protocol.specs.Answers.{IsCause, cause_of, IsRefusal}
use Rattle.protocol.specs.declared.refusal.Refusal.{Refusal as Answer}
use Rattle.protocol.specs.declared.refusal.Refusal.TheVariants as answers
use Rattle.node_core.specs.Core.{Core, Stands, setting_of, frame_by}
use Rattle.node_core.specs.Calls.{IsReceived, IsTaken, IsNotTaken, IsDone}
use Rattle.node_core.proofs.Arrivals.{comes_in, answers_by}
use Rattle.node_core.proofs.Stepwise.{same_itself, none_fired, stands_counted, called, taken_counted}

pub received_taken : (n : Node) (frame : List ℕ) (m : Message) (old new : Core) → message_of frame ≡ Ok m → answer (setting_of old) old.machine.me n frame ≡ None → IsReceived n m old new → IsTaken n (Given frame) old new
received_taken n frame m old new e none h =
    let at : arrival (setting_of old) old.machine.me n frame ≡ received (setting_of old) old.machine.me n m m.body = comes_in (setting_of old) old.machine.me n frame m e (sym (answers_by (setting_of old) old.machine.me n frame m e) ∙ none) in
    record {
      stands = subst (λ (o : Outcome). Stands o.node new) (sym at) h.stands;
      outgoing = subst (λ (o : Outcome). new.outgoing ≡ old.outgoing ++ map (frame_by old) o.out) (sym at) h.outgoing;
      scheduled = h.scheduled ∙ sym (append-nil old.scheduled);
      same = h.same;
    }

pub refused_taken : (n : Node) (frame : List ℕ) (r : Refusal) (old : Core) → Stands n old → answer (setting_of old) old.machine.me n frame ≡ Some r → IsTaken n (Given frame) old old
refused_taken n frame r old s e =
    let at : arrival (setting_of old) old.machine.me n frame ≡ nothing n = refused_law (setting_of old) old.machine.me n frame r e in
    record {
      stands = subst (λ (o : Outcome). Stands o.node old) (sym at) s;
      outgoing = subst (λ (o : Outcome). old.outgoing ≡ old.outgoing ++ map (frame_by old) o.out) (sym at) (sym (append-nil old.outgoing));
      scheduled = sym (append-nil old.scheduled);
      same = same_itself old;
    }

-- an answer tells a cause, or want of memory
told : (cause : Option Refusal) (r : Answer) → IsRefusal cause r → (r ≢ answers.JournalFailed) → ((x : Refusal) × (cause ≡ Some x)) ⊎ (r ≡ answers.OutOfMemory)
told cause answers.Truncated h other = inl (_, h)
told cause answers.TooLong h other = inl (_, h)
told cause answers.BadKind h other = inl (_, h)
told cause answers.BadSpelling h other = inl (_, h)
told cause answers.UnknownSender h other = inl (_, h)
told cause answers.BadTag h other = inl (_, h)
told cause answers.OtherHeight h other = inl (_, h)
told cause answers.VoterFull h other = inl (_, h)
told cause answers.Repeat h other = inl (_, h)
told cause answers.RoundLimit h other = inl (_, h)
told cause answers.RoundAhead h other = inl (_, h)
told cause answers.WrongProposer h other = inl (_, h)
told cause (answers.Submit submits.UnknownClient) h other = inl (_, h)
told cause (answers.Submit submits.BadTag) h other = inl (_, h)
told cause (answers.Submit submits.OldNumber) h other = inl (_, h)
told cause (answers.Submit submits.SessionAhead) h other = inl (_, h)
told cause (answers.Submit submits.Gap) h other = inl (_, h)
told cause (answers.Submit submits.Closed) h other = inl (_, h)
told cause (answers.Submit submits.QueueFull) h other = inl (_, h)
told cause (answers.Submit submits.TooLong) h other = inl (_, h)
told cause (answers.Submit submits.OutOfMemory) h other = absurd h
told cause (answers.Bundle judges.NoQuorum) h other = inl (_, h)
told cause (answers.Bundle judges.WrongDigest) h other = inl (_, h)
told cause (answers.Bundle judges.BadTag) h other = inl (_, h)
told cause (answers.Bundle judges.NotValid) h other = inl (_, h)
told cause (answers.Bundle judges.OutOfMemory) h other = absurd h
told cause answers.Halted h other = absurd h
told cause answers.OutOfMemory h other = inr refl
told cause answers.JournalFailed h other = absurd (other refl)

-- what was refused is done: nothing but that no rule was fired
pub refused_done : (n : Node) (frame : List ℕ) (r : Answer) (old : Core) → Stands n old → IsRefusal (answer (setting_of old) old.machine.me n frame) r → r ≢ answers.JournalFailed → IsDone n (Given frame) (Err r) old (record old { fired = 0 })
refused_done n frame r old s h other = elim (told (answer (setting_of old) old.machine.me n frame) r h other) [
  | inl e ↦ (let t = refused_taken n frame e.0 old s e.1 in inl (0, called n (Given frame) 0 old (record old { fired = 0 }) (record old { fired = 0 }) (taken_counted n (Given frame) old 0 t) (none_fired _ (record old { fired = 0 }) (stands_counted _ old 0 t.stands)) refl))
  | inr e ↦ inr (subst (λ x. IsNotTaken (Err x) old (record old { fired = 0 })) (sym e) refl)
]

behind_told : (c : Setting) (p : ℕ) (n : Node) (wanted : Result Message Refusal) (told : Option Refusal) → IsTold wanted told → IsCause (answer_behind c p n wanted) told
behind_told c p n wanted None h = h
behind_told c p n wanted (Some cause) h = ap (answer_behind c p n) h

-- the gate's refusal is the node's
pub gate_refused : (c : Setting) (p : ℕ) (n : Node) (wanted : Result Message Refusal) (e : Answer) → IsAdmitted wanted (Err e) → IsRefusal (answer_behind c p n wanted) e
gate_refused c p n wanted answers.Truncated h = behind_told c p n wanted (cause_of answers.Truncated) h
gate_refused c p n wanted answers.TooLong h = behind_told c p n wanted (cause_of answers.TooLong) h
gate_refused c p n wanted answers.BadKind h = behind_told c p n wanted (cause_of answers.BadKind) h
gate_refused c p n wanted answers.BadSpelling h = behind_told c p n wanted (cause_of answers.BadSpelling) h
gate_refused c p n wanted answers.UnknownSender h = behind_told c p n wanted (cause_of answers.UnknownSender) h
gate_refused c p n wanted answers.BadTag h = behind_told c p n wanted (cause_of answers.BadTag) h
gate_refused c p n wanted answers.OtherHeight h = behind_told c p n wanted (cause_of answers.OtherHeight) h
gate_refused c p n wanted answers.VoterFull h = behind_told c p n wanted (cause_of answers.VoterFull) h
gate_refused c p n wanted answers.Repeat h = behind_told c p n wanted (cause_of answers.Repeat) h
gate_refused c p n wanted answers.RoundLimit h = behind_told c p n wanted (cause_of answers.RoundLimit) h
gate_refused c p n wanted answers.RoundAhead h = behind_told c p n wanted (cause_of answers.RoundAhead) h
gate_refused c p n wanted answers.WrongProposer h = behind_told c p n wanted (cause_of answers.WrongProposer) h
gate_refused c p n wanted (answers.Submit fault) h = behind_told c p n wanted (cause_of (answers.Submit fault)) h
gate_refused c p n wanted (answers.Bundle fault) h = behind_told c p n wanted (cause_of (answers.Bundle fault)) h
gate_refused c p n wanted answers.Halted h = behind_told c p n wanted (cause_of answers.Halted) h
gate_refused c p n wanted answers.OutOfMemory h = tt
gate_refused c p n wanted answers.JournalFailed h = absurd h

pub received_from : (n : Node) (m : Message) (old new : Core) (count : ℕ) → IsReceived n m (record old { fired = count }) new → IsReceived n m old new
received_from n m old new count h = record { stands = h.stands; outgoing = h.outgoing; scheduled = h.scheduled; same = record { powers = h.same.powers; me = h.same.me; ring = h.same.ring } }
