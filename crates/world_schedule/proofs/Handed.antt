-- What a core answers in its own setting, it answers in the world.
use Rattle.std.proofs.Common.{◌≡◌, ℕ, ◌⊎◌, Bool, true, false, inl, inr, List, Option, Some, None, Result, Ok, Err, refl, sym, ap, ◌∙◌, subst}
use Rattle.protocol.specs.Tags.{Setting}
use Rattle.protocol.specs.State.{State, Node}
use Rattle.protocol.specs.Refusals.{Refusal, answer, refusal_number}
use Rattle.protocol.specs.Calls.{call_answer, timeout_answer}
use Rattle.node_core.specs.Core.{Core, setting_of}
use Rattle.protocol.specs.Answers.{Answers, IsCause, IsRefusal, cause_of, numbers_telling, numbers_of}
use Rattle.protocol.specs.declared.refusal.Refusal.{Refusal as Answer}
use Rattle.protocol.specs.declared.refusal.Refusal.TheVariants as answers
use Rattle.world_schedule.specs.Cores.{StandsIn}
use Rattle.world_schedule.specs.Handed.{told_numbers, call_numbers, IsTold, HandedLaw}
use Rattle.world_schedule.proofs.Seeing.{seeing_law}
use Rattle.world_schedule.proofs.Cores.{own_law}

-- there is a cause, and its numbers are these
pub record HasNumbers (cause : Option Refusal) (numbers : ℕ × ℕ) : Type 0 where
  pub first : Refusal
  pub is : cause ≡ Some first
  pub numbers_are : numbers ≡ refusal_number first

by_cause : {cause : Option Refusal} {first : Refusal} → cause ≡ Some first → HasNumbers cause (refusal_number first)
by_cause {first = first} e = record { first = first; is = e; numbers_are = refl }

by_told : (cause told : Option Refusal) (r : Answer) → IsCause cause told → HasNumbers cause (numbers_telling told r)
by_told cause None r e = absurd e
by_told cause (Some first) r e = by_cause e

pub refusal_numbers : (cause : Option Refusal) (r : Answer) → IsRefusal cause r → (r ≡ answers.OutOfMemory) ⊎ ((r ≡ answers.JournalFailed) ⊎ HasNumbers cause (numbers_of r))
refusal_numbers cause answers.Truncated e = inr (inr (by_told cause (cause_of answers.Truncated) answers.Truncated e))
refusal_numbers cause answers.TooLong e = inr (inr (by_told cause (cause_of answers.TooLong) answers.TooLong e))
refusal_numbers cause answers.BadKind e = inr (inr (by_told cause (cause_of answers.BadKind) answers.BadKind e))
refusal_numbers cause answers.BadSpelling e = inr (inr (by_told cause (cause_of answers.BadSpelling) answers.BadSpelling e))
refusal_numbers cause answers.UnknownSender e = inr (inr (by_told cause (cause_of answers.UnknownSender) answers.UnknownSender e))
refusal_numbers cause answers.BadTag e = inr (inr (by_told cause (cause_of answers.BadTag) answers.BadTag e))
refusal_numbers cause answers.OtherHeight e = inr (inr (by_told cause (cause_of answers.OtherHeight) answers.OtherHeight e))
refusal_numbers cause answers.VoterFull e = inr (inr (by_told cause (cause_of answers.VoterFull) answers.VoterFull e))
refusal_numbers cause answers.Repeat e = inr (inr (by_told cause (cause_of answers.Repeat) answers.Repeat e))
refusal_numbers cause answers.RoundLimit e = inr (inr (by_told cause (cause_of answers.RoundLimit) answers.RoundLimit e))
refusal_numbers cause answers.RoundAhead e = inr (inr (by_told cause (cause_of answers.RoundAhead) answers.RoundAhead e))
refusal_numbers cause answers.WrongProposer e = inr (inr (by_told cause (cause_of answers.WrongProposer) answers.WrongProposer e))
refusal_numbers cause (answers.Submit fault) e = inr (inr (by_told cause (cause_of (answers.Submit fault)) (answers.Submit fault) e))
refusal_numbers cause (answers.Bundle fault) e = inr (inr (by_told cause (cause_of (answers.Bundle fault)) (answers.Bundle fault) e))
refusal_numbers cause answers.Halted e = inr (inr (by_told cause (cause_of answers.Halted) answers.Halted e))
refusal_numbers cause answers.OutOfMemory e = inl refl
refusal_numbers cause answers.JournalFailed e = inr (inl refl)

told : (halted : Bool) (cause : Option Refusal) (result : Result (Unit {0}) Answer) → Answers halted cause result → IsTold halted cause result
told true cause result e = record { answer = e; numbers = inr (inr (ap told_numbers e)) }
told false cause (Ok done) e = record { answer = e; numbers = inr (inr (rw e refl)) }
told false cause (Err r) e = record {
  answer = e;
  numbers = elim (refusal_numbers cause r e) [
    | inl k ↦ inl (ap Err k)
    | inr (inl k) ↦ inr (inl (ap Err k))
    | inr (inr k) ↦ inr (inr (k.numbers_are ∙ ap (λ o. call_numbers (call_answer false o)) (sym k.is)))
  ];
}

-- by the core's own number
frames_at : (c : Setting) (n : Node) (core : Core) → StandsIn c core.machine.me n core → (bytes : List ℕ) (result : Result (Unit {0}) Answer) → Answers core.journal.failed (answer (setting_of core) core.machine.me n bytes) result → IsTold core.journal.failed (answer c core.machine.me n bytes) result
frames_at c n core s bytes result e =
    let a = seeing_law core.machine.me (setting_of core) c (own_law c core.machine.me core s.own) in
    subst (λ cause. IsTold core.journal.failed cause result) (a.answering.answers n bytes) (told core.journal.failed _ result e)

pub handed_law : HandedLaw
handed_law c p n core s = record {
  frames = λ bytes result e.
      let own : p ≡ core.machine.me = sym s.own.me in
      subst (λ q. IsTold core.journal.failed (answer c q n bytes) result) (sym own) (frames_at c n core (subst (λ q. StandsIn c q n core) own s) bytes result e);
  timeouts = λ t result e. subst (λ (st : State). IsTold core.journal.failed (timeout_answer st t) result) s.stands.state (told core.journal.failed _ result e);
}
