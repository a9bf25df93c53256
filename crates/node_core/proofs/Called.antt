-- Whole calls: a node that has halted refuses them, else they begin with no rule fired.
use Rattle.std.proofs.Common.{◌≡◌, ◌⊎◌, ℕ, inl, inr, Bool, true, false, List, Option, None, Result, Ok, Err, IfErr, refl, sym, ap, subst, ◌∙◌}
use Rattle.protocol.specs.State.{Node}
use Rattle.protocol.specs.Refusals.{Refusal, answer}
use Rattle.protocol.specs.History.{Input, Given}
use Rattle.protocol.specs.declared.refusal.Refusal.{Refusal as Answer}
use Rattle.protocol.specs.declared.refusal.Refusal.TheVariants as answers
use Rattle.node_core.specs.Core.{Core, Stands, setting_of}
use Rattle.protocol.specs.Answers.{Answers, IsAnswer, IsRefusal}
use Rattle.node_core.specs.Calls.{IsUnchanged, IsUnfired, IsRefused, IsTaken, IsNotTaken, IsCalled, IsDone, Serves, TellsJournal}
use Rattle.node_core.specs.Running.{HasRun}
use Rattle.node_core.proofs.Stepwise.{called_run, taken_from}
use Rattle.node_core.proofs.Telling.{tells_from, unfired_by}
use Rattle.node_core.proofs.Given.{refused_done}

-- ---- a node that has halted

pub halted_answers : (failed : Bool) (cause : Option Refusal) (r : Answer) → r ≡ answers.Halted → failed ≡ true → Answers failed cause (Err r)
halted_answers failed cause r is halted = rw (halted, is) refl

pub halted_done : (n : Node) (input : Input) (r : Answer) (old new : Core) → r ≡ answers.Halted → old.journal.failed ≡ true → IsUnchanged old new → IsDone n input (Err r) old new
halted_done n input r old new is halted u = inr (subst (λ x. IsNotTaken (Err x) old new) (sym is) (halted, u))

unchanged_serves : (old new : Core) → IsUnchanged old new → Serves old.journal new.journal
unchanged_serves old new u = record { failed = ap (λ (x : Core). x.journal.failed) u; failures = ap (λ (x : Core). x.journal.failures) u }

pub halted_tells : (r : Answer) (old new : Core) → r ≡ answers.Halted → IsUnchanged old new → TellsJournal (Err r) old.journal new.journal
halted_tells r old new is u = subst (λ x. TellsJournal (Err x) old.journal new.journal) (sym is) (unchanged_serves old new u)

-- ---- one that has not

pub running_answers : (failed : Bool) (cause : Option Refusal) (result : Result (Unit {0}) Answer) → failed ≡ false → IsAnswer cause result → Answers failed cause result
running_answers failed cause result running a = rw running a

-- the rules behind what was taken in
pub run_answer : (cause : Option Refusal) (result : Result (Unit {0}) Answer) → cause ≡ None → IfErr result (λ r. (r ≡ answers.OutOfMemory) ⊎ (r ≡ answers.JournalFailed)) → IsAnswer cause result
run_answer cause (Ok done) none e = none
run_answer cause (Err r) none (inl e) = subst (IsRefusal cause) (sym e) tt
run_answer cause (Err r) none (inr e) = subst (IsRefusal cause) (sym e) none

pub tells_begun : (result : Result (Unit {0}) Answer) (old mid new : Core) → IsUnchanged old mid → TellsJournal result mid.journal new.journal → TellsJournal result old.journal new.journal
tells_begun result old mid new u t = tells_from result old.journal mid.journal new.journal (unchanged_serves old mid u) t

pub run_begun : (n : Node) (input : Input) (old begun mid new : Core) → IsUnchanged old begun → IsTaken n input begun mid → HasRun mid new → (times : ℕ) × IsCalled n input times old new
run_begun n input old begun mid new u t r = called_run n input old mid new (taken_from n input old mid 0 (subst (λ (x : Core). IsTaken n input x mid) u t)) r

-- ---- what was not taken in

pub unfired_refusal : (cause : Option Refusal) (r : Answer) (old new : Core) → cause ≡ None → IsUnfired r old new → IsRefusal cause r
unfired_refusal cause answers.JournalFailed old new none u = none
unfired_refusal cause answers.OutOfMemory old new none u = tt
unfired_refusal cause answers.Truncated old new none u = absurd (let f : answers.Truncated ≡ answers.OutOfMemory = u.0 in cc)
unfired_refusal cause answers.TooLong old new none u = absurd (let f : answers.TooLong ≡ answers.OutOfMemory = u.0 in cc)
unfired_refusal cause answers.BadKind old new none u = absurd (let f : answers.BadKind ≡ answers.OutOfMemory = u.0 in cc)
unfired_refusal cause answers.BadSpelling old new none u = absurd (let f : answers.BadSpelling ≡ answers.OutOfMemory = u.0 in cc)
unfired_refusal cause answers.UnknownSender old new none u = absurd (let f : answers.UnknownSender ≡ answers.OutOfMemory = u.0 in cc)
unfired_refusal cause answers.BadTag old new none u = absurd (let f : answers.BadTag ≡ answers.OutOfMemory = u.0 in cc)
unfired_refusal cause answers.OtherHeight old new none u = absurd (let f : answers.OtherHeight ≡ answers.OutOfMemory = u.0 in cc)
unfired_refusal cause answers.VoterFull old new none u = absurd (let f : answers.VoterFull ≡ answers.OutOfMemory = u.0 in cc)
unfired_refusal cause answers.Repeat old new none u = absurd (let f : answers.Repeat ≡ answers.OutOfMemory = u.0 in cc)
unfired_refusal cause answers.RoundLimit old new none u = absurd (let f : answers.RoundLimit ≡ answers.OutOfMemory = u.0 in cc)
unfired_refusal cause answers.RoundAhead old new none u = absurd (let f : answers.RoundAhead ≡ answers.OutOfMemory = u.0 in cc)
unfired_refusal cause answers.WrongProposer old new none u = absurd (let f : answers.WrongProposer ≡ answers.OutOfMemory = u.0 in cc)
unfired_refusal cause (answers.Submit fault) old new none u = absurd (let f : (answers.Submit fault) ≡ answers.OutOfMemory = u.0 in cc)
unfired_refusal cause (answers.Bundle fault) old new none u = absurd (let f : (answers.Bundle fault) ≡ answers.OutOfMemory = u.0 in cc)
unfired_refusal cause answers.Halted old new none u = absurd (let f : answers.Halted ≡ answers.OutOfMemory = u.0 in cc)

pub unfired_done : (n : Node) (input : Input) (r : Answer) (old begun new : Core) → IsUnchanged old begun → IsUnfired r begun new → IsDone n input (Err r) old new
unfired_done n input answers.JournalFailed old begun new b u = inr (u ∙ ap (λ (x : Core). record x { journal = new.journal }) b)
unfired_done n input answers.OutOfMemory old begun new b u = inr (u.1 ∙ b)
unfired_done n input answers.Truncated old begun new b u = absurd (let f : answers.Truncated ≡ answers.OutOfMemory = u.0 in cc)
unfired_done n input answers.TooLong old begun new b u = absurd (let f : answers.TooLong ≡ answers.OutOfMemory = u.0 in cc)
unfired_done n input answers.BadKind old begun new b u = absurd (let f : answers.BadKind ≡ answers.OutOfMemory = u.0 in cc)
unfired_done n input answers.BadSpelling old begun new b u = absurd (let f : answers.BadSpelling ≡ answers.OutOfMemory = u.0 in cc)
unfired_done n input answers.UnknownSender old begun new b u = absurd (let f : answers.UnknownSender ≡ answers.OutOfMemory = u.0 in cc)
unfired_done n input answers.BadTag old begun new b u = absurd (let f : answers.BadTag ≡ answers.OutOfMemory = u.0 in cc)
unfired_done n input answers.OtherHeight old begun new b u = absurd (let f : answers.OtherHeight ≡ answers.OutOfMemory = u.0 in cc)
unfired_done n input answers.VoterFull old begun new b u = absurd (let f : answers.VoterFull ≡ answers.OutOfMemory = u.0 in cc)
unfired_done n input answers.Repeat old begun new b u = absurd (let f : answers.Repeat ≡ answers.OutOfMemory = u.0 in cc)
unfired_done n input answers.RoundLimit old begun new b u = absurd (let f : answers.RoundLimit ≡ answers.OutOfMemory = u.0 in cc)
unfired_done n input answers.RoundAhead old begun new b u = absurd (let f : answers.RoundAhead ≡ answers.OutOfMemory = u.0 in cc)
unfired_done n input answers.WrongProposer old begun new b u = absurd (let f : answers.WrongProposer ≡ answers.OutOfMemory = u.0 in cc)
unfired_done n input (answers.Submit fault) old begun new b u = absurd (let f : (answers.Submit fault) ≡ answers.OutOfMemory = u.0 in cc)
unfired_done n input (answers.Bundle fault) old begun new b u = absurd (let f : (answers.Bundle fault) ≡ answers.OutOfMemory = u.0 in cc)
unfired_done n input answers.Halted old begun new b u = absurd (let f : answers.Halted ≡ answers.OutOfMemory = u.0 in cc)

pub refused_call : (n : Node) (frame : List ℕ) (r : Answer) (old begun new : Core) → Stands n old → IsUnchanged old begun → IsRefusal (answer (setting_of old) old.machine.me n frame) r → IsRefused r begun new → IsDone n (Given frame) (Err r) old new
refused_call n frame answers.JournalFailed old begun new s b h u = inr (u ∙ ap (λ (x : Core). record x { journal = new.journal }) b)
refused_call n frame answers.Truncated old begun new s b h u = subst (IsDone n (Given frame) (Err answers.Truncated) old) (sym (u ∙ b)) (refused_done n frame answers.Truncated old s h (λ e. cc))
refused_call n frame answers.TooLong old begun new s b h u = subst (IsDone n (Given frame) (Err answers.TooLong) old) (sym (u ∙ b)) (refused_done n frame answers.TooLong old s h (λ e. cc))
refused_call n frame answers.BadKind old begun new s b h u = subst (IsDone n (Given frame) (Err answers.BadKind) old) (sym (u ∙ b)) (refused_done n frame answers.BadKind old s h (λ e. cc))
refused_call n frame answers.BadSpelling old begun new s b h u = subst (IsDone n (Given frame) (Err answers.BadSpelling) old) (sym (u ∙ b)) (refused_done n frame answers.BadSpelling old s h (λ e. cc))
refused_call n frame answers.UnknownSender old begun new s b h u = subst (IsDone n (Given frame) (Err answers.UnknownSender) old) (sym (u ∙ b)) (refused_done n frame answers.UnknownSender old s h (λ e. cc))
refused_call n frame answers.BadTag old begun new s b h u = subst (IsDone n (Given frame) (Err answers.BadTag) old) (sym (u ∙ b)) (refused_done n frame answers.BadTag old s h (λ e. cc))
refused_call n frame answers.OtherHeight old begun new s b h u = subst (IsDone n (Given frame) (Err answers.OtherHeight) old) (sym (u ∙ b)) (refused_done n frame answers.OtherHeight old s h (λ e. cc))
refused_call n frame answers.VoterFull old begun new s b h u = subst (IsDone n (Given frame) (Err answers.VoterFull) old) (sym (u ∙ b)) (refused_done n frame answers.VoterFull old s h (λ e. cc))
refused_call n frame answers.Repeat old begun new s b h u = subst (IsDone n (Given frame) (Err answers.Repeat) old) (sym (u ∙ b)) (refused_done n frame answers.Repeat old s h (λ e. cc))
refused_call n frame answers.RoundLimit old begun new s b h u = subst (IsDone n (Given frame) (Err answers.RoundLimit) old) (sym (u ∙ b)) (refused_done n frame answers.RoundLimit old s h (λ e. cc))
refused_call n frame answers.RoundAhead old begun new s b h u = subst (IsDone n (Given frame) (Err answers.RoundAhead) old) (sym (u ∙ b)) (refused_done n frame answers.RoundAhead old s h (λ e. cc))
refused_call n frame answers.WrongProposer old begun new s b h u = subst (IsDone n (Given frame) (Err answers.WrongProposer) old) (sym (u ∙ b)) (refused_done n frame answers.WrongProposer old s h (λ e. cc))
refused_call n frame (answers.Submit fault) old begun new s b h u = subst (IsDone n (Given frame) (Err (answers.Submit fault)) old) (sym (u ∙ b)) (refused_done n frame (answers.Submit fault) old s h (λ e. cc))
refused_call n frame (answers.Bundle fault) old begun new s b h u = subst (IsDone n (Given frame) (Err (answers.Bundle fault)) old) (sym (u ∙ b)) (refused_done n frame (answers.Bundle fault) old s h (λ e. cc))
refused_call n frame answers.Halted old begun new s b h u = subst (IsDone n (Given frame) (Err answers.Halted) old) (sym (u ∙ b)) (refused_done n frame answers.Halted old s h (λ e. cc))
refused_call n frame answers.OutOfMemory old begun new s b h u = subst (IsDone n (Given frame) (Err answers.OutOfMemory) old) (sym (u ∙ b)) (refused_done n frame answers.OutOfMemory old s h (λ e. cc))

pub refused_left : (r : Answer) (old begun new : Core) → IsUnchanged old begun → IsRefused r begun new → (r ≡ answers.OutOfMemory) ⊎ (r ≡ answers.JournalFailed) ⊎ IsUnchanged old new
refused_left answers.JournalFailed old begun new b u = inr (inl refl)
refused_left answers.Truncated old begun new b u = inr (inr (u ∙ b))
refused_left answers.TooLong old begun new b u = inr (inr (u ∙ b))
refused_left answers.BadKind old begun new b u = inr (inr (u ∙ b))
refused_left answers.BadSpelling old begun new b u = inr (inr (u ∙ b))
refused_left answers.UnknownSender old begun new b u = inr (inr (u ∙ b))
refused_left answers.BadTag old begun new b u = inr (inr (u ∙ b))
refused_left answers.OtherHeight old begun new b u = inr (inr (u ∙ b))
refused_left answers.VoterFull old begun new b u = inr (inr (u ∙ b))
refused_left answers.Repeat old begun new b u = inr (inr (u ∙ b))
refused_left answers.RoundLimit old begun new b u = inr (inr (u ∙ b))
refused_left answers.RoundAhead old begun new b u = inr (inr (u ∙ b))
refused_left answers.WrongProposer old begun new b u = inr (inr (u ∙ b))
refused_left (answers.Submit fault) old begun new b u = inr (inr (u ∙ b))
refused_left (answers.Bundle fault) old begun new b u = inr (inr (u ∙ b))
refused_left answers.Halted old begun new b u = inr (inr (u ∙ b))
refused_left answers.OutOfMemory old begun new b u = inr (inr (u ∙ b))

pub run_left : (result : Result (Unit {0}) Answer) (P : Type 0) → IfErr result (λ r. (r ≡ answers.OutOfMemory) ⊎ (r ≡ answers.JournalFailed)) → IfErr result (λ r. (r ≡ answers.OutOfMemory) ⊎ (r ≡ answers.JournalFailed) ⊎ P)
run_left (Ok done) P e = tt
run_left (Err r) P (inl e) = inl e
run_left (Err r) P (inr e) = inr (inl e)

pub unfired_left : (r : Answer) (old new : Core) (P : Type 0) → IsUnfired r old new → (r ≡ answers.OutOfMemory) ⊎ (r ≡ answers.JournalFailed) ⊎ P
unfired_left r old new P u = elim (unfired_by r old new u) [ inl e ↦ inl e | inr e ↦ inr (inl e) ]
