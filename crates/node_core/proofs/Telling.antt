-- What calls answer that do not touch the journal.
use Rattle.std.proofs.Common.{◌≡◌, ◌≢◌, ◌⊎◌, inl, inr, ◌∙◌, Option, None, Result, Ok, Err, OnErr, IfErr, refl, sym, subst}
use Rattle.protocol.specs.declared.refusal.SubmitFault.{SubmitFault}
use Rattle.protocol.specs.declared.refusal.SubmitFault.TheVariants as submits
use Rattle.protocol.specs.declared.refusal.JudgeFault.{JudgeFault}
use Rattle.protocol.specs.declared.refusal.JudgeFault.TheVariants as judges
use Rattle.protocol.specs.declared.refusal.Refusal.{Refusal as Answer}
use Rattle.protocol.specs.declared.refusal.Refusal.TheVariants as answers
use Rattle.node_core.specs.Core.{Core, JournalSeen}
use Rattle.node_core.specs.Calls.{Serves, TellsJournal, IsUnfired, IsRefused}
use Rattle.protocol.specs.Answers.{IsAnswer, of_submit, of_judgement}
use Rattle.protocol.specs.Refusals.{Refusal}
use Rattle.protocol.specs.Messages.{Message}
use Rattle.frame_admission.specs.Gate.{IsAnswer as IsAdmitted}
use Rattle.round_states.specs.Taking.{IsAnswer as IsKept}
use Rattle.vote_journal.specs.Store.{Grew}
use Rattle.node_core.specs.Running.{HasRun}
use Rattle.node_core.proofs.Stepwise.{run_failed}

pub serves_itself : (j : JournalSeen) → Serves j j
serves_itself j = record { failed = refl; failures = refl }

-- any answer but that of a failed journal
pub tells_itself : (r : Answer) (j : JournalSeen) → r ≢ answers.JournalFailed → TellsJournal (Err r) j j
tells_itself answers.Truncated j other = serves_itself j
tells_itself answers.TooLong j other = serves_itself j
tells_itself answers.BadKind j other = serves_itself j
tells_itself answers.BadSpelling j other = serves_itself j
tells_itself answers.UnknownSender j other = serves_itself j
tells_itself answers.BadTag j other = serves_itself j
tells_itself answers.OtherHeight j other = serves_itself j
tells_itself answers.VoterFull j other = serves_itself j
tells_itself answers.Repeat j other = serves_itself j
tells_itself answers.RoundLimit j other = serves_itself j
tells_itself answers.RoundAhead j other = serves_itself j
tells_itself answers.WrongProposer j other = serves_itself j
tells_itself (answers.Submit fault) j other = serves_itself j
tells_itself (answers.Bundle fault) j other = serves_itself j
tells_itself answers.Halted j other = serves_itself j
tells_itself answers.OutOfMemory j other = serves_itself j
tells_itself answers.JournalFailed j other = absurd (other refl)

pub inadmissible_other : (wanted : Result Message Refusal) (e : Answer) → IsAdmitted wanted (Err e) → e ≢ answers.JournalFailed
inadmissible_other wanted e h is = subst (λ x. IsAdmitted wanted (Err x)) is h

pub unkept_other : (cause : Option Refusal) (e : Answer) → IsKept cause (Err e) → e ≢ answers.JournalFailed
unkept_other cause e h is = subst (λ x. IsKept cause (Err x)) is h

pub submit_other : (e : SubmitFault) → of_submit e ≢ answers.JournalFailed
submit_other submits.UnknownClient e = cc
submit_other submits.BadTag e = cc
submit_other submits.OldNumber e = cc
submit_other submits.SessionAhead e = cc
submit_other submits.Gap e = cc
submit_other submits.Closed e = cc
submit_other submits.QueueFull e = cc
submit_other submits.TooLong e = cc
submit_other submits.OutOfMemory e = cc

pub judge_other : (e : JudgeFault) → of_judgement e ≢ answers.JournalFailed
judge_other judges.NoQuorum e = cc
judge_other judges.WrongDigest e = cc
judge_other judges.BadTag e = cc
judge_other judges.NotValid e = cc
judge_other judges.OutOfMemory e = cc

-- ---- what is left of a core

pub same_refused : (r : Answer) (old new : Core) → new ≡ old → IsRefused r old new
same_refused answers.Truncated old new e = e
same_refused answers.TooLong old new e = e
same_refused answers.BadKind old new e = e
same_refused answers.BadSpelling old new e = e
same_refused answers.UnknownSender old new e = e
same_refused answers.BadTag old new e = e
same_refused answers.OtherHeight old new e = e
same_refused answers.VoterFull old new e = e
same_refused answers.Repeat old new e = e
same_refused answers.RoundLimit old new e = e
same_refused answers.RoundAhead old new e = e
same_refused answers.WrongProposer old new e = e
same_refused (answers.Submit fault) old new e = e
same_refused (answers.Bundle fault) old new e = e
same_refused answers.Halted old new e = e
same_refused answers.OutOfMemory old new e = e
same_refused answers.JournalFailed old new e = subst (λ (x : Core). x ≡ record old { journal = x.journal }) (sym e) refl

pub result_refused : (result : Result (Unit {0}) Answer) (old new : Core) → OnErr result (new ≡ old) → IfErr result (λ r. IsRefused r old new)
result_refused (Ok done) old new e = tt
result_refused (Err r) old new e = same_refused r old new e

pub unfired_refused : (r : Answer) (old new : Core) → IsUnfired r old new → IsRefused r old new
unfired_refused answers.JournalFailed old new u = u
unfired_refused answers.OutOfMemory old new u = u.1
unfired_refused answers.Truncated old new u = u.1
unfired_refused answers.TooLong old new u = u.1
unfired_refused answers.BadKind old new u = u.1
unfired_refused answers.BadSpelling old new u = u.1
unfired_refused answers.UnknownSender old new u = u.1
unfired_refused answers.BadTag old new u = u.1
unfired_refused answers.OtherHeight old new u = u.1
unfired_refused answers.VoterFull old new u = u.1
unfired_refused answers.Repeat old new u = u.1
unfired_refused answers.RoundLimit old new u = u.1
unfired_refused answers.RoundAhead old new u = u.1
unfired_refused answers.WrongProposer old new u = u.1
unfired_refused (answers.Submit fault) old new u = u.1
unfired_refused (answers.Bundle fault) old new u = u.1
unfired_refused answers.Halted old new u = u.1

pub unfired_result : (result : Result (Unit {0}) Answer) (old new : Core) → IfErr result (λ r. IsUnfired r old new) → IfErr result (λ r. IsRefused r old new)
unfired_result (Ok done) old new e = tt
unfired_result (Err r) old new e = unfired_refused r old new e

-- a rule that did not fire for memory or the journal hides a cause, and none stood
pub unfired_answer : (cause : Option Refusal) (result : Result (Unit {0}) Answer) (old new : Core) → cause ≡ None → IfErr result (λ r. IsUnfired r old new) → IsAnswer cause result
unfired_answer cause (Ok done) old new none e = none
unfired_answer cause (Err answers.OutOfMemory) old new none e = tt
unfired_answer cause (Err answers.JournalFailed) old new none e = none
unfired_answer cause (Err answers.Truncated) old new none e = absurd (let f : answers.Truncated ≡ answers.OutOfMemory = e.0 in cc)
unfired_answer cause (Err answers.TooLong) old new none e = absurd (let f : answers.TooLong ≡ answers.OutOfMemory = e.0 in cc)
unfired_answer cause (Err answers.BadKind) old new none e = absurd (let f : answers.BadKind ≡ answers.OutOfMemory = e.0 in cc)
unfired_answer cause (Err answers.BadSpelling) old new none e = absurd (let f : answers.BadSpelling ≡ answers.OutOfMemory = e.0 in cc)
unfired_answer cause (Err answers.UnknownSender) old new none e = absurd (let f : answers.UnknownSender ≡ answers.OutOfMemory = e.0 in cc)
unfired_answer cause (Err answers.BadTag) old new none e = absurd (let f : answers.BadTag ≡ answers.OutOfMemory = e.0 in cc)
unfired_answer cause (Err answers.OtherHeight) old new none e = absurd (let f : answers.OtherHeight ≡ answers.OutOfMemory = e.0 in cc)
unfired_answer cause (Err answers.VoterFull) old new none e = absurd (let f : answers.VoterFull ≡ answers.OutOfMemory = e.0 in cc)
unfired_answer cause (Err answers.Repeat) old new none e = absurd (let f : answers.Repeat ≡ answers.OutOfMemory = e.0 in cc)
unfired_answer cause (Err answers.RoundLimit) old new none e = absurd (let f : answers.RoundLimit ≡ answers.OutOfMemory = e.0 in cc)
unfired_answer cause (Err answers.RoundAhead) old new none e = absurd (let f : answers.RoundAhead ≡ answers.OutOfMemory = e.0 in cc)
unfired_answer cause (Err answers.WrongProposer) old new none e = absurd (let f : answers.WrongProposer ≡ answers.OutOfMemory = e.0 in cc)
unfired_answer cause (Err (answers.Submit fault)) old new none e = absurd (let f : (answers.Submit fault) ≡ answers.OutOfMemory = e.0 in cc)
unfired_answer cause (Err (answers.Bundle fault)) old new none e = absurd (let f : (answers.Bundle fault) ≡ answers.OutOfMemory = e.0 in cc)
unfired_answer cause (Err answers.Halted) old new none e = absurd (let f : answers.Halted ≡ answers.OutOfMemory = e.0 in cc)

-- ---- what a later part of a call tells, of the journal as it was before

pub both_serve : (old mid new : JournalSeen) → Serves old mid → Serves mid new → Serves old new
both_serve old mid new a b = record { failed = b.failed ∙ a.failed; failures = b.failures ∙ a.failures }

pub tells_from : (result : Result (Unit {0}) Answer) (old mid new : JournalSeen) → Serves old mid → TellsJournal result mid new → TellsJournal result old new
tells_from (Ok done) old mid new a t = both_serve old mid new a t
tells_from (Err answers.JournalFailed) old mid new a t = record { before = sym a.failed ∙ t.before; now = t.now; grew = subst (λ k. Grew k new.failures) a.failures t.grew }
tells_from (Err answers.Truncated) old mid new a t = both_serve old mid new a t
tells_from (Err answers.TooLong) old mid new a t = both_serve old mid new a t
tells_from (Err answers.BadKind) old mid new a t = both_serve old mid new a t
tells_from (Err answers.BadSpelling) old mid new a t = both_serve old mid new a t
tells_from (Err answers.UnknownSender) old mid new a t = both_serve old mid new a t
tells_from (Err answers.BadTag) old mid new a t = both_serve old mid new a t
tells_from (Err answers.OtherHeight) old mid new a t = both_serve old mid new a t
tells_from (Err answers.VoterFull) old mid new a t = both_serve old mid new a t
tells_from (Err answers.Repeat) old mid new a t = both_serve old mid new a t
tells_from (Err answers.RoundLimit) old mid new a t = both_serve old mid new a t
tells_from (Err answers.RoundAhead) old mid new a t = both_serve old mid new a t
tells_from (Err answers.WrongProposer) old mid new a t = both_serve old mid new a t
tells_from (Err (answers.Submit fault)) old mid new a t = both_serve old mid new a t
tells_from (Err (answers.Bundle fault)) old mid new a t = both_serve old mid new a t
tells_from (Err answers.Halted) old mid new a t = both_serve old mid new a t
tells_from (Err answers.OutOfMemory) old mid new a t = both_serve old mid new a t

-- the rules that fired before one that did not
pub run_unfired : (r : Answer) (old mid new : Core) → HasRun old mid → IsUnfired r mid new → TellsJournal (Err r) mid.journal new.journal → HasRun old new
run_unfired answers.JournalFailed old mid new ran u t = subst (HasRun old) (sym u) (run_failed old mid new.journal t.now ran)
run_unfired answers.OutOfMemory old mid new ran u t = subst (HasRun old) (sym u.1) ran
run_unfired answers.Truncated old mid new ran u t = absurd (let f : answers.Truncated ≡ answers.OutOfMemory = u.0 in cc)
run_unfired answers.TooLong old mid new ran u t = absurd (let f : answers.TooLong ≡ answers.OutOfMemory = u.0 in cc)
run_unfired answers.BadKind old mid new ran u t = absurd (let f : answers.BadKind ≡ answers.OutOfMemory = u.0 in cc)
run_unfired answers.BadSpelling old mid new ran u t = absurd (let f : answers.BadSpelling ≡ answers.OutOfMemory = u.0 in cc)
run_unfired answers.UnknownSender old mid new ran u t = absurd (let f : answers.UnknownSender ≡ answers.OutOfMemory = u.0 in cc)
run_unfired answers.BadTag old mid new ran u t = absurd (let f : answers.BadTag ≡ answers.OutOfMemory = u.0 in cc)
run_unfired answers.OtherHeight old mid new ran u t = absurd (let f : answers.OtherHeight ≡ answers.OutOfMemory = u.0 in cc)
run_unfired answers.VoterFull old mid new ran u t = absurd (let f : answers.VoterFull ≡ answers.OutOfMemory = u.0 in cc)
run_unfired answers.Repeat old mid new ran u t = absurd (let f : answers.Repeat ≡ answers.OutOfMemory = u.0 in cc)
run_unfired answers.RoundLimit old mid new ran u t = absurd (let f : answers.RoundLimit ≡ answers.OutOfMemory = u.0 in cc)
run_unfired answers.RoundAhead old mid new ran u t = absurd (let f : answers.RoundAhead ≡ answers.OutOfMemory = u.0 in cc)
run_unfired answers.WrongProposer old mid new ran u t = absurd (let f : answers.WrongProposer ≡ answers.OutOfMemory = u.0 in cc)
run_unfired (answers.Submit fault) old mid new ran u t = absurd (let f : (answers.Submit fault) ≡ answers.OutOfMemory = u.0 in cc)
run_unfired (answers.Bundle fault) old mid new ran u t = absurd (let f : (answers.Bundle fault) ≡ answers.OutOfMemory = u.0 in cc)
run_unfired answers.Halted old mid new ran u t = absurd (let f : answers.Halted ≡ answers.OutOfMemory = u.0 in cc)

pub unfired_by : (r : Answer) (old new : Core) → IsUnfired r old new → (r ≡ answers.OutOfMemory) ⊎ (r ≡ answers.JournalFailed)
unfired_by answers.JournalFailed old new u = inr refl
unfired_by answers.OutOfMemory old new u = inl refl
unfired_by answers.Truncated old new u = inl u.0
unfired_by answers.TooLong old new u = inl u.0
unfired_by answers.BadKind old new u = inl u.0
unfired_by answers.BadSpelling old new u = inl u.0
unfired_by answers.UnknownSender old new u = inl u.0
unfired_by answers.BadTag old new u = inl u.0
unfired_by answers.OtherHeight old new u = inl u.0
unfired_by answers.VoterFull old new u = inl u.0
unfired_by answers.Repeat old new u = inl u.0
unfired_by answers.RoundLimit old new u = inl u.0
unfired_by answers.RoundAhead old new u = inl u.0
unfired_by answers.WrongProposer old new u = inl u.0
unfired_by (answers.Submit fault) old new u = inl u.0
unfired_by (answers.Bundle fault) old new u = inl u.0
unfired_by answers.Halted old new u = inl u.0
