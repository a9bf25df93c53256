-- The answers of a node's parts, by the names of the node's own.
use Rattle.std.proofs.Common.{◌≡◌, List, [], ◌∷◌, inl, inr, Option, Some, None, Err, refl, ap, option_map}
use Rattle.std.proofs.lemmas.Bool.{cases_Bool}
use Rattle.protocol.specs.Refusals.{TxRefusal, BundleRefusal, Refusal, NotQueued, NotDecided, Cause, first_cause, answering}
use Rattle.protocol.specs.Answers.{IsCause, cause_of, IsRefusal, of_submit, of_judgement}
use Rattle.protocol.specs.declared.refusal.Refusal.{Refusal as Answer}
use Rattle.protocol.specs.declared.refusal.Refusal.TheVariants as answers
use Rattle.protocol.specs.declared.refusal.SubmitFault.{SubmitFault}
use Rattle.protocol.specs.declared.refusal.SubmitFault.TheVariants as submits
use Rattle.mempool.specs.Answers.{IsAnswer as IsSubmitAnswer}
use Rattle.protocol.specs.declared.refusal.JudgeFault.{JudgeFault}
use Rattle.protocol.specs.declared.refusal.JudgeFault.TheVariants as judges
use Rattle.height_catchup.specs.Judging.{IsVerdict}

pub first_answering : {R S : Type 0} (f : R → S) (xs : List (Cause R)) → first_cause (answering f xs) ≡ option_map f (first_cause xs)
first_answering f [] = refl
first_answering f (x ∷ xs) = elim (cases_Bool x.stands) [ inl t ↦ rw t refl | inr t ↦ rw t (first_answering f xs) ]

pub submit_refused : (cause : Option TxRefusal) (fault : SubmitFault) → IsSubmitAnswer cause (Err fault) → IsRefusal (option_map NotQueued cause) (of_submit fault)
submit_refused cause submits.UnknownClient h = ap (option_map NotQueued) h
submit_refused cause submits.BadTag h = ap (option_map NotQueued) h
submit_refused cause submits.OldNumber h = ap (option_map NotQueued) h
submit_refused cause submits.SessionAhead h = ap (option_map NotQueued) h
submit_refused cause submits.Gap h = ap (option_map NotQueued) h
submit_refused cause submits.Closed h = ap (option_map NotQueued) h
submit_refused cause submits.QueueFull h = ap (option_map NotQueued) h
submit_refused cause submits.TooLong h = ap (option_map NotQueued) h
submit_refused cause submits.OutOfMemory h = tt

pub judge_refused : (cause : Option BundleRefusal) (fault : JudgeFault) → IsVerdict cause (Err fault) → IsRefusal (option_map NotDecided cause) (of_judgement fault)
judge_refused cause judges.NoQuorum h = ap (option_map NotDecided) h
judge_refused cause judges.WrongDigest h = ap (option_map NotDecided) h
judge_refused cause judges.BadTag h = ap (option_map NotDecided) h
judge_refused cause judges.NotValid h = ap (option_map NotDecided) h
judge_refused cause judges.OutOfMemory h = tt

-- ---- the cause that an answer tells

pub cause_told : (first told : Option Refusal) → IsCause first told → (x : Refusal) × (first ≡ Some x)
cause_told first None h = absurd h
cause_told first (Some x) h = (x, h)

pub told_refused : (first : Option Refusal) (r : Answer) → IsCause first (cause_of r) → IsRefusal first r
told_refused first answers.Truncated h = h
told_refused first answers.TooLong h = h
told_refused first answers.BadKind h = h
told_refused first answers.BadSpelling h = h
told_refused first answers.UnknownSender h = h
told_refused first answers.BadTag h = h
told_refused first answers.OtherHeight h = h
told_refused first answers.VoterFull h = h
told_refused first answers.Repeat h = h
told_refused first answers.RoundLimit h = h
told_refused first answers.RoundAhead h = h
told_refused first answers.WrongProposer h = h
told_refused first (answers.Submit fault) h = h
told_refused first (answers.Bundle fault) h = h
told_refused first answers.Halted h = h
told_refused first answers.OutOfMemory h = tt
told_refused first answers.JournalFailed h = absurd h
