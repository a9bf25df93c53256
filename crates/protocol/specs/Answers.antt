-- What is answered where what comes is refused: which cause an answer tells, and its numbers.
use Rattle.std.specs.Prelude.{◌≡◌, ℕ, Bool, true, false, Option, Some, None, option_map, Result, Ok, Err}
use Rattle.transactions.specs.declared.fault.Fault.{Fault}
use Rattle.transactions.specs.declared.fault.Fault.TheVariants as faults
use Rattle.protocol.specs.Refusals.{TxRefusal, BundleRefusal, Refusal, refusal_number}
use Rattle.protocol.specs.Refusals as causes
use Rattle.protocol.specs.Calls.{Halted, NoMemory, JournalFailed, call_number}
use Rattle.protocol.specs.declared.refusal.SubmitFault.{SubmitFault}
use Rattle.protocol.specs.declared.refusal.SubmitFault.TheVariants as submits
use Rattle.protocol.specs.declared.refusal.JudgeFault.{JudgeFault}
use Rattle.protocol.specs.declared.refusal.JudgeFault.TheVariants as judges
use Rattle.protocol.specs.declared.refusal.Refusal.{Refusal as Answer}
use Rattle.protocol.specs.declared.refusal.Refusal.TheVariants as answers

-- ---- which cause an answer tells; none, where it tells of memory, of the journal or of a node that halted

abbrev pub submit_cause : SubmitFault → Option TxRefusal
submit_cause submits.UnknownClient = Some causes.UnknownClient
submit_cause submits.BadTag = Some causes.BadTxTag
submit_cause submits.OldNumber = Some causes.OldNumber
submit_cause submits.Gap = Some causes.Gap
submit_cause submits.Closed = Some causes.Closed
submit_cause submits.QueueFull = Some causes.QueueFull
submit_cause submits.TooLong = Some causes.TxTooLong
submit_cause submits.SessionAhead = Some causes.SessionAhead
submit_cause submits.OutOfMemory = None

abbrev pub judge_cause : JudgeFault → Option BundleRefusal
judge_cause judges.NoQuorum = Some causes.NoQuorum
judge_cause judges.WrongDigest = Some causes.WrongDigest
judge_cause judges.BadTag = Some causes.BadBundleTag
judge_cause judges.NotValid = Some causes.NotValid
judge_cause judges.OutOfMemory = None

abbrev pub cause_of : Answer → Option Refusal
cause_of answers.Truncated = Some (causes.Unread faults.Truncated)
cause_of answers.TooLong = Some (causes.Unread faults.TooLong)
cause_of answers.BadKind = Some (causes.Unread faults.BadKind)
cause_of answers.BadSpelling = Some (causes.Unread faults.BadSpelling)
cause_of answers.UnknownSender = Some causes.UnknownSender
cause_of answers.BadTag = Some causes.BadTag
cause_of answers.OtherHeight = Some causes.OtherHeight
cause_of answers.VoterFull = Some causes.VoterFull
cause_of answers.Repeat = Some causes.Repeat
cause_of answers.RoundLimit = Some causes.RoundLimit
cause_of answers.RoundAhead = Some causes.RoundAhead
cause_of answers.WrongProposer = Some causes.WrongProposer
cause_of (answers.Submit fault) = option_map causes.NotQueued (submit_cause fault)
cause_of (answers.Bundle fault) = option_map causes.NotDecided (judge_cause fault)
cause_of answers.Halted = None
cause_of answers.OutOfMemory = None
cause_of answers.JournalFailed = None

-- This first cause is the one that is told.
abbrev pub IsCause : {R : Type 0} → Option R → Option R → Type 0
IsCause first (Some told) = first ≡ Some told
IsCause first None = ⊥

-- Nothing stands, or the answer tells the first cause; it tells of nothing else.
abbrev pub IsVerdict : Option Refusal → Result (Unit {0}) Answer → Type 0
IsVerdict first (Ok done) = first ≡ None
IsVerdict first (Err answer) = IsCause first (cause_of answer)

-- The same, where a call also may not be done: memory may run out whatever stands, and the journal fail where nothing does.
abbrev pub IsRefusal : Option Refusal → Answer → Type 0
IsRefusal first answers.OutOfMemory = Unit {0}
IsRefusal first answers.JournalFailed = first ≡ None
IsRefusal first answer = IsCause first (cause_of answer)

abbrev pub IsAnswer : Option Refusal → Result (Unit {0}) Answer → Type 0
IsAnswer first (Ok done) = first ≡ None
IsAnswer first (Err answer) = IsRefusal first answer

-- A node that has halted says so to everything.
abbrev pub Answers : Bool → Option Refusal → Result (Unit {0}) Answer → Type 0
Answers true first result = result ≡ Err answers.Halted
Answers false first result = IsAnswer first result

-- ---- its numbers

-- those of the cause, or of the call that was not done; a node tells its parts' want of memory as its own
abbrev pub numbers_telling : Option Refusal → Answer → ℕ × ℕ
numbers_telling (Some cause) answer = refusal_number cause
numbers_telling None answers.Halted = call_number Halted
numbers_telling None answers.JournalFailed = call_number JournalFailed
numbers_telling None (answers.Submit fault) = (13, 8)
numbers_telling None (answers.Bundle fault) = (14, 5)
numbers_telling None answer = call_number NoMemory

-- a number, and an inner one
abbrev pub numbers_of : Answer → ℕ × ℕ
numbers_of answer = numbers_telling (cause_of answer) answer

-- ---- the faults of a node's parts, as it answers them

abbrev pub of_fault : Fault → Answer
of_fault faults.Truncated = answers.Truncated
of_fault faults.TooLong = answers.TooLong
of_fault faults.BadSpelling = answers.BadSpelling
of_fault faults.BadKind = answers.BadKind
of_fault faults.OutOfMemory = answers.OutOfMemory

abbrev pub of_submit : SubmitFault → Answer
of_submit submits.OutOfMemory = answers.OutOfMemory
of_submit fault = answers.Submit fault

abbrev pub of_judgement : JudgeFault → Answer
of_judgement judges.OutOfMemory = answers.OutOfMemory
of_judgement fault = answers.Bundle fault
