-- What comes of a node's answer.
use Rattle.std.specs.Prelude.{ℕ, Bool, true, false, ◌==◌, nat_lt, if◌then◌else◌, Result, Ok, Err, Option, Some, None}
use Rattle.protocol.specs.declared.refusal.Refusal.{Refusal}
use Rattle.protocol.specs.declared.refusal.Refusal.TheVariants as answers
use Rattle.protocol.specs.Answers.{numbers_of}
use Rattle.messages.specs.declared.replies.Reply.{Reply}
use Rattle.peer_core.specs.declared.heading.Kind.{Kind}
use Rattle.peer_core.specs.declared.heading.Kind.TheVariants as kinds
use Rattle.peer_core.specs.declared.heading.Heading.{Heading}
use Rattle.peer_core.specs.declared.answering.Then.{Then}
use Rattle.peer_core.specs.declared.answering.Then.TheVariants.{Nothing, PassOn, Keep, Note, Halt}

abbrev pub Answer : Type 0
Answer = Result (Unit {0}) Refusal

-- 17 or 15
abbrev pub has_halted : Answer → Bool
has_halted (Err answers.Halted) = true
has_halted (Err answers.JournalFailed) = true
has_halted _ = false

-- every refusal but 16 and 17 changes nothing
abbrev pub has_changed : Answer → Bool
has_changed (Ok x) = true
has_changed (Err answers.OutOfMemory) = true
has_changed (Err answers.JournalFailed) = true
has_changed _ = false

abbrev pub is_other_height : Answer → Bool
is_other_height (Err answers.OtherHeight) = true
is_other_height _ = false

abbrev pub is_accepted : Answer → Bool
is_accepted (Ok x) = true
is_accepted (Err r) = false

-- the code of a reply, and the number behind it, which goes with 13 alone
abbrev pub reply_with : Bool → ℕ × ℕ → Reply
reply_with true numbers = record { code = numbers.0; inner = numbers.1 }
reply_with false numbers = record { code = numbers.0; inner = 0 }

abbrev pub reply_for : Answer → Reply
reply_for (Ok x) = record { code = 0; inner = 0 }
reply_for (Err r) = reply_with ((numbers_of r).0 == 13) (numbers_of r)

-- proposals and votes are kept to be passed on
abbrev pub is_of_round : Kind → Bool
is_of_round kinds.Proposal = true
is_of_round kinds.Prevote = true
is_of_round kinds.Precommit = true
is_of_round kinds.Ask = false
is_of_round kinds.Bundle = false

-- a frame of a later height: an ask is of no use then
abbrev pub later : Kind → ℕ → Then
later kinds.Ask height = Note height
later _ height = Keep height

abbrev pub taken : Heading → ℕ → Then
taken h own = if is_of_round h.kind then (if h.height == own then PassOn h.sender else Nothing) else Nothing

abbrev pub refused : Bool → Heading → ℕ → Then
refused true h own = if nat_lt own h.height then later h.kind h.height else Nothing
refused false h own = Nothing

abbrev pub of_validator : Answer → Heading → ℕ → Then
of_validator (Ok x) h own = taken h own
of_validator (Err r) h own = refused (is_other_height (Err r)) h own

abbrev pub of_frame : Answer → Option Heading → ℕ → Then
of_frame answer None own = Nothing
of_frame answer (Some h) own = of_validator answer h own

abbrev pub then_of : Answer → Option Heading → ℕ → Then
then_of answer heading own = if has_halted answer then Halt else of_frame answer heading own
