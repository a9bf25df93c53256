-- How the program ends, and what it tells.
use Rattle.std.specs.Prelude.{ℕ, List, ◌∷◌, ◌++◌, codes, decimal, ◌==◌, if◌then◌else◌}
use Rattle.authenticators.specs.declared.fault.KeysFault.{KeysFault}
use Rattle.authenticators.specs.declared.fault.KeysFault.TheVariants as keys
use Rattle.vote_journal.specs.declared.fault.JournalFault.{JournalFault}
use Rattle.vote_journal.specs.declared.fault.JournalFault.TheVariants as journal
use Rattle.messages.specs.declared.replies.Reply.{Reply}
use Rattle.node_settings.specs.declared.answer.Answer.{Answer}
use Rattle.node_settings.specs.declared.status_line.StatusLine.{StatusLine}
use Rattle.node_settings.specs.declared.invocation.SettingsFault.{SettingsFault}
use Rattle.node_settings.specs.declared.invocation.SettingsFault.TheVariants as words
use Rattle.node_settings.specs.declared.failure.KeysTrouble.{KeysTrouble}
use Rattle.node_settings.specs.declared.failure.KeysTrouble.TheVariants as in_keys
use Rattle.node_settings.specs.declared.failure.JournalTrouble.{JournalTrouble}
use Rattle.node_settings.specs.declared.failure.JournalTrouble.TheVariants as in_journal
use Rattle.node_settings.specs.declared.failure.ConfigTrouble.TheVariants as in_config
use Rattle.node_settings.specs.declared.failure.Failure.{Failure}
use Rattle.node_settings.specs.declared.failure.Failure.TheVariants.{Usage, Keys, Journal, Config, CannotListen, CannotConnect, Halted, OutOfMemory, Line}

abbrev pub settings_number : SettingsFault → ℕ
settings_number words.Usage = 1
settings_number words.OutOfMemory = 2

abbrev pub keys_number : KeysTrouble → ℕ
keys_number in_keys.Unreadable = 0
keys_number in_keys.BadLine = 1
keys_number in_keys.Missing = 2
keys_number in_keys.Repeated = 3
keys_number in_keys.Unwritten = 4
keys_number in_keys.NoBytes = 5

abbrev pub journal_number : JournalTrouble → ℕ
journal_number in_journal.Unopened = 0
journal_number in_journal.Failed = 1
journal_number in_journal.BadRecord = 3

-- the exit status
abbrev pub status_of : Failure → ℕ
status_of Usage = 2
status_of (Keys trouble) = 3
status_of (Journal trouble) = 4
status_of (Config trouble) = 2
status_of CannotListen = 5
status_of CannotConnect = 5
status_of Halted = 6
status_of OutOfMemory = 7
status_of (Line number) = 8

-- the line on standard error
abbrev pub line_of : Failure → List ℕ
line_of Usage = codes "tmnode: usage"
line_of (Keys trouble) = codes "tmnode: keys " ++ decimal (keys_number trouble)
line_of (Journal trouble) = codes "tmnode: journal " ++ decimal (journal_number trouble)
line_of (Config in_config.Unreadable) = codes "tmnode: config 0"
line_of (Config (in_config.NotToml line)) = codes "tmnode: config 1 line " ++ decimal line
line_of (Config in_config.NotAnOption) = codes "tmnode: config 2"
line_of CannotListen = codes "tmnode: cannot listen"
line_of CannotConnect = codes "tmnode: cannot connect"
line_of Halted = codes "tmnode: halted"
line_of OutOfMemory = codes "tmnode: out of memory"
line_of (Line number) = codes "tmnode: line " ++ decimal number

-- ---- the faults of the parts

abbrev pub of_settings : SettingsFault → Failure
of_settings words.Usage = Usage
of_settings words.OutOfMemory = OutOfMemory

abbrev pub of_keys : KeysFault → Failure
of_keys keys.BadLine = Keys in_keys.BadLine
of_keys keys.Missing = Keys in_keys.Missing
of_keys keys.Repeated = Keys in_keys.Repeated
of_keys keys.OutOfMemory = OutOfMemory

abbrev pub of_journal : JournalFault → Failure
of_journal journal.Failed = Journal in_journal.Failed
of_journal journal.OutOfMemory = OutOfMemory
of_journal journal.BadRecord = Journal in_journal.BadRecord

-- ---- what a client is told

-- what is printed of a reply: that it is accepted, or the two numbers of the refusal
abbrev pub line_of_reply : Reply → List ℕ
line_of_reply reply = if reply.code == 0 then codes "accepted" else codes "refused " ++ decimal reply.code ++ 32 ∷ decimal reply.inner

abbrev pub answer_line : Answer → List ℕ
answer_line answer = line_of_reply answer.reply

abbrev pub answer_status : Answer → ℕ
answer_status answer = if answer.reply.code == 0 then 0 else 1

-- ---- what who asks is told of a validator

abbrev pub status_line : StatusLine → List ℕ
status_line line = codes "height " ++ decimal line.height ++ codes " delivered " ++ decimal line.delivered ++ codes " links " ++ decimal line.links
