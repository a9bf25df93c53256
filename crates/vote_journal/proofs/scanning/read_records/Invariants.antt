use Rattle.std.proofs.Common.{List, ℕ, length}
use Rattle.vote_journal.specs.Planning.{Read}
use Rattle.vote_journal.proofs.Pieces.{ReadOn}
use Rattle.vote_journal.proofs.scanning.read_records.Given as goal

abbrev pub invariant-loop-standing : goal.invariant-loop-standing
invariant-loop-standing l = (all : List ℕ) → Read l.fn.powers l.fn.me all l.fn.kept_before l.fn.before l.fn.bytes → ReadOn l.fn.powers l.fn.me all l.fn.bytes l.kept l.standing l.rest

abbrev pub decreases-loop-standing : goal.decreases-loop-standing
decreases-loop-standing l = length l.rest
