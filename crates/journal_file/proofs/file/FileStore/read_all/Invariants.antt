use Rattle.std.proofs.Common.{◌≡◌, ◌++◌, ℕ, List}
use Rattle.journal_file.specs.Asked.{stands, leaves, all_asked}
use Rattle.vote_journal.specs.Store.{Just}
use Rattle.journal_file.proofs.file.FileStore.read_all.Given as goal

abbrev pub invariant-loop : goal.invariant-loop
invariant-loop g l = ((start : g.row.T.Denot) (before : List ℕ) → g.T.Sink.becomes start before l.fn.sink → g.T.Sink.becomes start (before ++ stands (all_asked l.self.asked.events)) l.sink) × (l.self.is_read ≡ l.fn.self.is_read) × (l.self.failures ≡ l.fn.self.failures) × Just (stands (all_asked l.self.asked.events)) (leaves (all_asked l.self.asked.events))
