use Rattle.status_words.specs.Ends.{opened_table}
use Rattle.tmbench.proofs.lock.load.Load.shared.Given as goal

abbrev pub ghosts-named : goal.ghosts-named
ghosts-named g a = record { table = opened_table a.opened }
