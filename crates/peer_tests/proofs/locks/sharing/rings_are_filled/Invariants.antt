use Rattle.status_words.specs.Ends.{opened_table}
use Rattle.peer_tests.proofs.locks.sharing.rings_are_filled.Given as goal

abbrev pub ghosts-with_rings : goal.ghosts-with_rings
ghosts-with_rings g a = record { table = opened_table a.opened }
