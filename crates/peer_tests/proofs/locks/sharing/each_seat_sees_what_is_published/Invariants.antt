use Rattle.status_words.specs.Ends.{opened_table}
use Rattle.peer_tests.proofs.locks.sharing.each_seat_sees_what_is_published.Given as goal

abbrev pub ghosts-with_status : goal.ghosts-with_status
ghosts-with_status g a = record { table = opened_table a.opened }
