use Rattle.status_words.specs.Ends.{opened_table}
use Rattle.peer_tests.proofs.locks.threads.a_hundred_heights_among_eight_threads.Given as goal

abbrev pub ghosts-with_eight_threads : goal.ghosts-with_eight_threads
ghosts-with_eight_threads g a = record { table = opened_table a.opened }
