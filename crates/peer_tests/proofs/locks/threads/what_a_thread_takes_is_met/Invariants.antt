use Rattle.status_words.specs.Ends.{opened_table}
use Rattle.peer_tests.proofs.locks.threads.what_a_thread_takes_is_met.Given as goal

abbrev pub ghosts-with_threads : goal.ghosts-with_threads
ghosts-with_threads g a = record { table = opened_table a.opened }
