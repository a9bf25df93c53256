use Rattle.thread_tests.proofs.tests.words.readers_beside_a_publisher.Given as goal
use Rattle.status_words.specs.Ends.{opened_table}

abbrev pub ghosts-watched : goal.ghosts-watched
ghosts-watched g a = record { table = opened_table a.opened }
