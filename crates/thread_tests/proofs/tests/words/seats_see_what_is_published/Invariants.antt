use Rattle.thread_tests.proofs.tests.words.seats_see_what_is_published.Given as goal
use Rattle.status_words.specs.Ends.{opened_table}

abbrev pub ghosts-seen_in_turn : goal.ghosts-seen_in_turn
ghosts-seen_in_turn g a = record { table = opened_table a.opened }
