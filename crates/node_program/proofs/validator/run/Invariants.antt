use Rattle.status_words.specs.Ends.{opened_table}
use Rattle.node_program.proofs.validator.run.Given as goal

abbrev pub ghosts-serve_core : goal.ghosts-serve_core
ghosts-serve_core g a = record { table = opened_table a.opened }
