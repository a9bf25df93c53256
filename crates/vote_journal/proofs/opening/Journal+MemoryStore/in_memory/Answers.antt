use Rattle.std.proofs.Common.{List, [], ℕ, sym, ap, ◌∙◌, subst}
use Rattle.vote_journal.specs.declared.memory.MemoryStore.{MemoryStore}
use Rattle.vote_journal.specs.Layout.{IsWhole}
use Rattle.vote_journal.proofs.Stops.{front_whole}
use Rattle.vote_journal.proofs.opening.Journal+MemoryStore.in_memory.Goals as goal

pub returns-clause-empty : goal.returns-clause-empty
returns-clause-empty c = λ powers. subst (λ (l : List ℕ). IsWhole powers c.args.me l []) (sym (ap (λ (s : MemoryStore). s.bytes.items) c.new.ensures ∙ c.in_ok-header.ensures)) (front_whole powers c.args.me)
