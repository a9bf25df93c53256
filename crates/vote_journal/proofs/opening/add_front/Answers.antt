use Rattle.std.proofs.Common.{List, ℕ, inl, inr, not, subst}
use Rattle.vote_journal.specs.Grammar.{header, mark}
use Rattle.vote_journal.specs.Saving.{if_wanted}
use Rattle.vote_journal.specs.Store.{Begun}
use Rattle.vote_journal.proofs.Stops.{begun_front, begun_behind}
use Rattle.vote_journal.proofs.opening.add_front.Goals as goal

pub returns-in_err-add-clause-stop : goal.returns-in_err-add-clause-stop
returns-in_err-add-clause-stop g c = λ x left. elim (c.add.ensures.stop x left) [
  | inl h ↦ inl h
  | inr b ↦ inr (begun_front (g.S.Store.seen c.args.store.now) (if_wanted c.args.fresh header) (if_wanted (not c.args.marked) mark) x b)
]

pub returns-clause-stop : goal.returns-clause-stop
returns-clause-stop g c = λ x left. elim (c.add-2.ensures.stop x left) [
  | inl h ↦ (elim (c.add.ensures.stop x h) [
    | inl k ↦ inl k
    | inr b ↦ inr (begun_front (g.S.Store.seen c.args.store.now) (if_wanted c.args.fresh header) (if_wanted (not c.args.marked) mark) x b)
  ])
  | inr b ↦ inr (begun_behind (g.S.Store.seen c.args.store.now) (if_wanted c.args.fresh header) (if_wanted (not c.args.marked) mark) x
      (subst (λ (s : List ℕ). Begun s (if_wanted (not c.args.marked) mark) x) c.in_ok-add.ensures.added b))
]
