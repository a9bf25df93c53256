use Rattle.std.proofs.Common.{◌≡◌, ◌<◌, length, sym, ◌∙◌, List, Bor, suc, ap, arith, rules}
use Rattle.std.proofs.lemmas.Bool.Decides.{nat_tests}
use Rattle.std.proofs.lemmas.List.{nil_from_length}
use Rattle.std.proofs.lemmas.List.Elements.{All-rest, All-push}
use Rattle.protocol.specs.Values.{Tx}
use Rattle.mempool.proofs.Rotation.{in_turn_none, taken_on, taken_last}
use Rattle.mempool.proofs.turns.TurnsIterator.next.Goals.{then-not-is_empty, else-not-is_empty}
use Rattle.mempool.proofs.turns.TurnsIterator.next.Goals as goal

abbrev IsNonempty : Bor (List Tx) → Type 0
IsNonempty q = 0 < length q.now

pub returns-in_err-queue-clause-steps : goal.returns-in_err-queue-clause-steps
returns-in_err-queue-clause-steps c =
    let none = nil_from_length c.self.inside.queues.items (omega (arith, c.in_err-queue.ensures.cases.0)) in
    rw c.from_residual.ensures (sym c.self.view_is ∙ in_turn_none _ none, in_turn_none _ (sym c.in_err-queue.ensures.items ∙ none))

pub invariant_of-self-then-not-is_empty : goal.invariant_of-self-then-not-is_empty
invariant_of-self-then-not-is_empty c = rw c.push_back_reserved.ensures.items (All-push IsNonempty c.pop_front.new.self.items c.in_ok-first.rest
    (All-rest IsNonempty c.in_ok-queue.queue c.pop_front.new.self.items c.self.inside.queues.items c.in_ok-queue.ensures.items c.self.invariant) (grind (arith, nat_tests)))

pub invariant_of-self-else-not-is_empty : goal.invariant_of-self-else-not-is_empty
invariant_of-self-else-not-is_empty c = All-rest IsNonempty c.in_ok-queue.queue c.pop_front.new.self.items c.self.inside.queues.items c.in_ok-queue.ensures.items c.self.invariant

pub returns-clause-steps : goal.returns-clause-steps
returns-clause-steps c = sym c.self.view_is ∙ elim c.if-not-is_empty.branch [
  | then-not-is_empty w ↦ rw w.self-is (taken_on _ _ c.in_ok-queue.queue c.in_ok-first.first.now c.in_ok-first.rest c.in_ok-queue.ensures.items c.in_ok-first.ensures.cases.0 _ w.push_back_reserved.ensures.items)
  | else-not-is_empty w ↦ rw w.self-is (taken_last _ _ c.in_ok-queue.queue c.in_ok-first.first.now c.in_ok-first.rest c.in_ok-queue.ensures.items c.in_ok-first.ensures.cases.0 (grind (arith, nat_tests)))
]

pub returns-clause-goes : goal.returns-clause-goes
returns-clause-goes c = let shorter : length c.args.self.now ≡ suc (length c.if-not-is_empty.self) = ap (λ (ts : List Tx). length ts) (returns-clause-steps c) in search rules
