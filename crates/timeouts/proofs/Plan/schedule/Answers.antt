use Rattle.std.proofs.Common.{◌≤◌, length, leb, arith, rules}
use Rattle.std.proofs.lemmas.List.Sorted.{IsPartitionPoint-from_clause, IsPartitionedBy-leb}
use Rattle.timeouts.specs.Waiting.{Due}
use Rattle.timeouts.proofs.Placing.{IsPlaceOf, scheduled, insert_is_ordered}
use Rattle.timeouts.proofs.Plan.schedule.Goals as goal

-- where the binary search ends
place : (c : goal.In_ok-insert) → IsPlaceOf (record { at = c.saturating_add-at.result; timeout = c.args.timeout }) c.self.inside.due.items c.partition_point-place.result
place c = IsPartitionPoint-from_clause (λ (e : Due). leb e.at c.saturating_add-at.result) c.self.inside.due.items c.partition_point-place.result c.partition_point-place.ensures.partitioned
    (IsPartitionedBy-leb (λ (e : Due). e.at) c.self.inside.due.items c.saturating_add-at.result c.self.invariant.2) (λ a r q k. search rules)

pub returns-clause-ok : goal.returns-clause-ok
returns-clause-ok c =
    let within : c.partition_point-place.result ≤ length c.self.inside.due.items = omega arith in
    rw (← c.self.view_is) (scheduled _ c.args.now c.lasting.result c.saturating_add-at.result c.args.timeout c.insert.new.self.items c.partition_point-place.result
    (rw (← c.self.view_is) at c.lasting.ensures) c.saturating_add-at.ensures within (place c) c.in_ok-insert.ensures.items)

pub invariant_of-self-2 : goal.invariant_of-self-2
invariant_of-self-2 c =
    let within : c.partition_point-place.result ≤ length c.self.inside.due.items = omega arith in
    (c.self.invariant.0, c.self.invariant.1, rw c.in_ok-insert.ensures.items (insert_is_ordered _ c.self.inside.due.items c.partition_point-place.result within (place c) c.self.invariant.2))
