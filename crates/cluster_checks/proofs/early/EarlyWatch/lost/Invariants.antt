use Rattle.std.proofs.Common.{◌≡◌, ◌==◌}
use Rattle.std.specs.List.{find}
use Rattle.cluster_checks.proofs.early.EarlyWatch.lost.Given as goal

-- the first one of the height, if there is one, is among those that are left
abbrev pub invariant-loop-link : goal.invariant-loop-link
invariant-loop-link l =
    (goal.iterator-loop-link).can_next l.link-iterator ×
    (goal.iterator-loop-link).is_finite l.link-iterator ×
    (find (λ noted. noted.1.height == l.fn.height) l.fn.self.first.entries ≡ find (λ noted. noted.1.height == l.fn.height) l.link-iterator)
