-- Which asks the edge may answer in the node's place.
use Rattle.std.specs.Prelude.{ℕ, Bool, false, nat_lt, Result, Ok, Err}
use Rattle.transactions.specs.declared.fault.Fault.{Fault}
use Rattle.peer_core.specs.declared.heading.Heading.{Heading}
use Rattle.peer_core.specs.declared.heading.Kind.{Kind}
use Rattle.peer_core.specs.declared.heading.Kind.TheVariants.{Proposal, Prevote, Precommit, Ask, Bundle}
use Rattle.peer_core.specs.declared.manner.Keeping.{Keeping}
use Rattle.peer_core.specs.declared.manner.Keeping.TheVariants.{Open, Guarded}

-- with guarded links one for a bundle of a lower height than the own one
abbrev pub is_behind : Keeping → ℕ → Heading → Bool
is_behind Open own h = false
is_behind Guarded own h = nat_lt h.height own

abbrev pub of_kind : Kind → Bool → Bool
of_kind Proposal behind = false
of_kind Prevote behind = false
of_kind Precommit behind = false
of_kind Ask behind = behind
of_kind Bundle behind = false

abbrev pub may_be_shared : Keeping → ℕ → Result Heading Fault → Bool
may_be_shared keeping own (Ok h) = of_kind h.kind (is_behind keeping own h)
may_be_shared keeping own (Err fault) = false
