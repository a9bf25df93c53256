-- The plain account: what was scheduled and neither given nor forgotten, in order of scheduling. A plan holds it in order of time.
use Rattle.std.specs.Prelude.{◌≡◌, ℕ, ◌<◌, ◌≤◌, List, [], ◌∷◌, ◌++◌, All, filter, Some, None, ◌==◌}
use Rattle.std.specs.List.Sorted.{IsNonDecreasingBy}
use Rattle.protocol.specs.declared.types.Timeout.{Timeout}
use Rattle.timeouts.specs.Waiting.{Due, placed, given, left, of_heights_from}

-- those that are due at this very time
abbrev pub at_time : ℕ → List Due → List Due
at_time at ds = filter (λ d. d.at == at) ds

-- The list is the account in order of time, and for each time in the account's own order.
pub record IsInTime (account ds : List Due) : Type 0 where
  pub ordered : IsNonDecreasingBy (λ d. d.at) ds
  pub same : (at : ℕ) → at_time at ds ≡ at_time at account

-- The next of an account: all that stand before it are due later, and those behind it no sooner.
pub record Next (account : List Due) : Type 0 where
  pub before : List Due
  pub next : Due
  pub behind : List Due
  pub whole : account ≡ before ++ next ∷ behind
  pub first : All (λ d. next.at < d.at) before
  pub least : All (λ d. next.at ≤ d.at) behind

-- what a plan gives now is the account's next, which is due
pub record IsGiven (now : ℕ) (account ds : List Due) (timeout : Timeout) : Type 0 where
  pub of : Next account
  pub same : of.next.timeout ≡ timeout
  pub come : of.next.at ≤ now
  pub others : IsInTime (of.before ++ of.behind) (left now ds)

-- Scheduling puts a timeout at the account's end, and forgetting takes out those of lower heights. What is given is the account's next, and none is given only where none is due.
abbrev pub AccountLaw : Type 0
AccountLaw = IsInTime [] []
    × ((account ds : List Due) → IsInTime account ds →
    ((d : Due) → IsInTime (account ++ d ∷ []) (placed d ds))
    × ((height : ℕ) → IsInTime (of_heights_from height account) (of_heights_from height ds))
    × ((now : ℕ) (timeout : Timeout) → given now ds ≡ Some timeout → IsGiven now account ds timeout)
    × ((now : ℕ) → given now ds ≡ None → All (λ d. now < d.at) account × (left now ds ≡ ds)))
