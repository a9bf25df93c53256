-- What the words of executed lines stand for, and which events may come of them.
use Rattle.std.specs.Prelude.{ℕ, ◌-◌, ◌^◌, Bool, true, not, ◌&&◌, cond, Option, Some, None, option_and_then, List, ◌∷◌}
use Rattle.std.specs.List.{list_all}
use Rattle.world_parties.specs.Cast.{Cast, is_liar, is_correct}
use Rattle.world_schedule.specs.declared.event.Event.{Event}
use Rattle.world_schedule.specs.declared.event.Event.TheVariants as events
use Rattle.schedule_text.specs.Numbers.{number_up_to}

-- a number of any length, the most of its type where it is above that
abbrev pub count : List ℕ → Option ℕ
count word = number_up_to (2 ^ 64 - 1) word

abbrev pub unless : Bool → ℕ → Option ℕ
unless bad number = cond bad None (Some number)

-- a correct validator, or a number that is no validator's
abbrev pub receiver : Cast → List ℕ → Option ℕ
receiver cast word = option_and_then (λ number. unless (is_liar cast number) number) (count word)

abbrev pub is_no_correct : Cast → ℕ → Bool
is_no_correct cast number = not (is_correct cast number)

-- a liar, or a number that is no validator's
abbrev pub sender : Cast → List ℕ → Option ℕ
sender cast word = option_and_then (λ number. unless (is_correct cast number) number) (count word)

-- what comes to no liar, and what no correct validator sends
abbrev pub allows : Cast → Event → Bool
allows cast (events.Send client op) = true
allows cast (events.Open client) = true
allows cast (events.Deliver number p) = not (is_liar cast p)
allows cast events.Pass = true
allows cast (events.Timeout p t) = not (is_liar cast p)
allows cast (events.Ask p) = not (is_liar cast p)
allows cast (events.Resend p) = not (is_liar cast p)
allows cast (events.Restart p) = not (is_liar cast p)
allows cast (events.Fail p failing) = not (is_liar cast p)
allows cast (events.Submit p line) = not (is_liar cast p)
allows cast (events.Propose p line) = not (is_liar cast p) && is_no_correct cast line.sender
allows cast (events.Vote p line) = not (is_liar cast p) && is_no_correct cast line.sender
allows cast (events.Bundle p line) = not (is_liar cast p) && list_all (is_no_correct cast) (line.sender ∷ line.signers)
allows cast (events.Frame p bytes) = not (is_liar cast p)
