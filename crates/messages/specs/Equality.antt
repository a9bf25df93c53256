-- When two votes or two proposals are equal: field by field.
use Rattle.std.specs.Prelude.{ℕ, Bool, true, false, ◌&&◌, Option, Some, None, List, ◌==◌}
use Rattle.std.specs.Str.{bytes_eq}
use Rattle.transactions.specs.Equality.{value_eq}
use Rattle.messages.specs.declared.body.Step.{Step}
use Rattle.messages.specs.declared.body.Step.TheVariants.{Prevote, Precommit}
use Rattle.messages.specs.declared.body.Proposal.{Proposal}
use Rattle.messages.specs.declared.body.Vote.{Vote}

-- the ids that two votes are for, or nil
abbrev pub content_eq : Option (List ℕ) → Option (List ℕ) → Bool
content_eq None None = true
content_eq (Some x) (Some y) = bytes_eq x y
content_eq None (Some y) = false
content_eq (Some x) None = false

-- valid rounds, or none
abbrev pub round_eq : Option ℕ → Option ℕ → Bool
round_eq None None = true
round_eq (Some r) (Some s) = r == s
round_eq None (Some s) = false
round_eq (Some r) None = false

abbrev pub step_eq : Step → Step → Bool
step_eq Prevote Prevote = true
step_eq Precommit Precommit = true
step_eq Prevote Precommit = false
step_eq Precommit Prevote = false

abbrev pub vote_eq : Vote → Vote → Bool
vote_eq a b = step_eq a.step b.step && (a.height == b.height) && (a.round == b.round) && (a.sender == b.sender) && content_eq a.content b.content

abbrev pub proposal_eq : Proposal → Proposal → Bool
proposal_eq a b = (a.height == b.height) && (a.round == b.round) && (a.sender == b.sender) && round_eq a.valid_round b.valid_round && value_eq a.value b.value
