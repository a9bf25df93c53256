-- What is equal as the rules ask it is the same.
use Rattle.std.proofs.Common.{◌≡◌, refl}
use Rattle.std.specs.Bool.{Decides}
use Rattle.transactions.proofs.Equality.{value_eq_decides}
use Rattle.messages.proofs.Equality.{content_eq_decides, round_eq_decides, vote_eq_decides, proposal_eq_decides}
use Rattle.protocol.specs.declared.types.Step.{Step}
use Rattle.protocol.specs.declared.types.Step.TheVariants.{Propose, Prevote, Precommit}
use Rattle.protocol.specs.Messages.{step_eq}
use Rattle.message_laws.specs.Heard.{SameLaw}

step_eq_decides : (a b : Step) → Decides (step_eq a b) (a ≡ b)
step_eq_decides Propose Propose = (λ e. refl, λ e. refl)
step_eq_decides Propose Prevote = (λ e. absurd cc, λ e. absurd cc)
step_eq_decides Propose Precommit = (λ e. absurd cc, λ e. absurd cc)
step_eq_decides Prevote Propose = (λ e. absurd cc, λ e. absurd cc)
step_eq_decides Prevote Prevote = (λ e. refl, λ e. refl)
step_eq_decides Prevote Precommit = (λ e. absurd cc, λ e. absurd cc)
step_eq_decides Precommit Propose = (λ e. absurd cc, λ e. absurd cc)
step_eq_decides Precommit Prevote = (λ e. absurd cc, λ e. absurd cc)
step_eq_decides Precommit Precommit = (λ e. refl, λ e. refl)

pub same_law : SameLaw
same_law = (step_eq_decides, round_eq_decides, content_eq_decides, value_eq_decides, vote_eq_decides, proposal_eq_decides)
