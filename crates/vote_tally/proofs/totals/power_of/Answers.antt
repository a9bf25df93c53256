use Rattle.std.proofs.Common.{◌∙◌, ap, ℕ, Option}
use Rattle.std.specs.Prelude.{unwrap_or}
use Rattle.std.proofs.lemmas.Option.{unwrap_or-slice_get}
use Rattle.vote_tally.proofs.totals.power_of.Goals as goal

pub returns : goal.returns
returns c = c.from.ensures ∙ c.unwrap_or.ensures ∙ ap (λ (o : Option ℕ). unwrap_or o 0) c.power_of.ensures ∙ unwrap_or-slice_get c.args.powers.now c.args.validator 0
