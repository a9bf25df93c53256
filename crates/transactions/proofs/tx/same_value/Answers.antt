use Rattle.std.proofs.Common.{◌∙◌}
use Rattle.transactions.proofs.Equality.{derived_is_value_eq}
use Rattle.transactions.proofs.tx.same_value.Goals as goal

pub returns : goal.returns
returns c = c.eq.ensures ∙ derived_is_value_eq c.args.a.now c.args.b.now
