use Rattle.std.proofs.Common.{◌∙◌, sym, rules}
use Rattle.node_settings.proofs.Decimals.{parsed, no_number}
use Rattle.node_settings.proofs.options.decimal_in.Goals as goal

pub returns-then-all_digits : goal.returns-then-all_digits
returns-then-all_digits c = c.ok.ensures.value ∙ parsed c.args.text.now c.parse.result (search rules) c.parse.ensures.value.0

pub returns-else-all_digits : goal.returns-else-all_digits
returns-else-all_digits c = sym (no_number c.args.text.now (search rules))
