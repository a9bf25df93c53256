use Rattle.std.proofs.Common.{◌∙◌, ap, rules}
use Rattle.std.specs.List.{list_any}
use Rattle.std.specs.Str.{bytes_eq}
use Rattle.clap.specs.Words.{Rule}
use Rattle.clap.proofs.WalkLemmas.{list_any-map}
use Rattle.node_settings.specs.Commands.{rule_for}
use Rattle.node_settings.proofs.command.is_run_option.Goals as goal

pub returns : goal.returns
returns c =
    let is_named = λ (rule : Rule). bytes_eq rule.id c.args.name.now in
    c.is_among.ensures ∙ list_any-map is_named rule_for _ ∙ ap (list_any is_named) (search rules)
