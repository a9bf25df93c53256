use Rattle.std.proofs.Common.{◌∙◌, ap, true}
use Rattle.clap.specs.Simple.{app_of_fields, on_top}
use Rattle.clap.specs.Words.{App}
use Rattle.node_settings.proofs.command.top_command.Goals as goal

abbrev with_version : App → App
with_version = on_top (λ s. record s { has_version = true })

abbrev with_no_help : App → App
with_no_help = on_top (λ s. record s { disable_help_subcommand = true })

pub returns : goal.returns
returns c =
    ap app_of_fields c.disable_help_subcommand.ensures
    ∙ ap with_no_help (ap app_of_fields c.version.ensures ∙ ap with_version (ap app_of_fields c.about.ensures ∙ c.new.ensures.app))
