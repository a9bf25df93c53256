use Rattle.std.proofs.Common.{◌≡◌, map, drop}
use Rattle.clap.specs.Words.{app_of}
use Rattle.node_settings.specs.Commands.{rule_for, with_rules}
use Rattle.node_settings.proofs.command.with_options.Given as goal

abbrev pub invariant-loop-option : goal.invariant-loop-option
invariant-loop-option l = with_rules (app_of l.command) (map rule_for (drop l.option-index l.options)) ≡ with_rules (app_of l.fn.command) (map rule_for l.options)
