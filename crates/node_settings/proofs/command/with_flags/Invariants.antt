use Rattle.std.proofs.Common.{◌≡◌, map, drop}
use Rattle.clap.specs.Words.{app_of}
use Rattle.node_settings.specs.Commands.{rule_for_flag, with_rules}
use Rattle.node_settings.proofs.command.with_flags.Given as goal

abbrev pub invariant-loop-flag : goal.invariant-loop-flag
invariant-loop-flag l = with_rules (app_of l.command) (map rule_for_flag (drop l.flag-index l.flags)) ≡ with_rules (app_of l.fn.command) (map rule_for_flag l.flags)
