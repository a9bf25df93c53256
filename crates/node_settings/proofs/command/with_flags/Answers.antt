use Rattle.std.proofs.Common.{◌∙◌, sym, ap, arith, map}
use Rattle.std.proofs.lemmas.List.{at_drop_all}
use Rattle.clap.specs.Words.{app_of, with_rule}
use Rattle.node_settings.specs.Commands.{rule_for_flag, with_rules}
use Rattle.node_settings.proofs.Commands.{with_more}
use Rattle.node_settings.proofs.command.with_flags.Goals as goal

pub loop-flag-preserved : goal.loop-flag-preserved
loop-flag-preserved c =
    let added = c.in_ok-command.ensures.shape c.arg.ensures.local ∙ ap (with_rule (app_of c.loop-flag.command)) c.arg.ensures.rule in
    with_more rule_for_flag c.args.flags.now c.loop-flag.flag-index _ (app_of c.loop-flag.command) _ (omega arith) added ∙ c.loop-flag.invariant

pub returns : goal.returns
returns c =
    sym (at_drop_all (λ left. with_rules (app_of c.loop-flag.command) (map rule_for_flag left)) c.args.flags.now c.loop-flag.flag-index (omega arith)) ∙ c.loop-flag.invariant
