use Rattle.std.proofs.Common.{◌∙◌, sym, ap, arith, map}
use Rattle.std.proofs.lemmas.List.{at_drop_all}
use Rattle.clap.specs.Words.{app_of, with_rule}
use Rattle.node_settings.specs.Commands.{rule_for, with_rules}
use Rattle.node_settings.proofs.Commands.{with_more}
use Rattle.node_settings.proofs.command.with_options.Goals as goal

pub loop-option-preserved : goal.loop-option-preserved
loop-option-preserved c =
    let added = c.in_ok-command.ensures.shape c.arg.ensures.local ∙ ap (with_rule (app_of c.loop-option.command)) c.arg.ensures.rule in
    with_more rule_for c.args.options.now c.loop-option.option-index _ (app_of c.loop-option.command) _ (omega arith) added ∙ c.loop-option.invariant

pub returns : goal.returns
returns c =
    sym (at_drop_all (λ left. with_rules (app_of c.loop-option.command) (map rule_for left)) c.args.options.now c.loop-option.option-index (omega arith)) ∙ c.loop-option.invariant
