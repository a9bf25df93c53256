use Rattle.std.proofs.Common.{map, subst, sym}
use Rattle.clap.specs.Words.{app_of}
use Rattle.node_settings.specs.Words.{Gives}
use Rattle.node_settings.specs.Settings.{invocation_words}
use Rattle.node_settings.proofs.Lines.{ok_gives, err_gives}
use Rattle.node_settings.proofs.invocation.settings.Goals as goal

pub returns-in-Ok-clause-asked : goal.returns-in-Ok-clause-asked
returns-in-Ok-clause-asked g c =
    let words = map g.W.AsStr.text c.args.words.now in
    let asked = ok_gives (app_of c.in_ok-node_command.field-0) words c.in-Ok.found c.in_ok-node_command.ensures c.in-Ok.ensures.kinds c.in-Ok.ensures.matches in
    subst (Gives invocation_words c.entered.result) (sym asked) c.entered.ensures.asked

pub returns-in-Err-clause-asked : goal.returns-in-Err-clause-asked
returns-in-Err-clause-asked g c =
    let words = map g.W.AsStr.text c.args.words.now in
    err_gives invocation_words c.page_of.result (app_of c.in_ok-node_command.field-0) words c.in-Err.error c.in_ok-node_command.ensures c.in-Err.ensures.kinds c.page_of.ensures.asked
