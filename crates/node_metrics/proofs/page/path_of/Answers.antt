use Rattle.std.proofs.Common.{◌≡◌, ◌∙◌, ap, sym, Option, ℕ, rules}
use borrow.Author.Tests.{tests}
use Rattle.std.specs.List.{position}
use Rattle.std.proofs.lemmas.Iterator.{YieldsList-from_slice}
use Rattle.std.proofs.lemmas.Iterator.Search.{position_from_yields_List}
use Rattle.node_metrics.specs.Requests.{is_query, before}
use Rattle.node_metrics.proofs.page.path_of.Goals as goal

pub returns-in-Some : goal.returns-in-Some
returns-in-Some c =
    let found = position_from_yields_List is_query _ _ c.position.result c.position.ensures.ran (YieldsList-from_slice c.args.target.now cc) (λ x b q k. search (rules, tests)) in
    ap (λ place. before place c.args.target.now) (sym c.in-Some.is ∙ found)

pub returns-in-None : goal.returns-in-None
returns-in-None c =
    let found = position_from_yields_List is_query _ _ c.position.result c.position.ensures.ran (YieldsList-from_slice c.args.target.now cc) (λ x b q k. search (rules, tests)) in
    ap (λ place. before place c.args.target.now) (sym c.in-None.is ∙ found)
