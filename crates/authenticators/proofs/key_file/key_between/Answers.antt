use Rattle.std.proofs.Common.{rules, ap}
use borrow.Author.Tests.{tests}
use Rattle.std.proofs.lemmas.Iterator.{YieldsList-from_slice}
use Rattle.std.proofs.lemmas.Iterator.Search.{find_from_yields_List}
use Rattle.std.specs.Option.{option_map}
use Rattle.authenticators.specs.Keys.{key_between, is_between}
use Rattle.authenticators.specs.declared.key_line.KeyLine.{KeyLine}
use Rattle.authenticators.proofs.key_file.key_between.Goals as goal

pub returns-in_err-line : goal.returns-in_err-line
unfolding key_between
returns-in_err-line c =
    let found = find_from_yields_List (is_between c.args.from c.args.to) _ _ c.find.result c.find.ensures.ran (YieldsList-from_slice c.args.lines.now cc) (λ x b q k. search (rules, tests)) in
    rw c.from_residual.ensures (ap (option_map (λ (line : KeyLine). line.key)) (rw c.in_err-line.was at found))

pub returns : goal.returns
unfolding key_between
returns c =
    let found = find_from_yields_List (is_between c.args.from c.args.to) _ _ c.find.result c.find.ensures.ran (YieldsList-from_slice c.args.lines.now cc) (λ x b q k. search (rules, tests)) in
    rw c.new.ensures (ap (option_map (λ (line : KeyLine). line.key)) (rw c.in_ok-line.was at found))
