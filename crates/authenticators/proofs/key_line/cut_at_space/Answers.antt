use Rattle.std.proofs.Common.{◌+◌, rules}
use borrow.Author.Tests.{tests}
use Rattle.std.proofs.lemmas.Iterator.{YieldsList-from_slice}
use Rattle.std.proofs.lemmas.Iterator.Search.{position_from_yields_List}
use Rattle.std.proofs.lemmas.List.{take_rest}
use Rattle.authenticators.specs.Lines.{is_space}
use Rattle.authenticators.proofs.Splits.{CutsAt, cut_at_position}
use Rattle.authenticators.proofs.key_line.cut_at_space.Goals as goal

pub returns-in_err-end : goal.returns-in_err-end
returns-in_err-end c =
    let bytes = c.args.bytes.now in
    let found = position_from_yields_List is_space _ _ c.position.result c.position.ensures.ran (YieldsList-from_slice bytes cc) (λ x b q k. search (rules, tests)) in
    let cut : CutsAt is_space bytes c.position.result = cut_at_position is_space bytes 0 c.position.result found in
    rw c.from_residual.ensures (rw c.in_err-end.was at cut)

pub returns : goal.returns
returns c =
    let bytes = c.args.bytes.now in
    let found = position_from_yields_List is_space _ _ c.position.result c.position.ensures.ran (YieldsList-from_slice bytes cc) (λ x b q k. search (rules, tests)) in
    let cut : CutsAt is_space bytes c.position.result = cut_at_position is_space bytes 0 c.position.result found in
    rw (take_rest bytes (c.in_ok-end.end + 1)) (rw c.in_ok-end.was at cut)
