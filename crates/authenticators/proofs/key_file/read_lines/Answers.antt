use Rattle.std.proofs.Common.{rules, ◌∙◌, sym, length}
use borrow.Author.Tests.{tests}
use Rattle.std.proofs.lemmas.List.{length_push}
use Rattle.std.proofs.lemmas.Result.{err_from_is_err_and}
use Rattle.std.proofs.lemmas.Iterator.Consumers.{YieldsList-turn, YieldsList-end}
use Rattle.std.proofs.lemmas.Iterator.Splits.{YieldsList-from_slice_split}
use Rattle.std.specs.List.{slice_split}
use Rattle.authenticators.specs.Keys.{is_line_feed}
use Rattle.authenticators.proofs.Files.{lines_more, lines_fail, lines_done}
use Rattle.authenticators.proofs.key_file.read_lines.Goals as goal

pub loop-line-preserved : goal.loop-line-preserved
loop-line-preserved c =
    let parts = slice_split is_line_feed c.args.text.now in
    let turn = YieldsList-turn (YieldsList-from_slice_split {s = c.into_iter-line-iterator.result} _ is_line_feed {f = c.split-line-items.result.pred} c.args.text.now (cc) (cc) (cc) (λ x b q k. search (rules, tests))) c.loop-line.yielded c.loop-line.line-iterator c.loop-line.yielded_by c.next.result c.next.new.self c.in-Some.line c.in-Some.is c.next.ensures.steps in
    rw (length_push c.loop-line.yielded c.in-Some.line)
    (lines_more c.args.me c.args.validators c.loop-line.lines.items c.add_line.new.lines.items parts (length c.loop-line.yielded) c.in-Some.line.now turn.0 turn.1 c.in_ok-add_line.ensures ∙ c.loop-line.invariant)

pub returns-in_err-add_line : goal.returns-in_err-add_line
returns-in_err-add_line c =
    let parts = slice_split is_line_feed c.args.text.now in
    let turn = YieldsList-turn (YieldsList-from_slice_split {s = c.into_iter-line-iterator.result} _ is_line_feed {f = c.split-line-items.result.pred} c.args.text.now (cc) (cc) (cc) (λ x b q k. search (rules, tests))) c.loop-line.yielded c.loop-line.line-iterator c.loop-line.yielded_by c.next.result c.next.new.self c.in-Some.line c.in-Some.is c.next.ensures.steps in
    let p = err_from_is_err_and c.from_residual.result c.from_residual.ensures.1 in
    let fault = lines_fail c.args.me c.args.validators c.loop-line.lines.items parts (length c.loop-line.yielded) c.in-Some.line.now c.in_err-add_line.field-0.0 turn.0 turn.1 c.in_err-add_line.ensures in
    rw (p.1, p.2, ← c.loop-line.invariant) fault

pub returns : goal.returns
returns c =
    let parts = slice_split is_line_feed c.args.text.now in
    let end = YieldsList-end (YieldsList-from_slice_split {s = c.into_iter-line-iterator.result} _ is_line_feed {f = c.split-line-items.result.pred} c.args.text.now (cc) (cc) (cc) (λ x b q k. search (rules, tests))) c.loop-line.yielded c.loop-line.line-iterator c.loop-line.yielded_by c.next.result c.next.new.self c.in-None.is c.next.ensures.steps in
    sym c.loop-line.invariant ∙ lines_done c.args.me c.args.validators c.loop-line.lines.items parts (length c.loop-line.yielded) end.1
