use Rattle.std.proofs.Common.{ℕ, List, [], ◌++◌, ◌∷◌, reverse, refl, sym, ap, subst, ◌∙◌, append_assoc}
use Rattle.std.proofs.lemmas.List.{reverse-append}
use Rattle.std.proofs.lemmas.Result.{err_from_is_err_and}
use Rattle.vote_journal.specs.Grammar.{Entry, framed}
use Rattle.vote_journal.specs.Order.{Remembers, entry_of}
use Rattle.vote_journal.proofs.Layouts.{scan_step, scan_bad, scan_refused, rest_shorter}
use Rattle.vote_journal.proofs.scanning.read_records.Goals as goal

pub loop-standing-init : goal.loop-standing-init
loop-standing-init c = λ all r. record { whole = []; split = refl; is = r }

pub returns-in-Torn : goal.returns-in-Torn
returns-in-Torn c = λ all r.
    let i = c.loop-standing.invariant all r in
    (i.whole, c.loop-standing.rest.now, i.split, c.in-Torn.ensures, refl, i.is)

pub returns-in-Bad : goal.returns-in-Bad
returns-in-Bad c = λ all r.
    let i = c.loop-standing.invariant all r in
    scan_bad c.args.powers.now c.args.me all i.is.entries c.loop-standing.rest.now i.is.whole i.is.lawful c.in-Bad.ensures.0 c.in-Bad.ensures.1

pub returns-in_err-entry-in-Whole : goal.returns-in_err-entry-in-Whole
returns-in_err-entry-in-Whole c = λ all r.
    let i = c.loop-standing.invariant all r in
    let p = err_from_is_err_and c.from_residual.result c.from_residual.ensures.1 in
    rw (p.1, p.2) (scan_refused c.args.powers.now c.args.me all i.is.entries c.loop-standing.rest.now c.in-Whole.content.now c.in-Whole.after.now c.take.new.self c.in_err-entry-in-Whole.field-0.0 i.is.whole i.is.lawful c.in-Whole.ensures.0 c.in-Whole.ensures.1
    (c.in_err-entry-in-Whole.ensures (reverse i.is.entries) i.is.remembers))

pub loop-standing-preserved : goal.loop-standing-preserved
loop-standing-preserved c = λ all r.
    let j = c.loop-standing.invariant all r in
    let i = j.is in
    let entry = entry_of c.in_ok-entry-in-Whole.entry in
    let t = c.in_ok-entry-in-Whole.ensures (reverse i.entries) i.remembers in
    let step = scan_step c.args.powers.now c.args.me all i.entries entry c.loop-standing.rest.now c.in-Whole.content.now c.in-Whole.after.now i.whole i.lawful c.in-Whole.ensures.1 t.0 t.1 in
    record {
      whole = j.whole ++ framed c.in-Whole.content.now;
      split = j.split ∙ ap (λ (x : List ℕ). j.whole ++ x) c.in-Whole.ensures.1 ∙ sym (append_assoc j.whole (framed c.in-Whole.content.now) c.in-Whole.after.now);
      is = record {
        entries = i.entries ++ entry ∷ [];
        whole = step.0;
        lawful = step.1;
        remembers = subst (λ (x : List Entry). Remembers x c.take.new.self) (sym (reverse-append i.entries (entry ∷ []))) t.2;
        keeps = c.in_ok-keep-in-Whole.ensures i.entries i.keeps;
      };
    }

pub loop-standing-smaller : goal.loop-standing-smaller
loop-standing-smaller c = rest_shorter c.loop-standing.rest.now c.in-Whole.content.now c.in-Whole.after.now c.in-Whole.ensures.1

pub returns-in_err-keep-in-Whole : goal.returns-in_err-keep-in-Whole
returns-in_err-keep-in-Whole c = λ all r.
    let p = err_from_is_err_and c.from_residual-in_err-keep-in-Whole.result c.from_residual-in_err-keep-in-Whole.ensures.1 in
    rw (p.1, p.2, c.in_err-keep-in-Whole.ensures) tt
