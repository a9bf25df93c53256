use Rattle.std.proofs.Common.{◌≡◌, true, false, sym}
use Rattle.std.proofs.lemmas.Result.{err_from_is_err_and}
use Rattle.vote_journal.specs.Parts.{is_decision}
use Rattle.vote_journal.proofs.RecordFormats.{decision_no_body, decision_fits, decision_spells, no_bundle, no_decision}
use Rattle.vote_journal.proofs.reading.read_decision.Goals as goal

pub returns-in_err-body : goal.returns-in_err-body
returns-in_err-body c =
    let p = err_from_is_err_and c.from_residual.result c.from_residual.ensures.1 in
    rw (p.1, p.2) (decision_no_body c.args.me c.args.bytes.now c.in_err-body.field-0.0 c.in_err-body.ensures)

pub returns-in_default : goal.returns-in_default
returns-in_default c = no_bundle c.args.me c.args.bytes.now c.in_ok-body.body c.in_ok-body.ensures (sym c.in_default.ensures)

pub is_decision-requires : goal.is_decision-requires
is_decision-requires c = decision_fits c.args.bytes.now c.in_ok-body.body c.in-Some.bundle c.in_ok-body.ensures (sym c.in-Some.ensures)

pub returns-in-Ok-true : goal.returns-in-Ok-true
returns-in-Ok-true c =
    let own : is_decision c.args.me c.in-Some.bundle ≡ true = cc (c.in-Ok-true.ensures) in
    decision_spells c.args.me c.args.bytes.now c.in_ok-body.body c.in-Some.bundle c.in_ok-body.ensures (sym c.in-Some.ensures) own

pub returns-in-Ok-false : goal.returns-in-Ok-false
returns-in-Ok-false c =
    let own : is_decision c.args.me c.in-Some.bundle ≡ false = cc (c.in-Ok-false.ensures) in
    no_decision c.args.me c.args.bytes.now c.in_ok-body.body c.in-Some.bundle c.in_ok-body.ensures (sym c.in-Some.ensures) own
