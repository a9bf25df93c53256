use Rattle.std.proofs.Common.{true, refl, sym, ◌∙◌, arith}
use Rattle.std.proofs.lemmas.Result.{err_from_is_err_and}
use Rattle.transactions.specs.Fields.{bytes_at, repeat}
use Rattle.transactions.proofs.Enough.{too_few, enough, same_fault}
use Rattle.transactions.proofs.Lengths.{fails_exactly}
use Rattle.transactions.proofs.Repeats.{goes_on, ends, is_done}
use Rattle.transactions.proofs.reading.tag_list_of.Goals as goal

pub returns-then-bytes-from : goal.returns-then-bytes-from
returns-then-bytes-from c =
    let few = too_few c.args.count c.args.bytes.now (omega (arith, c.if-bytes-from.true)) in
    record { exact = few; told = λ fault e. same_fault (sym few ∙ e) }

pub returns-in_err-tags-clause-told : goal.returns-in_err-tags-clause-told
returns-in_err-tags-clause-told c = λ fault e. absurd (enough c.args.count c.args.bytes.now (omega (arith, c.if-bytes-from.false)) fault e)

pub returns-in_err-tag : goal.returns-in_err-tag
returns-in_err-tag c =
    let p = err_from_is_err_and c.from_residual-in_err-tag.result c.from_residual-in_err-tag.ensures.1 in
    let exact = ends (bytes_at 32) (λ _. true) c.in_err-tag.field-0.0 c.loop.tags.items c.args.count c.loop.counter c.loop.rest.now (repeat (bytes_at 32) (λ _. true) c.args.count c.args.bytes.now) c.loop-test.true (fails_exactly c.in_err-tag.field-0.0 (bytes_at 32 c.loop.rest.now) (sym c.in_err-tag.ensures)) c.loop.invariant in
    rw (p.1, p.2) (record { exact = exact; told = λ fault e. absurd (enough c.args.count c.args.bytes.now (omega (arith, c.if-bytes-from.false)) fault e) })

pub returns-in_err-push-clause-told : goal.returns-in_err-push-clause-told
returns-in_err-push-clause-told c = λ fault e. absurd (enough c.args.count c.args.bytes.now (omega (arith, c.if-bytes-from.false)) fault e)

pub loop-preserved : goal.loop-preserved
loop-preserved c =
    rw c.in_ok-push.ensures.items (goes_on (bytes_at 32) (λ _. true) c.loop.tags.items c.args.count c.loop.counter c.loop.rest.now c.in_ok-tag.tag c.in_ok-tag.after.now (repeat (bytes_at 32) (λ _. true) c.args.count c.args.bytes.now) c.loop-test.true (sym c.in_ok-tag.ensures) refl c.loop.invariant)

pub returns-clause-exact : goal.returns-clause-exact
returns-clause-exact c = is_done (bytes_at 32) (λ _. true) c.loop.tags.items c.args.count c.loop.counter c.loop.rest.now (repeat (bytes_at 32) (λ _. true) c.args.count c.args.bytes.now) c.loop-test.false c.loop.invariant

pub returns-clause-told : goal.returns-clause-told
returns-clause-told c = λ fault e. absurd (enough c.args.count c.args.bytes.now (omega (arith, c.if-bytes-from.false)) fault e)
