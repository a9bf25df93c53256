use Rattle.std.proofs.Common.{◌≡◌, refl, subst, ℕ, List, Ok}
use Rattle.std.proofs.lemmas.Result.{err_from_is_err_and}
use Rattle.transactions.specs.Fields.{Fails}
use Rattle.messages.specs.Grammar.{body_spelling, SpellsBody}
use Rattle.messages.specs.declared.body.Body.TheVariants.{Tx}
use Rattle.list_client.specs.Sending.{body_of}
use Rattle.list_client.proofs.Memory.{fails_too}
use Rattle.list_client.proofs.frame_of.Goals as goal

pub returns-in_err-spelled-clause-only : goal.returns-in_err-spelled-clause-only
returns-in_err-spelled-clause-only c = λ bytes spells.
    let only = subst (λ it. (b : List ℕ) → SpellsBody b (Tx (record { client = c.args.sender.client; session = c.args.sender.session; number = c.args.number; op = c.args.op; tags = it })) → Fails c.in_err-spelled.field-0.0 (Ok b)) c.new.ensures c.in_err-spelled.ensures.only in
    let body : List ℕ = body_spelling (body_of c.args.sender c.args.number c.args.op) in
    let p = err_from_is_err_and c.from_residual.result c.from_residual.ensures.1 in
    rw (p.1, p.2) (fails_too c.in_err-spelled.field-0.0 body bytes (only body (record { lawful = spells.lawful.body; same = refl })))
