use Rattle.std.proofs.Common.{subst}
use Rattle.transactions.specs.Fields.{Gives}
use Rattle.messages.proofs.Lengths.{body_only, body_ok}
use Rattle.messages.proofs.Sizes.{spelled_short}
use Rattle.messages.proofs.writing.spell_body.Goals as goal

pub returns-clause-ok : goal.returns-clause-ok
returns-clause-ok c = body_ok c.args.body.now c.bytes_of_body.result c.bytes_of_body.ensures.ok c.bytes_of_body.ensures.exact

pub returns-clause-only : goal.returns-clause-only
returns-clause-only c = λ bytes h. subst (λ r. Gives (λ v. v.items) c.bytes_of_body.result r) (body_only c.args.body.now bytes h) c.bytes_of_body.ensures.exact

pub returns-clause-short : goal.returns-clause-short
returns-clause-short c = spelled_short c.args.body.now c.bytes_of_body.result (body_ok c.args.body.now c.bytes_of_body.result c.bytes_of_body.ensures.ok c.bytes_of_body.ensures.exact)
