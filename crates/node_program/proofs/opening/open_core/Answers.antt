use Rattle.std.proofs.lemmas.Result.{IfOk-weaker}
use Rattle.node_program.proofs.opening.open_core.Goals as goal

pub returns-in-Ok-clause-opened : goal.returns-in-Ok-clause-opened
returns-in-Ok-clause-opened g c =
    let does = c.in-Ok.ensures.does in
    let o = does.1 in
    IfOk-weaker c.core_over.result _ _ (λ core stands. record { read = o.read; was = o.was; opened = record { records = does.0; found = o.does.0; stands = stands does.0 o.does.1 } }) c.core_over.ensures.stands
