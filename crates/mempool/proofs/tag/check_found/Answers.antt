use Rattle.std.proofs.Common.{◌≡◌, true, refl, sym, ◌∙◌}
use Rattle.protocol.specs.Tags.{tx_is_right}
use Rattle.mempool.proofs.Tagged.{known_by_right}
use Rattle.mempool.proofs.tag.check_found.Goals as goal

pub returns-then-is_right : goal.returns-then-is_right
returns-then-is_right c = λ s p h d queues.
    let right : tx_is_right s p c.args.tx.now ≡ true = sym (c.requires s p h) ∙ c.if-is_right.true in
    rw (sym c.is_long-too_long.ensures ∙ c.if-too_long.false, known_by_right s p c.args.tx.now right, right) refl
