use Rattle.std.proofs.Common.{◌<◌, ◌≤◌, ◌^◌, length, sym, subst, arith}
use Rattle.std.proofs.lemmas.List.Elements.{All-set}
use Rattle.transactions.specs.Grammar.{IsTx}
use Rattle.protocol.specs.Values.{Tx}
use Rattle.proposal_validity.specs.Standing.{IsStanding}
use Rattle.proposal_validity.proofs.Growing.{passed}
use Rattle.proposal_validity.proofs.standing.pass.Goals as goal

pub loop-tx-preserved : goal.loop-tx-preserved
loop-tx-preserved c =
    let i = c.loop-tx.tx-index in
    let t = c.tx-item.result in
    let lt = c.loop-tx-test.true in
    let room : t.client < length c.args.standings.now = subst (λ (u : Tx). u.client < length c.args.standings.now) (sym c.tx-item.is) (c.requires.room i t lt) in
    let spelled : IsTx t = subst IsTx (sym c.tx-item.is) (c.requires.spelled i t lt) in
    let last : t.number ≤ 2 ^ 48 = spelled.body.last in
    record {
      each = passed c.args.txs.now i t lt c.tx-item.is c.loop-tx.standings c.args.standings.now c.left_by.result c.left_by.ensures (omega (arith, room, c.loop-tx.auto.standings)) c.loop-tx.invariant.each;
      small = λ h. All-set IsStanding c.loop-tx.standings t.client c.left_by.result (rw c.left_by.ensures (omega (arith, last))) (c.loop-tx.invariant.small h);
    }
