use Rattle.std.proofs.Common.{◌≡◌, inl, inr, List, [], ◌∷◌, ◌++◌, Bor, map, sym, ap, ◌∙◌, arith}
use Rattle.std.proofs.lemmas.List.{append_assoc, map_push, length-map, length_push}
use Rattle.protocol.specs.Values.{Tx}
use Rattle.mempool.proofs.Sizes.{size_none, size_more, Fits, fitting_is}
use Rattle.mempool.proofs.picking.picked.Goals.{in-None, in-Some+then-len-eq-MOST_TXS, then-len-eq-MOST_TXS-via-then-len-eq-MOST_TXS, then-len-eq-MOST_TXS-via-else-len-eq-MOST_TXS+then-len-gt-MOST_VALUE_BYTES}
use Rattle.mempool.proofs.picking.picked.Goals as goal

abbrev taken : List (Bor Tx) → List Tx
taken txs = map (λ (t : Bor Tx). t.now) txs

pub loop-tx-init : goal.loop-tx-init
loop-tx-init c = record {
  all = rw c.in_ok-txs.ensures.items (sym c.into_iter-tx-iterator.ensures.into_iter_gives);
  len = rw c.in_ok-txs.ensures.items (sym size_none);
  short = omega arith;
  few = rw c.in_ok-txs.ensures.items (omega arith);
}

pub loop-tx-preserved : goal.loop-tx-preserved
loop-tx-preserved c =
    let one_more : taken c.push.new.self.items ≡ taken c.loop-tx.txs.items ++ c.in-Some.tx.now ∷ [] = ap taken c.in_ok-push.ensures.items ∙ map_push (λ (t : Bor Tx). t.now) c.loop-tx.txs.items c.in-Some.tx in
    let longer = size_more (taken c.loop-tx.txs.items) c.in-Some.tx.now in
    record {
      all = c.loop-tx.invariant.all ∙ rw (c.in-Some.ensures.steps, one_more) (sym (append_assoc (taken c.loop-tx.txs.items) (c.in-Some.tx.now ∷ []) c.next.new.self));
      len = rw one_more (omega (arith, longer, c.loop-tx.invariant.len));
      short = omega arith;
      few = rw c.in_ok-push.ensures.items (omega (arith, length_push c.loop-tx.txs.items c.in-Some.tx));
    }

pub returns : goal.returns
returns c =
    let fits : Fits (taken c.loop-tx.txs.items) = (omega (arith, length-map c.loop-tx.txs.items (λ (t : Bor Tx). t.now)), omega (arith, c.loop-tx.invariant.len)) in
    elim c.match-next.branch [
      | in-None w ↦ fitting_is c.args.turns (taken c.loop-tx.txs.items) c.loop-tx.tx-iterator c.loop-tx.invariant.all fits (inr (rw w.in-None.ensures.steps.0 tt))
      | in-Some+then-len-eq-MOST_TXS w ↦ fitting_is c.args.turns (taken c.loop-tx.txs.items) c.loop-tx.tx-iterator c.loop-tx.invariant.all fits (elim w.then-len-eq-MOST_TXS.branch [
        | then-len-eq-MOST_TXS-via-then-len-eq-MOST_TXS v ↦ inl (omega (arith, length-map c.loop-tx.txs.items (λ (t : Bor Tx). t.now)))
        | then-len-eq-MOST_TXS-via-else-len-eq-MOST_TXS+then-len-gt-MOST_VALUE_BYTES v ↦ inr (rw w.in-Some.ensures.steps (omega (arith, size_more (taken c.loop-tx.txs.items) w.in-Some.tx.now, c.loop-tx.invariant.len)))
      ])
    ]
