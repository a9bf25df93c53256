use Rattle.std.proofs.Common.{◌≡◌, ℕ, true, take}
use Rattle.std.specs.List.{list_all}
use Rattle.protocol.specs.Tags.{Setting, tx_is_right}
use Rattle.protocol.specs.Rings.{IsRingOf}
use Rattle.mempool.specs.Waiting.{HaveRightTags}
use Rattle.mempool.proofs.Mempool.is_genuine.Given as goal

abbrev pub invariant-loop-tx : goal.invariant-loop-tx
invariant-loop-tx l = (c : Setting) (p : ℕ) → IsRingOf c p l.ring → HaveRightTags c p l.self → list_all (tx_is_right c p) (take l.tx-index l.value.txs) ≡ true
