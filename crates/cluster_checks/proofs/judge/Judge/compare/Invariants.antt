use Rattle.std.proofs.Common.{◌≡◌, ◌+◌, ℕ, ◌<◌, slice_get}
use Rattle.std.specs.Option.{option_map}
use Rattle.cluster_checks.specs.Judging.{Keeps, item_of}
use Rattle.cluster_checks.proofs.judge.Judge.compare.Given as goal

abbrev pub invariant-loop-tx : goal.invariant-loop-tx
invariant-loop-tx l = record {
  counted : l.progress.items ≡ l.fn.progress.items + l.tx-index;
  kept : Keeps l.fn.self.list.items l.self.list.items;
  agrees : (k : ℕ) → k < l.tx-index → slice_get l.self.list.items (l.fn.progress.items + k) ≡ option_map item_of (slice_get l.tx-items k);
}
