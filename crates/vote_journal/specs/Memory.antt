-- What the calls of a store in memory count.
use Rattle.std.specs.Prelude.{◌≡◌, ◌≢◌, ℕ, ◌+◌, ◌-◌, ◌^◌, min, List}
use Rattle.vote_journal.specs.declared.memory.MemoryStore.{MemoryStore}

-- a stop leaves what stands
abbrev pub IsJust : MemoryStore → List ℕ → Type 0
IsJust store bytes = bytes ≡ store.bytes.items

-- one call more was counted, up to the greatest u64, and which is to fail stays
pub record IsCounted (old new : MemoryStore) : Type 0 where
  pub calls : new.calls ≡ min (old.calls + 1) (2 ^ 64 - 1)
  pub failing : new.failing ≡ old.failing
  pub keep : new.keep ≡ old.keep

-- it is not the one that is to fail
pub record HasServed (old new : MemoryStore) : Type 0 where
  pub counted : IsCounted old new
  pub other : new.calls ≢ old.failing

-- it is
pub record HasFailed (old new : MemoryStore) : Type 0 where
  pub counted : IsCounted old new
  pub this : new.calls ≡ old.failing
