-- What a validator is opened over.
use Rattle.std.specs.Prelude.{◌≡◌, ℕ, List, reverse}
use Rattle.protocol.specs.Messages.{Record}
use Rattle.protocol.specs.Restart.{opened}
use Rattle.vote_journal.specs.Store.{Just}
use Rattle.vote_journal.specs.Saving.{IsFoundIn}
use Rattle.vote_journal.specs.History.{WasRead}
use Rattle.node_core.specs.Core.{Core, Stands}
use Rattle.journal_file.specs.Keeping.{kept, may_be_left}
use Rattle.journal_file.specs.declared.file.FileStore.{FileStore}

-- Records are found in one of what the store may have at that moment, and the core is the restart over them.
pub record IsOpenedOver (powers : List ℕ) (me : ℕ) (outcomes : List ℕ → Type 0) (core : Core) : Type 0 where
  pub records : List Record  -- the oldest first
  pub found : IsFoundIn powers me outcomes records
  pub stands : Stands (opened me (reverse records)) core

-- It is so over a store as it was read.
pub record IsOpenedAsRead {S : Type 0} (seen : S → List ℕ) (may_leave : S → List ℕ → Type 0) (powers : List ℕ) (me : ℕ) (store : S) (core : Core) : Type 0 where
  pub read : S
  pub was : WasRead seen may_leave powers me store read
  pub opened : IsOpenedOver powers me (may_leave read) core

-- It is so over the store of a file as it was read, of which a stop leaves just what was there, and no call of the file has failed.
pub record IsOpenedInFile (powers : List ℕ) (me : ℕ) (core : Core) : Type 0 where
  pub store : FileStore
  pub stands : Just (kept store.is_read store.asked.events) (may_be_left store.is_read store.asked.events)
  pub opened : IsOpenedOver powers me (may_be_left store.is_read store.asked.events) core
  pub unfailed : core.journal.failures ≡ 0
