-- What opening the store as it was read says of the store before.
use Rattle.std.proofs.Common.{◌≡◌, inl, inr, ℕ, List}
use Rattle.protocol.specs.Messages.{Bundle, Record}
use Rattle.protocol.specs.declared.records.OwnMessage.{OwnMessage}
use Rattle.vote_journal.specs.declared.fault.JournalFault.{JournalFault}
use Rattle.vote_journal.specs.declared.fault.JournalFault.TheVariants.{BadRecord}
use Rattle.vote_journal.specs.Saving.{HasNoJournal, KeepsEach}
use Rattle.vote_journal.specs.Kept.{Keeps, IsOpened}
use Rattle.vote_journal.specs.History.{Opened, NotOpened, Does, AsRead, RefusesAsRead}

module _ {S : Type 0} (seen : S → List ℕ) (may_leave : S → List ℕ → Type 0) (powers : List ℕ) (me : ℕ) where
  pub opened_before : (rs : List Record) (old new : S) → AsRead seen may_leave powers me (Opened rs) old new → Does seen may_leave powers me (Opened rs) old new
  opened_before rs old new o =
      let found = o.does.0 in
      ((found.0, o.was.before found.0 found.1, found.2), o.does.1, o.does.2)

  pub kept_before : (fault : JournalFault) (old new : S) → RefusesAsRead seen may_leave powers me fault old new → KeepsEach powers me (may_leave old) (may_leave new)
  kept_before fault old new (inl unread) bytes left = (bytes, unread.1 bytes left, λ rs j. j)
  kept_before fault old new (inr r) bytes left = let k = r.does.0 bytes left in (k.0, r.was.before k.0 k.1, k.2)

  pub none_before : (fault : JournalFault) (old new : S) → RefusesAsRead seen may_leave powers me fault old new → fault ≡ BadRecord → HasNoJournal powers me (may_leave old)
  none_before fault old new (inl unread) bad = absurd (unread.0 bad)
  none_before fault old new (inr r) bad = let n = r.does.1 bad in (n.0, r.was.before n.0 n.1, n.2)

  pub refused_before : (fault : JournalFault) (old new : S) → RefusesAsRead seen may_leave powers me fault old new → Does seen may_leave powers me (NotOpened fault) old new
  refused_before fault old new r = (kept_before fault old new r, none_before fault old new r)

  pub is_opened_before : (rs : List Record) (old new : S) (decisions : List Bundle) (own : List OwnMessage) → AsRead seen may_leave powers me (Opened rs) old new → Keeps rs decisions own
      → IsOpened powers me (may_leave old) (seen new) decisions own
  is_opened_before rs old new decisions own o keeps =
      let d = opened_before rs old new o in
      record { rs = rs; found = d.0; whole = d.1; keeps = keeps }
