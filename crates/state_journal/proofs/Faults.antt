-- Why a record was not saved.
use Rattle.std.proofs.Common.{◌≡◌, Err, subst}
use Rattle.vote_journal.specs.Saving.{IsSaveFault}
use Rattle.vote_journal.specs.declared.fault.JournalFault.{JournalFault}
use Rattle.vote_journal.specs.declared.fault.JournalFault.TheVariants as journal

pub save_broke : (T : Type 0) (failed nothing : Type 0) (fault : JournalFault) → fault ≡ journal.Failed → IsSaveFault {T = T} (Err fault) failed nothing → failed
save_broke T failed nothing fault e k = subst (λ f. IsSaveFault {T = T} (Err f) failed nothing) e k
