use Rattle.std.proofs.Common.{◌≡◌, ℕ, Bool, false, sym, subst}
use Rattle.vote_journal.specs.Store.{Grew}
use Rattle.journal_file.specs.Keeping.{may_be_left}
use Rattle.journal_file.proofs.file.FileStoreStore.read.Goals as goal

pub returns-clause-cause : goal.returns-clause-cause
returns-clause-cause g c = subst (λ (n : ℕ). Grew n c.fail-in-Err.new.self.failures) c.read_all.ensures.same.1 c.fail-in-Err.ensures.more

pub returns-clause-stop : goal.returns-clause-stop
returns-clause-stop g c = λ x left.
    let unread : c.args.self.now.is_read ≡ false = c.if-self.false in
    subst (λ (b : Bool). may_be_left b c.args.self.now.asked.events x) (sym unread) tt
