use Rattle.std.specs.Prelude.{MatchResult}
use Rattle.std.proofs.Common.{◌≡◌, List, [], ◌∷◌, ◌++◌, Option, Result, Ok, Err, sym, ◌∙◌, subst}
use Rattle.std.proofs.lemmas.List.{append-nil}
use Rattle.protocol.specs.Messages.{Record}
use Rattle.protocol.specs.declared.records.Record.{Record as Held}
use Rattle.protocol.specs.Records.{record_of}
use Rattle.vote_journal.specs.declared.fault.JournalFault.{JournalFault}
use Rattle.vote_journal.specs.declared.fault.JournalFault.TheVariants.{OutOfMemory}
use Rattle.vote_journal.specs.Grammar.{OfRecord, Mark}
use Rattle.vote_journal.specs.Order.{records_in, entry_of}
use Rattle.vote_journal.specs.Kept.{Keeps}
use Rattle.vote_journal.proofs.Layouts.{records_append}
use Rattle.vote_journal.proofs.keeping.Kept.keep.Goals as goal

as_well : (r : Result (Unit {0}) JournalFault) (P Q : Type 0) → (P → Q) → MatchResult r (λ _. P) (λ e. e ≡ OutOfMemory) → MatchResult r (λ _. Q) (λ e. e ≡ OutOfMemory)
as_well (Ok x) P Q f h = f h
as_well (Err e) P Q f h = h

pub returns-in-None : goal.returns-in-None
returns-in-None c = λ es k.
    subst (λ (o : Option Held). Keeps (records_in (es ++ entry_of o ∷ [])) c.args.self.now.decisions.items c.args.self.now.own.items) (sym c.in-None.is)
    (subst (λ (rs : List Record). Keeps rs c.args.self.now.decisions.items c.args.self.now.own.items) (sym (records_append es (Mark ∷ []) ∙ append-nil (records_in es))) k)

pub returns-in-Some : goal.returns-in-Some
returns-in-Some c = as_well c.keep_record.result _ _ (λ k es h.
    subst (λ (o : Option Held). Keeps (records_in (es ++ entry_of o ∷ [])) c.keep_record.new.self.decisions.items c.keep_record.new.self.own.items) (sym c.in-Some.is)
    (subst (λ (rs : List Record). Keeps rs c.keep_record.new.self.decisions.items c.keep_record.new.self.own.items) (sym (records_append es (OfRecord (record_of c.in-Some.entry) ∷ []))) (k (records_in es) h)))
    c.keep_record.ensures
