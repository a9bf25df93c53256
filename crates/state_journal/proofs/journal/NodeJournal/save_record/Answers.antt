use Rattle.std.proofs.Common.{◌≡◌, ℕ, List, subst, sym, ap, Err, ◌∙◌}
use Rattle.protocol.specs.Messages.{Record}
use Rattle.protocol.specs.Records.{record_of}
use Rattle.vote_journal.specs.Grammar.{record_spelling, IsRecord}
use Rattle.vote_journal.specs.Store.{Begun}
use Rattle.vote_journal.proofs.Stops.{saving_leaves}
use Rattle.state_journal.specs.Seen.{JournalSeen, Saving, LeftOf, where_failed}
use Rattle.state_journal.proofs.Faults.{save_broke}
use Rattle.state_journal.proofs.journal.NodeJournal.save_record.Goals as goal

pub returns-in-Err-Failed-clause-unwritten : goal.returns-in-Err-Failed-clause-unwritten
returns-in-Err-Failed-clause-unwritten g c =
    let stood : List ℕ = g.S.Store.seen c.self.inside.journal.store in
    let fault = save_broke Record _ _ c.in-Err-Failed.field-0 c.in-Err-Failed.field-0-is c.in-Err-Failed.ensures.fault in
    let spelled = subst (λ (j : JournalSeen). IsRecord j.me (record_of c.args.entry) → c.args.spelled.items ≡ record_spelling j.me (record_of c.args.entry)) (sym c.self.view_is) c.requires in
    let saving : Saving = record { stood = g.S.Store.seen c.of-before.result.value.store; added = c.args.spelled.items } in
    rw (← c.self.view_is) (record {
      me = c.save.ensures.me;
      failed = fault.1;
      grew = λ _. fault.0;
      left = λ _ powers rs whole fits follows. (
        c.save.ensures.broken (c.in-Err-Failed.is ∙ ap Err c.in-Err-Failed.field-0-is) powers rs whole fits follows,
        λ x may. saving_leaves powers c.self.inside.journal.me stood rs (record_of c.args.entry) x whole fits follows
            (subst (λ (added : List ℕ). Begun stood added x) (spelled fits)
            (subst (λ (before : List ℕ). Begun before c.args.spelled.items x) (ap (λ j. g.S.Store.seen j.store) c.of-before.ensures)
            (subst (λ failed. LeftOf (g.S.Store.seen c.save.new.self.store) (where_failed failed saving) x) fault.1 may))),
      );
      narrow = c.fits.ensures;
    })
