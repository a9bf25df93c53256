use Rattle.std.proofs.Common.{◌≡◌, Bool, true, List, [], ◌∷◌, sym, subst}
use Rattle.journal_file.specs.Asked.{Event, leaves, all_asked}
use Rattle.journal_file.specs.Keeping.{may_be_left}
use Rattle.journal_file.proofs.Kept.{stands_left}
use Rattle.journal_file.proofs.file.FileStoreStore.sync.Goals as goal

pub returns-then-is_ok-clause-stop : goal.returns-then-is_ok-clause-stop
returns-then-is_ok-clause-stop c = λ x left.
    let before = c.args.self.now.asked.events in
    let events : c.note.new.self.events ≡ (5, 0, []) ∷ before = c.note.ensures in
    let read : c.args.self.now.is_read ≡ true = c.is_usable.ensures c.if-is_usable.true in
    let here : may_be_left true ((5, 0, []) ∷ before) x = subst (λ (p : Bool × List Event). may_be_left p.0 p.1 x) (λ i. (read i, events i)) left in
    subst (λ (b : Bool). may_be_left b before x) (sym read) (subst (leaves (all_asked before)) (sym here) (stands_left (all_asked before)))
