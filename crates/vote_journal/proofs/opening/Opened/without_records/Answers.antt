use Rattle.std.proofs.Common.{◌≡◌, List, [], ◌∷◌, length, arith, refl, subst}
use Rattle.protocol.specs.Messages.{Record as AnyRecord}
use Rattle.vote_journal.specs.Layout.{IsWhole}
use Rattle.vote_journal.proofs.Kept.{keeps_nothing}
use Rattle.vote_journal.proofs.opening.Opened.without_records.Goals as goal

none_of : {X : Type 0} (xs : List X) → length xs ≡ 0 → xs ≡ []
none_of [] e = refl
none_of (x ∷ xs) e = absurd (omega (arith, e))

pub returns-clause-empty : goal.returns-clause-empty
returns-clause-empty g c = λ powers me rs whole kept.
    let decisions : c.args.self.decisions.items ≡ [] = none_of c.args.self.decisions.items (grind arith) in
    let own : c.args.self.own.items ≡ [] = none_of c.args.self.own.items (grind arith) in
    subst (λ (x : List AnyRecord). IsWhole powers me (g.S.Store.seen c.args.self.journal.store) x) (keeps_nothing rs c.args.self.decisions.items c.args.self.own.items decisions own kept) whole
