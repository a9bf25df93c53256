use Rattle.std.proofs.Common.{◌++◌, List, ℕ, Err, ap, subst, ◌∙◌}
use Rattle.protocol.specs.Records.{record_of}
use Rattle.vote_journal.specs.Store.{Begun}
use Rattle.vote_journal.proofs.Stops.{save_leaves, saving_leaves, whole_push}
use Rattle.vote_journal.proofs.journal.Journal.save.Goals as goal

pub returns-in-Ok-clause-whole : goal.returns-in-Ok-clause-whole
returns-in-Ok-clause-whole g c = λ powers rs w h f x left.
    save_leaves powers c.args.self.now.me (g.S.Store.seen c.args.self.now.store) c.args.spelled.now rs (record_of c.args.entry) x (g.S.Store.may_leave c.args.self.now.store)
    (c.args.self.now.settled c.requires.running) (c.requires.spelled h) (c.append_synced.ensures.stop x left) w h f

pub returns-in-Ok-clause-grown : goal.returns-in-Ok-clause-grown
returns-in-Ok-clause-grown g c = λ powers rs w h f.
    whole_push powers c.args.self.now.me (g.S.Store.seen c.args.self.now.store) (g.S.Store.seen c.append_synced.new.store) rs (record_of c.args.entry) w h f
    (c.in-Ok.ensures.done.0 ∙ ap (λ (x : List ℕ). g.S.Store.seen c.args.self.now.store ++ x) (c.requires.spelled h))

pub returns-in-Err-Device-clause-whole : goal.returns-in-Err-Device-clause-whole
returns-in-Err-Device-clause-whole g c = λ powers rs w h f x left.
    save_leaves powers c.args.self.now.me (g.S.Store.seen c.args.self.now.store) c.args.spelled.now rs (record_of c.args.entry) x (g.S.Store.may_leave c.args.self.now.store)
    (c.args.self.now.settled c.requires.running) (c.requires.spelled h) (c.append_synced.ensures.stop x left) w h f

pub returns-in-Err-Device-clause-broken : goal.returns-in-Err-Device-clause-broken
returns-in-Err-Device-clause-broken g c = λ _ powers rs w h f.
    saving_leaves powers c.args.self.now.me (g.S.Store.seen c.args.self.now.store) rs (record_of c.args.entry) (g.S.Store.seen c.append_synced.new.store) w h f
    (subst (λ (x : List ℕ). Begun (g.S.Store.seen c.args.self.now.store) x (g.S.Store.seen c.append_synced.new.store)) (c.requires.spelled h) (c.append_synced.ensures.began (c.in-Err-Device.is ∙ ap Err c.in-Err-Device.field-0-is)))

pub returns-in-Ok-clause-does : goal.returns-in-Ok-clause-does
returns-in-Ok-clause-does g c = λ _. (returns-in-Ok-clause-grown g c, c.in-Ok.ensures.done.1)

pub returns-in-Err-Device-clause-does : goal.returns-in-Err-Device-clause-does
returns-in-Err-Device-clause-does g c = λ _. returns-in-Err-Device-clause-whole g c
