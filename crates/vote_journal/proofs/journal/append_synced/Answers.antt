use Rattle.std.proofs.Common.{◌++◌, List, ℕ, length, sym, ap, ◌∙◌, arith}
use Rattle.std.proofs.lemmas.List.{take_all}
use Rattle.vote_journal.proofs.journal.append_synced.Goals as goal

pub returns-in-Err-clause-began : goal.returns-in-Err-clause-began
returns-in-Err-clause-began g c = λ _.
    let bytes : List ℕ = c.args.bytes.now in
    (length bytes, c.sync.ensures.stands ∙ c.in_ok-append.ensures.added ∙ ap (λ l. g.S.Store.seen c.args.store.now ++ l) (sym (take_all (length bytes) bytes (omega arith))))
