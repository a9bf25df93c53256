use Rattle.std.proofs.Common.{ℕ, List, [], sym, subst}
use Rattle.vote_journal.specs.Planning.{Comes}
use Rattle.vote_journal.proofs.opening.read_all.Goals as goal

pub returns-clause-read : goal.returns-clause-read
returns-clause-read g c =
    let seen = g.S.Store.seen c.read.new.self in
    let begun = c.new-reading.ensures in
    let came = c.in_ok-read.ensures.given c.new-reading.result [] begun.0 in
    let placed = subst (λ (m : ℕ). Comes c.args.powers.now m seen c.read.new.sink.stage) begun.1 (subst (λ (p : List ℕ). Comes p c.new-reading.result.me seen c.read.new.sink.stage) begun.2 came.2) in
    (subst (Comes c.args.powers.now c.args.me seen) (sym c.into_stage.ensures) placed, c.in_ok-read.ensures.found)
