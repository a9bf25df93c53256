use Rattle.std.proofs.Common.{ℕ, List, ◌++◌, sym, subst}
use Rattle.vote_journal.specs.Planning.{Comes}
use Rattle.vote_journal.proofs.stages.ReadingSink.take.Goals as goal

pub returns : goal.returns
returns c = λ start before b.
    let now = c.args.self.now in
    let all = before ++ c.args.piece.now in
    let same = subst (λ (p : List ℕ). Comes p now.me before now.stage) (sym b.1) (subst (λ (m : ℕ). Comes start.powers.now m before now.stage) (sym b.0) b.2) in
    let comes = c.read_on.ensures before (subst (Comes now.powers.now now.me before) (sym c.replace-stage.ensures.value) same) in
    (b.0, b.1, subst (λ (m : ℕ). Comes start.powers.now m all c.read_on.result) b.0 (subst (λ (p : List ℕ). Comes p now.me all c.read_on.result) b.1 comes))
