use Rattle.std.proofs.Common.{◌≡◌, ◌∙◌, ap, ℕ, Option}
use Rattle.protocol.specs.Order.{highest, rounds_of}
use Rattle.protocol.specs.Rules.{weak_at}
use Rattle.vote_tally.specs.Kept.{Kept, highest_weak}
use Rattle.round_machine.specs.Judging.{if_later}
use Rattle.round_machine.proofs.Highest.{highest_later}
use Rattle.round_machine.proofs.skipping.highest_weak.Goals as goal

pub returns : goal.returns
returns c =
    let powers = c.args.state.now.powers in
    let s = c.args.state.now.state in
    let best = c.highest_weak.ensures ∙ ap (λ (k : Kept). highest_weak k) c.tally.ensures in
    let own = ap (λ (r : ℕ). if_later r c.highest_weak.result) c.round.ensures in
    c.if_later.ensures ∙ own ∙ ap (λ (o : Option ℕ). if_later s.round o) best ∙ highest_later (weak_at powers s) (rounds_of s) s.round
