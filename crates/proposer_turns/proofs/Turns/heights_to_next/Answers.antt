use Rattle.std.proofs.Common.{◌≡◌, ◌+◌, ◌-◌, ◌%◌, ◌<◌, ◌≤◌, take, get_or, arith, ap, ◌∙◌}
use Rattle.powers.specs.Power.{total}
use Rattle.proposer_turns.specs.declared.Turns.{Turns}
use Rattle.proposer_turns.proofs.Next.{total_most, remainder_is, next_ahead, next_at_once, next_behind}
use Rattle.proposer_turns.proofs.Turns.heights_to_next.Goals as goal

pub returns-then-place-self : goal.returns-then-place-self
returns-then-place-self c powers validator some same =
    let before : c.args.self.now.before ≡ total (take validator powers) = ap (λ (t : Turns). t.before) same in
    let own : c.args.self.now.own ≡ get_or powers validator 0 = ap (λ (t : Turns). t.own) same in
    let cycle : c.args.self.now.cycle ≡ total powers = ap (λ (t : Turns). t.cycle) same in
    let most = total_most powers validator in
    let place : c.unwrap_or-place.result ≡ c.args.height % total powers = c.unwrap_or-place.ensures ∙ remainder_is c.checked_rem.result c.args.self.now.cycle c.args.height (omega arith) c.checked_rem.ensures ∙ ap (λ n. c.args.height % n) cycle in
    let lt : c.args.height % total powers < total (take validator powers) = omega (arith, c.if-place-self.true) in
    let count : c.args.self.now.before - c.unwrap_or-place.result ≡ total (take validator powers) - c.args.height % total powers = omega arith in
    rw count (next_ahead powers validator c.args.height some lt)

pub returns-then-saturating_add-end : goal.returns-then-saturating_add-end
returns-then-saturating_add-end c powers validator some same =
    let before : c.args.self.now.before ≡ total (take validator powers) = ap (λ (t : Turns). t.before) same in
    let own : c.args.self.now.own ≡ get_or powers validator 0 = ap (λ (t : Turns). t.own) same in
    let cycle : c.args.self.now.cycle ≡ total powers = ap (λ (t : Turns). t.cycle) same in
    let most = total_most powers validator in
    let place : c.unwrap_or-place.result ≡ c.args.height % total powers = c.unwrap_or-place.ensures ∙ remainder_is c.checked_rem.result c.args.self.now.cycle c.args.height (omega arith) c.checked_rem.ensures ∙ ap (λ n. c.args.height % n) cycle in
    next_at_once powers validator c.args.height (omega (arith, c.if-place-self.false)) (omega (arith, c.if-saturating_add-end.true, c.saturating_add.ensures, c.saturating_add-end.ensures))

pub returns-else-saturating_add-end : goal.returns-else-saturating_add-end
returns-else-saturating_add-end c powers validator some same =
    let before : c.args.self.now.before ≡ total (take validator powers) = ap (λ (t : Turns). t.before) same in
    let own : c.args.self.now.own ≡ get_or powers validator 0 = ap (λ (t : Turns). t.own) same in
    let cycle : c.args.self.now.cycle ≡ total powers = ap (λ (t : Turns). t.cycle) same in
    let most = total_most powers validator in
    let place : c.unwrap_or-place.result ≡ c.args.height % total powers = c.unwrap_or-place.ensures ∙ remainder_is c.checked_rem.result c.args.self.now.cycle c.args.height (omega arith) c.checked_rem.ensures ∙ ap (λ n. c.args.height % n) cycle in
    let past : total (take validator powers) + get_or powers validator 0 ≤ c.args.height % total powers + 1 = omega (arith, c.if-saturating_add-end.false, c.saturating_add.ensures, c.saturating_add-end.ensures) in
    let count : c.saturating_add-else-saturating_add-end.result ≡ total powers - c.args.height % total powers + total (take validator powers) = omega (arith, c.saturating_sub.ensures, c.saturating_add-else-saturating_add-end.ensures) in
    rw count (next_behind powers validator c.args.height some past)
