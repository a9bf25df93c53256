use Rattle.std.proofs.Common.{leb, refl, rules}
use Rattle.std.proofs.lemmas.Fn.{filter_same}
use Rattle.std.proofs.lemmas.List.Kept.{IsNonDecreasingBy-filter}
use Rattle.timeouts.specs.Waiting.{Due}
use Rattle.timeouts.proofs.Plan.forget_below.Goals as goal

pub returns : goal.returns
returns c =
    let kept = filter_same _ (λ (e : Due). leb c.args.height e.timeout.height) _ (λ x b q k. search rules) c.self.inside.due.items c.retain.new.self.items c.retain.ensures.filtered in
    rw (← c.self.view_is, kept) refl

pub invariant_of-self : goal.invariant_of-self
invariant_of-self c =
    let kept = filter_same _ (λ (e : Due). leb c.args.height e.timeout.height) _ (λ x b q k. search rules) c.self.inside.due.items c.retain.new.self.items c.retain.ensures.filtered in
    (c.self.invariant.0, c.self.invariant.1, rw kept (IsNonDecreasingBy-filter (λ (e : Due). e.at) (λ (e : Due). leb c.args.height e.timeout.height) c.self.inside.due.items c.self.invariant.2))
