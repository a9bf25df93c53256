use Rattle.std.proofs.Common.{rules, [], sym, ap, ◌∙◌}
use Rattle.subscriber_ring.specs.Rule.{offering, taking}
use Rattle.subscriber_ring.proofs.Moves.{begins, parts, nothing_yet, new_feeder, new_subscription}
use Rattle.subscriber_ring.proofs.ends.parted.Goals as goal

pub bounded_with-requires-clause-rule : goal.bounded_with-requires-clause-rule
bounded_with-requires-clause-rule g c = begins

pub another-reader-requires-clause-rule : goal.another-reader-requires-clause-rule
another-reader-requires-clause-rule g c = parts _ _ 0 [] [] _ (search rules) (nothing_yet _ (search rules))

pub invariant_of-feeder : goal.invariant_of-feeder
invariant_of-feeder g c =
    let k = new_feeder c.args.first _ (search rules) (c.another-reader.ensures.rule.0 ∙ ap (λ n. offering n []) (sym c.requires.first)) in
    (k.0, c.another-reader.ensures.channel.0, c.in_ok-sender.ensures.1, k.1, k.2)

pub invariant_of-subscription : goal.invariant_of-subscription
invariant_of-subscription g c =
    let k = new_subscription c.args.first _ (search rules) (c.another-reader.ensures.rule.1 ∙ ap (λ n. taking n []) (sym c.requires.first)) in
    (k.0, search rules, k.1, k.2)
