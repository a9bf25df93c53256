use Rattle.std.proofs.Common.{◌≤◌, ◌∙◌, ap, refl, false, length, List}
use Rattle.std.specs.Prelude.{◌==◌}
use Rattle.std.specs.List.{list_any}
use Rattle.std.proofs.lemmas.List.{get_or-replicate, take_all}
use Rattle.messages.specs.declared.body.Precommit.{Precommit}
use Rattle.protocol.specs.Refusals.{named_senders}
use Rattle.vote_journal.proofs.standing.named_power.Goals as goal

pub loop-precommit-init : goal.loop-precommit-init
loop-precommit-init c = record { marks = λ i small. get_or-replicate 128 i false false small; len = refl }

pub returns : goal.returns
returns c =
    let end : length c.args.bundle.now.precommits ≤ c.loop-precommit.precommit-index = rw c.as_slice-precommit-items.ensures at c.loop-precommit-test.false in
    c.power_of_set.ensures.power (named_senders c.args.bundle.now) (λ i small.
    c.loop-precommit.invariant.marks i small ∙ ap (λ (ps : List Precommit). list_any (λ s. s.sender == i) ps) (take_all c.loop-precommit.precommit-index c.args.bundle.now.precommits end))
