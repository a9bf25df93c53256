use Rattle.tmbench.proofs.node.new_core.Goals as goal

pub new-requires-clause-empty : goal.new-requires-clause-empty
new-requires-clause-empty c = c.in_ok-journal.ensures.empty c.in_ok-powers.powers
