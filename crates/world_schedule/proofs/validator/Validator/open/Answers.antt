use Rattle.world_schedule.proofs.validator.Validator.open.Goals as goal

pub new-requires-2-clause-empty : goal.new-requires-2-clause-empty
new-requires-2-clause-empty c = c.in_ok-journal.ensures.empty c.in_ok-powers.powers
