use Rattle.printed_lines.proofs.json.FieldsDisplay.fmt.Goals as goal

pub returns-in-Lock-clause-writes : goal.returns-in-Lock-clause-writes
returns-in-Lock-clause-writes g c = rw c.in-Lock.is c.write-in-Lock.ensures.writes

pub returns-in-Proposal-clause-writes : goal.returns-in-Proposal-clause-writes
returns-in-Proposal-clause-writes g c = rw c.in-Proposal.is c.write.ensures.writes
