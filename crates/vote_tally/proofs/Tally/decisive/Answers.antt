use Rattle.vote_tally.proofs.Tally.decisive.Goals as goal

pub returns-clause-each : goal.returns-clause-each
returns-clause-each c = rw (c.deref.ensures.value, ← c.self.view_is) c.self.invariant.1.each

pub returns-clause-once : goal.returns-clause-once
returns-clause-once c = rw c.deref.ensures.value c.self.invariant.1.once
