use Rattle.protocol.proofs.Runs.Cases.{tallies, holds_locked, again, orders, waits, starts, refuses, takes, judges, ends, halts, picks, answers, sent}
use Rattle.protocol.proofs.worked_cases.Goals as goal

pub returns : goal.returns
returns c = (tallies, holds_locked, again, orders, waits, starts, refuses, takes, judges, ends, halts, picks, answers, sent)
