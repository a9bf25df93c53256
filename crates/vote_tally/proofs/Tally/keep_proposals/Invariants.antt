use Rattle.std.proofs.Common.{◌≡◌, ◌++◌, take, None}
use Rattle.vote_tally.proofs.Tally.keep_proposals.Given as goal

abbrev pub invariant-loop-proposal : goal.invariant-loop-proposal
invariant-loop-proposal l = l.self ≡ record l.initial.self { proposals = l.initial.self.proposals ++ take l.proposal-index l.proposals; ready = None }
