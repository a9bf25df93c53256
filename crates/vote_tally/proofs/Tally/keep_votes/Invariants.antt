use Rattle.std.proofs.Common.{◌≡◌, ◌++◌, take, None}
use Rattle.vote_tally.proofs.Tally.keep_votes.Given as goal

abbrev pub invariant-loop-vote : goal.invariant-loop-vote
invariant-loop-vote l = l.self ≡ record l.initial.self { votes = l.initial.self.votes ++ take l.vote-index l.votes; ready = None }
