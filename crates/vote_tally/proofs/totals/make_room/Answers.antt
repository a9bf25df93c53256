use Rattle.std.proofs.Common.{◌∙◌, sym}
use Rattle.vote_tally.proofs.Raising.{room_made}
use Rattle.vote_tally.proofs.totals.make_room.Goals as goal

pub returns-clause-same : goal.returns-clause-same
returns-clause-same c = λ t. room_made c.args.totals.now c.insert.new.self c.args.topic (λ q. c.in_ok-insert.ensures.updates.0 q) (sym c.contains_key.ensures ∙ c.if-contains_key.false) t
