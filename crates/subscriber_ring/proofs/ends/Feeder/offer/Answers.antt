use Rattle.subscriber_ring.proofs.Moves.{full}
use Rattle.subscriber_ring.proofs.ends.Feeder.offer.Goals as goal

pub offer_or_learn-requires-clause-lesson : goal.offer_or_learn-requires-clause-lesson
offer_or_learn-requires-clause-lesson g c = λ place. full place _ _
