-- Single cases that compute.
use Rattle.std.proofs.Common.{refl}
use Rattle.powers.specs.Power.{is_quorum, is_weak, proposer}
use Rattle.sha2.specs.Sha256.{sha256, digest_bytes, hash_after, compress, rounds, schedule, first_words}
use Rattle.authenticators.specs.Tags.{hmac, is_right}
use Rattle.transactions.specs.Fields.{number_bytes, ranged, limited, repeat, whole}
use Rattle.transactions.specs.Grammar.{tx_fields_spelling, tags_spelling, tx_spelling, value_spelling}
use Rattle.transactions.specs.Reading.{data_at, op_after, op_at, tx_fields_at, tx_kind_at, tx_body_at, tag_count_at, tags_at, tx_at, value_at}
use Rattle.messages.specs.Grammar.{proposal_spelling, vote_spelling, precommit_spelling, precommits_spelling, bundle_head_spelling, bundle_spelling}
use Rattle.messages.specs.Reading.{valid_round_at, proposal_at, content_after, content_at, vote_at, precommit_at, precommits_at, bundle_at, body_after, body_at}
use Rattle.messages.specs.Framing.{message_at, content_of, message_of, message_spelling, frame_spelling}
use Rattle.protocol.specs.Values.{id, fifo, valid}
use Rattle.protocol.specs.Tags.{right, tx_is_right, genuine}
use Rattle.protocol.specs.Messages.{below, tagged}
use Rattle.protocol.specs.Queues.{pick}
use Rattle.protocol.specs.Refusals.{bundle_senders}
use Rattle.protocol.specs.Restart.{restart}
use Rattle.protocol.specs.Order.{enabled}
use Rattle.protocol.specs.Examples.{Tallies, Holds, Again, Orders, Waits, Starts, Refuses, Takes, Judges, Ends, Halts, Picks, Answers, Sent}

pub tallies : Tallies
tallies = (refl, refl, refl)

pub holds_locked : Holds
unfolding is_quorum is_weak proposer tagged below restart pick valid genuine fifo value_spelling tx_spelling tx_fields_spelling tags_spelling number_bytes
holds_locked = (refl, refl)

pub again : Again
unfolding is_quorum is_weak proposer tagged below restart pick valid genuine fifo value_spelling tx_spelling tx_fields_spelling tags_spelling number_bytes id sha256 digest_bytes hash_after compress rounds schedule first_words
again = (refl, refl)

pub orders : Orders
unfolding is_quorum is_weak proposer tagged below restart pick valid genuine fifo value_spelling tx_spelling tx_fields_spelling tags_spelling number_bytes
orders = (refl, refl, refl, refl, refl)

pub waits : Waits
unfolding is_quorum is_weak proposer tagged below restart pick valid genuine fifo value_spelling tx_spelling tx_fields_spelling tags_spelling number_bytes
waits = refl

pub starts : Starts
unfolding is_quorum is_weak proposer tagged below restart pick valid genuine fifo value_spelling tx_spelling tx_fields_spelling tags_spelling number_bytes enabled
starts = (refl, refl)

pub refuses : Refuses
unfolding is_quorum is_weak proposer sha256 digest_bytes hash_after compress rounds schedule first_words hmac is_right number_bytes ranged limited repeat whole tx_fields_spelling tags_spelling tx_spelling value_spelling data_at op_after op_at tx_fields_at tx_kind_at tx_body_at tag_count_at tags_at tx_at value_at proposal_spelling vote_spelling precommit_spelling precommits_spelling bundle_head_spelling bundle_spelling valid_round_at proposal_at content_after content_at vote_at precommit_at precommits_at bundle_at body_after body_at message_at content_of message_of message_spelling frame_spelling id fifo valid right tx_is_right genuine below tagged pick bundle_senders restart
refuses = (refl, refl, refl, refl, refl)

pub takes : Takes
unfolding is_quorum is_weak proposer sha256 digest_bytes hash_after compress rounds schedule first_words hmac is_right number_bytes ranged limited repeat whole tx_fields_spelling tags_spelling tx_spelling value_spelling data_at op_after op_at tx_fields_at tx_kind_at tx_body_at tag_count_at tags_at tx_at value_at proposal_spelling vote_spelling precommit_spelling precommits_spelling bundle_head_spelling bundle_spelling valid_round_at proposal_at content_after content_at vote_at precommit_at precommits_at bundle_at body_after body_at message_at content_of message_of message_spelling frame_spelling id fifo valid right tx_is_right genuine below tagged pick bundle_senders restart
takes = refl

pub judges : Judges
unfolding is_quorum is_weak proposer sha256 digest_bytes hash_after compress rounds schedule first_words hmac is_right number_bytes ranged limited repeat whole tx_fields_spelling tags_spelling tx_spelling value_spelling data_at op_after op_at tx_fields_at tx_kind_at tx_body_at tag_count_at tags_at tx_at value_at proposal_spelling vote_spelling precommit_spelling precommits_spelling bundle_head_spelling bundle_spelling valid_round_at proposal_at content_after content_at vote_at precommit_at precommits_at bundle_at body_after body_at message_at content_of message_of message_spelling frame_spelling id fifo valid right tx_is_right genuine below tagged pick bundle_senders restart
judges = (refl, refl)

pub ends : Ends
unfolding restart
ends = (refl, refl, refl)

pub halts : Halts
halts = (refl, refl, refl)

pub picks : Picks
unfolding restart pick fifo valid value_spelling tx_spelling tx_fields_spelling tags_spelling number_bytes
picks = (refl, refl)

pub answers : Answers
unfolding restart
answers = refl

pub sent : Sent
unfolding proposer restart pick value_spelling number_bytes
sent = (refl, refl, refl)
