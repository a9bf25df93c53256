-- A run of frames that come up to a decision.
use Rattle.std.proofs.Common.{refl}
use Rattle.powers.specs.Power.{is_quorum, is_weak, proposer}
use Rattle.sha2.specs.Sha256.{sha256, digest_bytes, hash_after, compress, rounds, schedule, first_words}
use Rattle.authenticators.specs.Tags.{hmac, is_right}
use Rattle.transactions.specs.Fields.{number_bytes, ranged, limited, repeat, whole}
use Rattle.transactions.specs.Grammar.{tx_fields_spelling, tags_spelling, tx_spelling, value_spelling}
use Rattle.transactions.specs.Reading.{data_at, op_after, op_at, tx_fields_at, tx_kind_at, tx_body_at, tag_count_at, tags_at, tx_at, value_at}
use Rattle.messages.specs.Grammar.{proposal_spelling, vote_spelling, precommit_spelling, precommits_spelling, bundle_head_spelling, bundle_spelling}
use Rattle.messages.specs.Reading.{valid_round_at, proposal_at, content_after, content_at, vote_at, precommit_at, precommits_at, bundle_at, body_after, body_at}
use Rattle.messages.specs.Framing.{message_at, content_of, message_of, message_spelling, frame_spelling}
use Rattle.protocol.specs.Values.{id, fifo, valid}
use Rattle.protocol.specs.Tags.{right, tx_is_right, genuine}
use Rattle.protocol.specs.Messages.{below, tagged}
use Rattle.protocol.specs.Queues.{pick}
use Rattle.protocol.specs.Refusals.{bundle_senders}
use Rattle.protocol.specs.Restart.{restart}
use Rattle.protocol.specs.Examples.{Decides}

pub decides : Decides
unfolding is_quorum is_weak proposer sha256 digest_bytes hash_after compress rounds schedule first_words hmac is_right number_bytes ranged limited repeat whole tx_fields_spelling tags_spelling tx_spelling value_spelling data_at op_after op_at tx_fields_at tx_kind_at tx_body_at tag_count_at tags_at tx_at value_at proposal_spelling vote_spelling precommit_spelling precommits_spelling bundle_head_spelling bundle_spelling valid_round_at proposal_at content_after content_at vote_at precommit_at precommits_at bundle_at body_after body_at message_at content_of message_of message_spelling frame_spelling id fifo valid right tx_is_right genuine below tagged pick bundle_senders restart
decides = refl
