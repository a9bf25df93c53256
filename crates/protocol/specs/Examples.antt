-- Worked runs and cases of four validators of power 1. The tags and ids are written out, as another program computed them.
use Rattle.std.specs.Prelude.{◌≡◌, ℕ, ◌-◌, true, false, Option, Some, None, List, [], ◌∷◌, ◌++◌, ◌==◌, replicate, map, option_map}
use Rattle.transactions.specs.Fields.{number_bytes}
use Rattle.messages.specs.Framing.{message_of, frame_spelling}
use Rattle.protocol.specs.Values.{Id, Tx, Bytes, Close, Value, Item, id, item, valid}
use Rattle.protocol.specs.Tags.{Setting, Party, Validator, Client}
use Rattle.protocol.specs.Messages.{Step, Propose, Prevote, Precommit, Vote, prevote, precommit, Signed, Bundle, Body, OfTx, OfProposal, OfVote, OfAsk, OfBundle, Record, Own, Decided, Proposing, Prevoting, Precommitting}
use Rattle.protocol.specs.Tally.{power_for, power_any, power_above}
use Rattle.protocol.specs.State.{State, ValueAt, Timeout, Node, Start, PrevoteFresh, PrevoteAgain, Lock, Decide, DecideByBundle, TimedOut}
use Rattle.protocol.specs.Rules.{saved, holds}
use Rattle.protocol.specs.Restart.{restart, opened, own_since, delivered_of}
use Rattle.protocol.specs.Refusals.{context, answer, refusal_number, WrongDigest, BadTag, first_cause, judge_causes}
use Rattle.protocol.specs.Calls.{timeout_answer, call_answer, call_number}
use Rattle.protocol.specs.Queues.{pick}
use Rattle.protocol.specs.Arrivals.{firing, replies}
use Rattle.protocol.specs.World.{Event, InFiring, Sends, Comes, Fires, Asks, Resends, Restarts, beginning, run}
use Rattle.protocol.specs.Reports.{What, Answered, DecidedAt, Released, Told, report}
use Rattle.protocol.specs.Order.{enabled}

-- ---- four validators and a client

abbrev pub key : Party → ℕ → List ℕ
key (Validator i) receiver = i ∷ receiver ∷ []
key (Client i) receiver = 255 ∷ i ∷ receiver ∷ []

abbrev pub four : Setting
four = record { powers = 1 ∷ 1 ∷ 1 ∷ 1 ∷ []; clients = λ i. i == 5; key = key }

-- a tag or an id
abbrev pub digest : ℕ → List ℕ
digest n = number_bytes 32 n

-- a tag that is right for nobody
abbrev pub no_tag : List ℕ
no_tag = replicate 32 0

-- the frame of a body whose tag for this receiver is given; what the others would get matters to nobody here
abbrev pub tags_to : ℕ → ℕ → List (List ℕ)
tags_to receiver tag = replicate receiver no_tag ++ digest tag ∷ replicate (3 - receiver) no_tag

abbrev pub frame : ℕ → Body → ℕ → List ℕ
frame receiver body tag = frame_spelling (record { body = body; tags = tags_to receiver tag })

abbrev pub hello : Tx
hello = record {
  client = 5;
  session = 0;
  number = 1;
  op = Bytes (104 ∷ 105 ∷ []);
  tags = digest 0x417f83c59a0963022207b0fbf72d940859d7c2a101d522cff97e63cdb92f20f4
      ∷ digest 0x5bd6bf867975c833701ea58bd850a12f03da1a91fedec74980242ef16d7dc624
      ∷ digest 0x914f3e67fc616a2df8e07aa0a701cae105f24495719ebb23c6732213949bdf37
      ∷ digest 0xc47f5ad10dc25a834b93ece42c7ea0ecf72fdfafc108826bdf88829e25768df0 ∷ [];
}

-- three values: with no transactions, with that one, and with that one under wrong tags
abbrev pub empty : Value
empty = record { txs = [] }

abbrev pub greeting : Value
greeting = record { txs = hello ∷ [] }

abbrev pub forged : Value
forged = record { txs = record hello { tags = no_tag ∷ no_tag ∷ no_tag ∷ no_tag ∷ [] } ∷ [] }

abbrev pub empty_id : Id
empty_id = digest 0x96a296d224f285c67bee93c30f8a309157f0daa35dc5b87e410b78630a09cfc7

abbrev pub greeting_id : Id
greeting_id = digest 0x1c77232d491682ee42800431523616593b6fe1fade4ce71e6f57dfd17b4d6ee7

abbrev pub forged_id : Id
forged_id = digest 0xe91377d84f59af3065ddea02497c2dee5d6e736d52aede789221c38fcd1baa5b

abbrev pub proposal : ℕ → Option ℕ → Value → Body
proposal round valid_round value = OfProposal (record { height = 0; round = round; sender = round; valid_round = valid_round; value = value })

abbrev pub timeout : ℕ → ℕ → Step → Event
timeout p round kind = Fires p (TimedOut (record { kind = kind; height = 0; round = round }))

abbrev pub node_after : ℕ → List Event → Node
node_after p events = (run four (beginning four) events).nodes p

-- ---- a decision

-- A client's transaction comes to validator 0, which proposes it. With two others' votes it decides.
abbrev pub decision : List Event
decision = Comes 0 (frame_spelling (record { body = OfTx (record hello { tags = [] }); tags = hello.tags }))
    ∷ Fires 0 Start ∷ Fires 0 (PrevoteFresh greeting)
    ∷ Comes 0 (frame 0 (OfVote (prevote 0 0 1 (Some greeting_id))) 0x8b9bb5f2a83bffa70513a13eabe240bed64ec34ecde21761d56370120b183bdd)
    ∷ Comes 0 (frame 0 (OfVote (prevote 0 0 2 (Some greeting_id))) 0xd240f6a89b6b139869d4caca734fa77f77e6bc855bac7b8e8c4732499f8d4317)
    ∷ Fires 0 (Lock greeting)
    ∷ Comes 0 (frame 0 (OfVote (precommit 0 0 1 (Some greeting_id))) 0xb58b2f1635993a239275a07c5171e15f945589243717b92013bbf856d7d3aa28)
    ∷ Comes 0 (frame 0 (OfVote (precommit 0 0 2 (Some greeting_id))) 0x7bcc92400ffdfa3cbb03c7875eee5baee0ad29e0180cd50c2a8f4429a91aae34)
    ∷ Fires 0 (Decide 0 greeting) ∷ []

-- the senders of each decision's precommits
abbrev pub signers : List Record → List (List ℕ)
signers [] = []
signers (Decided b ∷ rest) = map (λ (s : Signed). s.sender) b.precommits ∷ signers rest
signers (Own h r act ∷ rest) = signers rest

-- what is delivered, by whose precommits, and the next height
abbrev pub outcome : Node → List Item × List (List ℕ) × ℕ
outcome n = (delivered_of n.journal, signers n.journal, n.state.height)

abbrev pub Decides : Type 0
Decides = outcome (node_after 0 decision) ≡ (item hello ∷ [], (0 ∷ 1 ∷ 2 ∷ []) ∷ [], 1)

-- ---- a lock that holds, and one that an earlier quorum lets go

-- Validator 3 locks the empty value in round 0. Round 1 proposes another. Round 2 proposes that one again, as of round 1, whose prevotes for it come. Then validator 3 stops and is opened again.
abbrev pub relocking : List Event
relocking = Fires 3 Start
    ∷ Comes 3 (frame 3 (proposal 0 None empty) 0x3436c672d601d21c14e3d79d89a33291b05adc9a6ad9e9c917f7217f695aa47d)
    ∷ Fires 3 (PrevoteFresh empty)
    ∷ Comes 3 (frame 3 (OfVote (prevote 0 0 0 (Some empty_id))) 0x695ffd1a810a46f9d2b625c7b4afbe06fe898b4e22510db6383e464b03b2d845)
    ∷ Comes 3 (frame 3 (OfVote (prevote 0 0 1 (Some empty_id))) 0xb91c1cfeb1f1d8495ca1ffefd944212c71d040d405e0a95b91ab299542e10321)
    ∷ Fires 3 (Lock empty)
    ∷ timeout 3 0 Precommit
    ∷ Comes 3 (frame 3 (proposal 1 None greeting) 0xf47f19c94e764b1aecc02bc6c20f60b42b1e53796df0ab8936d913364d0b59ec)
    ∷ Fires 3 (PrevoteFresh greeting)
    ∷ timeout 3 1 Precommit
    ∷ Comes 3 (frame 3 (proposal 2 (Some 1) greeting) 0xb35d689991cc5882a45cb9bd04c69eea85e985480269aeff609b461b80ddc4a9)
    ∷ Comes 3 (frame 3 (OfVote (prevote 0 1 0 (Some greeting_id))) 0x3a4ced0cd38d63f6f17dd77f30727cd38a745a0a3040774d513bad594288c3ee)
    ∷ Comes 3 (frame 3 (OfVote (prevote 0 1 1 (Some greeting_id))) 0x1e74677d4d9b389ec53779b68f3d42a21cb84390af2be396ad7f6d773d65745d)
    ∷ Comes 3 (frame 3 (OfVote (prevote 0 1 2 (Some greeting_id))) 0x4b6fcec05f71e445f0eab521858fd3c338cf03d606f81312d3d3f57cbf292815)
    ∷ Fires 3 (PrevoteAgain 1 greeting)
    ∷ Restarts 3 None ∷ []

abbrev pub standing : Node → List Record × Option ValueAt × ℕ × Step
standing n = (n.journal, n.state.lock, n.state.round, n.state.step)

-- It precommits the empty value, prevotes nothing for the other while locked, then prevotes it; lock, round and step outlast the stop.
abbrev pub Relocks : Type 0
Relocks = standing (node_after 3 relocking)
    ≡ (Own 0 2 (Prevoting (Some greeting_id)) ∷ Own 0 1 (Prevoting None) ∷ Own 0 0 (Precommitting (Some empty)) ∷ Own 0 0 (Prevoting (Some empty_id)) ∷ [], Some (record { round = 0; value = empty }), 2, Prevote)

-- ---- a value under wrong tags, and a bundle

abbrev pub bundle : Bundle
bundle = record {
  height = 0;
  sender = 1;
  round = 0;
  id = forged_id;
  value = forged;
  precommits = record { sender = 0; tags = tags_to 3 0x0f095ba5cbef1a4fcd0556efd90f03a48072b0a0e503261e3f43be58821afe10 }
      ∷ record { sender = 1; tags = tags_to 3 0xeebcb1f01e6e51c8b77b3262e04bd246de12f65501d3160371b46f1c7483c47f }
      ∷ record { sender = 2; tags = tags_to 3 0xb5651c9b28cbd8c717f5e01a71cc6fe0609e55a8e396ed87e6fdd251f9e2b07e } ∷ [];
}

-- Its tag for validator 3 is wrong, so this one prevotes nothing. A bundle by the other three decides it.
abbrev pub bundling : List Event
bundling = Fires 3 Start
    ∷ Comes 3 (frame 3 (proposal 0 None forged) 0xed39fb558694aebcdaf77f0f9d62422f3204467d3c17c5d4c5a299cf1e9a83f5)
    ∷ Fires 3 (PrevoteFresh forged)
    ∷ Comes 3 (frame 3 (OfBundle bundle) 0x10f38a6b4ac28ec563f869282fa0d804ee54cd81f2f5e8aa237b61e0dbbc98a4) ∷ []

abbrev pub Bundles : Type 0
Bundles = (node_after 3 bundling).journal ≡ Decided (record bundle { sender = 3 }) ∷ Own 0 0 (Prevoting None) ∷ []

-- ---- cases

-- the prevotes of round 0 for 7, the second twice; one is for nothing, one for 8, one of round 1, and one vote is a precommit
abbrev pub some_votes : List Vote
some_votes = prevote 0 0 0 (Some (7 ∷ [])) ∷ prevote 0 0 1 (Some (7 ∷ [])) ∷ prevote 0 0 1 (Some (7 ∷ [])) ∷ prevote 0 0 2 None ∷ prevote 0 0 3 (Some (8 ∷ [])) ∷ prevote 0 1 2 (Some (7 ∷ [])) ∷ precommit 0 0 3 (Some (7 ∷ [])) ∷ []

-- Each sender counts once, in its round and step and for its content.
abbrev pub Tallies : Type 0
Tallies = (power_for (1 ∷ 10 ∷ 100 ∷ 1000 ∷ []) some_votes 0 Prevote (Some (7 ∷ [])) ≡ 11) × (power_any (1 ∷ 10 ∷ 100 ∷ 1000 ∷ []) some_votes 0 Prevote ≡ 1111) × (power_above (1 ∷ 10 ∷ 100 ∷ 1000 ∷ []) [] some_votes 1 ≡ 100)

-- in round 3, locked on the empty value in round 2
abbrev pub locked : State
locked = record (restart 3 []) { begun = true; round = 3; lock = Some (record { round = 2; value = empty }) }

-- A quorum of an earlier round than the lock's doesn't let it go, one of the lock's round does.
abbrev pub Holds : Type 0
Holds = (saved (context four 3) empty locked (PrevoteAgain 1 greeting) ≡ Some (Own 0 3 (Prevoting None))) × (saved (context four 3) empty locked (PrevoteAgain 2 greeting) ≡ Some (Own 0 3 (Prevoting (Some (id greeting)))))

-- in round 1, whose proposer proposes the empty value with this valid round, in which three prevoted it
abbrev pub proposed_from : ℕ → State
proposed_from valid_round = record (restart 0 []) {
  begun = true;
  round = 1;
  proposals = record { height = 0; round = 1; valid_round = Some valid_round; value = empty; sender = 1 } ∷ [];
  votes = map (λ i. prevote 0 valid_round i (Some (id empty))) (0 ∷ 1 ∷ 2 ∷ []);
}

-- L28 is for a valid round below the round: a quorum of prevotes in the round itself doesn't let it fire.
abbrev pub Again : Type 0
Again = (holds (context four 3) (proposed_from 0) (PrevoteAgain 0 empty) ≡ true) × (holds (context four 3) (proposed_from 1) (PrevoteAgain 1 empty) ≡ false)

-- Among the delivered items the numbers go on, and after a close those of the next session alone.
abbrev pub Orders : Type 0
Orders = (valid [] greeting ≡ true) × (valid (item hello ∷ []) greeting ≡ false)
    × (valid (item hello ∷ []) (record { txs = record hello { number = 2; op = Close } ∷ record hello { number = 3 } ∷ [] }) ≡ false)
    × (valid (item hello ∷ []) (record { txs = record hello { number = 2; op = Close } ∷ record hello { session = 1 } ∷ [] }) ≡ true)
    × (valid (item hello ∷ []) (record { txs = record hello { session = 1 } ∷ [] }) ≡ false)

-- Timeouts alone lead validator 3 to round 3, where it proposes.
abbrev pub waiting : List Event
waiting = Fires 3 Start ∷ timeout 3 0 Propose ∷ timeout 3 0 Propose ∷ timeout 3 0 Prevote ∷ timeout 3 0 Precommit ∷ timeout 3 1 Precommit ∷ timeout 3 2 Precommit ∷ Fires 3 (PrevoteFresh empty) ∷ []

abbrev pub Waits : Type 0
Waits = (node_after 3 waiting).journal ≡ Own 0 3 (Prevoting (Some (id empty))) ∷ Own 0 3 (Proposing None empty) ∷ Own 0 0 (Precommitting None) ∷ Own 0 0 (Prevoting None) ∷ []

-- The order names Start first, and then nothing until something comes.
abbrev pub Starts : Type 0
Starts = (enabled four.powers (node_after 3 []).state ≡ Some Start) × (enabled four.powers (node_after 3 (Fires 3 Start ∷ [])).state ≡ None)

-- the answer of validator 3 that has just been opened
abbrev pub told : List ℕ → Option (ℕ × ℕ)
told bytes = option_map refusal_number (answer four 3 (opened 3 []) bytes)

-- Bytes that are no frame, too long a frame, an unknown kind, a frame of nothing that doesn't end, and a vote whose tag is wrong.
abbrev pub Refuses : Type 0
Refuses = (told (0 ∷ 0 ∷ 0 ∷ []) ≡ Some (1, 0)) × (told (0 ∷ 16 ∷ 0 ∷ 1 ∷ []) ≡ Some (2, 0)) × (told (0 ∷ 0 ∷ 0 ∷ 1 ∷ 9 ∷ []) ≡ Some (3, 0)) × (told (0 ∷ 0 ∷ 0 ∷ 0 ∷ 1 ∷ []) ≡ Some (4, 0))
    × (told (frame 3 (OfVote (prevote 0 0 1 None)) 0) ≡ Some (6, 0))

-- the vote's right tag
abbrev pub Takes : Type 0
Takes = told (frame 3 (OfVote (prevote 0 0 1 None)) 0x825e02df378937469494dcdad68f33c2d2aec035c9216e4b6de0aadf07fd1c84) ≡ None

-- A bundle whose id isn't its value's decides nothing, whoever vouches for it.
abbrev pub misnamed : Bundle
misnamed = record { height = 0; sender = 1; round = 0; id = greeting_id; value = empty; precommits = [] }

abbrev pub Judges : Type 0
Judges = (first_cause (judge_causes four 3 [] misnamed) ≡ Some WrongDigest) × (holds (record (context four 3) { vouches = λ b i. true }) (restart 3 []) (DecideByBundle misnamed) ≡ false)

-- validator 3 where rounds end, and the precommit timeout of a round
abbrev pub at_limit : State
at_limit = record (restart 3 []) { begun = true; round = 1000000 }

abbrev pub ending : ℕ → Timeout
ending round = record { kind = Precommit; height = 0; round = round }

-- The timeout of the last round is refused, one of another round or of an earlier end isn't.
abbrev pub Ends : Type 0
Ends = (option_map refusal_number (timeout_answer at_limit (ending 1000000)) ≡ Some (10, 0)) × (timeout_answer at_limit (ending 999999) ≡ None) × (timeout_answer (record at_limit { round = 999999 }) (ending 999999) ≡ None)

-- A node that halted says nothing else.
abbrev pub Halts : Type 0
Halts = (option_map call_number (call_answer true (Some BadTag)) ≡ Some (15, 0)) × (option_map call_number (call_answer false (Some BadTag)) ≡ Some (6, 0)) × (call_answer false None ≡ None)

-- validator 0 where the client's transaction waits
abbrev pub asked : Node
asked = record (opened 0 []) { queues = record { client = 5; waiting = hello ∷ [] } ∷ [] }

-- that transaction decided, by nobody's precommits
abbrev pub greeted : Bundle
greeted = record { height = 0; sender = 1; round = 0; id = greeting_id; value = greeting; precommits = [] }

-- A proposer picks what waits, and what a decision delivers waits no more.
abbrev pub Picks : Type 0
Picks = (pick asked.queues ≡ greeting) × ((firing four 0 asked (DecideByBundle greeted)).node.queues ≡ record { client = 5; waiting = [] } ∷ [])

-- An ask is answered by the decision of its height.
abbrev pub Answers : Type 0
Answers = replies (opened 0 (Decided greeted ∷ [])) (OfAsk (record { height = 0; sender = 1 })) ≡ OfBundle greeted ∷ []

-- A client's first item is sent, and after its close the first of the next session. Own messages are sent again, the oldest first, also the one whose save a stop cut.
abbrev pub Sent : Type 0
Sent = ((run four (beginning four) (Sends 5 Close ∷ Sends 5 Close ∷ [])).sent 5 ≡ record { client = 5; session = 0; number = 1; op = Close } ∷ record { client = 5; session = 1; number = 1; op = Close } ∷ [])
    × ((run four (beginning four) (Restarts 0 (Some (InFiring Start)) ∷ Resends 0 ∷ [])).released ≡ proposal 0 None empty ∷ [])
    × (own_since 0 (Own 0 0 (Prevoting None) ∷ Own 0 0 (Proposing None empty) ∷ []) ≡ proposal 0 None empty ∷ OfVote (prevote 0 0 0 None) ∷ [])

-- ---- a report

-- A validator with all the power decides the empty value, gets bytes that are no frame, and asks for its next height.
abbrev pub lone : Setting
lone = record four { powers = 1 ∷ [] }

abbrev pub reporting : List Event
reporting = Fires 0 Start ∷ Fires 0 (PrevoteFresh empty) ∷ Fires 0 (Lock empty) ∷ Fires 0 (Decide 0 empty) ∷ Comes 0 (0 ∷ 0 ∷ 0 ∷ []) ∷ Asks 0 ∷ []

abbrev pub told_at : ℕ → What → Told
told_at event what = record { event = event; validator = Some 0; what = what }

-- Each event tells one thing: a proposal, two votes, the decision, the refusal, the ask.
abbrev pub Reports : Type 0
Reports = report message_of lone (beginning lone) reporting
    ≡ told_at 1 (Released (proposal 0 None empty)) ∷ told_at 2 (Released (OfVote (prevote 0 0 0 (Some empty_id)))) ∷ told_at 3 (Released (OfVote (precommit 0 0 0 (Some empty_id))))
    ∷ told_at 4 (DecidedAt 0 0 empty_id) ∷ told_at 5 (Answered (1, 0)) ∷ told_at 6 (Released (OfAsk (record { height = 1; sender = 0 }))) ∷ []

-- ---- what is computed

abbrev pub WorkedRuns : Type 0
WorkedRuns = Decides × Relocks × Bundles × Reports

abbrev pub WorkedCases : Type 0
WorkedCases = Tallies × Holds × Again × Orders × Waits × Starts × Refuses × Takes × Judges × Ends × Halts × Picks × Answers × Sent
