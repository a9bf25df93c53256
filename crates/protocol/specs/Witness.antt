-- A run in which the premises of the headline hold and something happens: validators 0, 1 and 2 and client 5 are correct, validator 3 lies.
use Rattle.std.specs.Prelude.{◌≡◌, ℕ, None, Some, List, [], ◌∷◌, map, replicate, ◌==◌}
use Rattle.powers.specs.Power.{FewLie}
use Rattle.messages.specs.Framing.{frame_spelling}
use Rattle.protocol.specs.Values.{Bytes, item}
use Rattle.protocol.specs.Messages.{prevote, precommit, Bundle, Body, Message, OfTx, OfVote, OfAsk, OfBundle, Record, Own, Decided, Proposing, Prevoting, Precommitting, tagged}
use Rattle.protocol.specs.State.{Start, PrevoteFresh, Lock, Decide}
use Rattle.protocol.specs.World.{World, Event, InFiring, Sends, Comes, Fires, Asks, Resends, Restarts, beginning, run, delivered}
use Rattle.protocol.specs.Premises.{Honesty, Unforged, Distinct}
use Rattle.protocol.specs.Examples.{four, no_tag, hello, greeting, greeting_id, proposal}

abbrev pub honesty : Honesty
honesty = record { liars = λ i. i == 3; clients = λ i. i == 5 }

-- a body's frame, with right tags for everyone
abbrev pub sealed : Body → List ℕ
sealed body = frame_spelling (tagged four body)

-- validator i's votes
abbrev pub prevoted : ℕ → Body
prevoted i = OfVote (prevote 0 0 i (Some greeting_id))

abbrev pub precommitted : ℕ → Body
precommitted i = OfVote (precommit 0 0 i (Some greeting_id))

-- a vote in validator 2's name, with tags that are right for nobody
abbrev pub impostor : Message
impostor = record { body = OfVote (prevote 0 0 2 None); tags = replicate 4 no_tag }

abbrev pub asked : Body
asked = OfAsk (record { height = 0; sender = 1 })

-- the decision of height 0, with the precommits of two correct validators and of the liar
abbrev pub answered : Bundle
answered = record { height = 0; sender = 0; round = 0; id = greeting_id; value = greeting; precommits = map (λ i. record { sender = i; tags = (tagged four (precommitted i)).tags }) (0 ∷ 1 ∷ 3 ∷ []) }

-- Client 5 sends, and validator 0 proposes it. A frame in validator 2's name is refused. Validators 0 and 1 and the liar prevote. Validator 1 stops as it precommits: its record is saved, and sent again once it is open.
-- Validator 0 decides, answers what validator 1 asks, and its bundle decides there too.
abbrev pub meeting : List Event
meeting = Sends 5 (Bytes (104 ∷ 105 ∷ []))
    ∷ Comes 0 (frame_spelling (record { body = OfTx (record hello { tags = [] }); tags = hello.tags }))
    ∷ Fires 0 Start ∷ Fires 0 (PrevoteFresh greeting)
    ∷ Fires 1 Start ∷ Comes 1 (sealed (proposal 0 None greeting)) ∷ Fires 1 (PrevoteFresh greeting)
    ∷ Comes 0 (frame_spelling impostor) ∷ Comes 0 (sealed (prevoted 1)) ∷ Comes 0 (sealed (prevoted 3)) ∷ Fires 0 (Lock greeting)
    ∷ Comes 1 (sealed (prevoted 0)) ∷ Comes 1 (sealed (prevoted 3)) ∷ Restarts 1 (Some (InFiring (Lock greeting))) ∷ Resends 1
    ∷ Comes 0 (sealed (precommitted 1)) ∷ Comes 0 (sealed (precommitted 3)) ∷ Fires 0 (Decide 0 greeting)
    ∷ Asks 1 ∷ Comes 0 (sealed asked) ∷ Comes 1 (sealed (OfBundle answered)) ∷ []

-- the journals then: each has what its validator saved, validator 1's also the record that the stop cut
abbrev pub journal_of_0 : List Record
journal_of_0 = Decided answered ∷ Own 0 0 (Precommitting (Some greeting)) ∷ Own 0 0 (Prevoting (Some greeting_id)) ∷ Own 0 0 (Proposing None greeting) ∷ []

abbrev pub journal_of_1 : List Record
journal_of_1 = Decided (record answered { sender = 1 }) ∷ Own 0 0 (Precommitting (Some greeting)) ∷ Own 0 0 (Prevoting (Some greeting_id)) ∷ []

-- Both have delivered what the client sent, which waits no more. What was released stands there in order, the newest first.
pub record Met (w : World) : Type 0 where
  pub sent : w.sent 5 ≡ item hello ∷ []
  pub delivered_at_0 : delivered w 0 ≡ item hello ∷ []
  pub delivered_at_1 : delivered w 1 ≡ item hello ∷ []
  pub saved_by_0 : (w.nodes 0).journal ≡ journal_of_0
  pub saved_by_1 : (w.nodes 1).journal ≡ journal_of_1
  pub waiting : (w.nodes 0).queues ≡ record { client = 5; waiting = [] } ∷ []
  pub released : w.released ≡ OfBundle answered ∷ asked ∷ prevoted 1 ∷ precommitted 1 ∷ precommitted 0 ∷ prevoted 1 ∷ prevoted 0 ∷ proposal 0 None greeting ∷ []

abbrev pub PremisesMetLaw : Type 0
PremisesMetLaw = FewLie four.powers honesty.liars × Unforged four honesty (beginning four) meeting × Distinct four honesty meeting × Met (run four (beginning four) meeting)
