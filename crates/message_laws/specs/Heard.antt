-- What is read of the bytes that come, and what of it is told apart.
use Rattle.std.specs.Prelude.{◌≡◌, ℕ, ◌<◌, ◌≤◌, true, Option, Some, List, [], length, Result, Ok}
use Rattle.std.specs.List.{AllByRecursion}
use Rattle.std.specs.Bool.{Decides}
use Rattle.transactions.specs.Grammar.{tx_body_spelling, value_spelling, IsTxBody}
use Rattle.messages.specs.Grammar.{body_spelling}
use Rattle.messages.specs.Framing.{message_of, frame_spelling}
use Rattle.protocol.specs.Values.{Id, Tx, Value, item, value_eq}
use Rattle.protocol.specs.Tags.{Setting, right}
use Rattle.protocol.specs.Messages.{◌∈◌, step_eq, Body, OfTx, Message, Proposal, Vote, content_eq, round_eq, vote_eq, proposal_eq, sender_of, tagged}
use Rattle.protocol.specs.declared.types.Step.{Step}
use Rattle.protocol.specs.World.{Event, Comes, Restarts, InArrival, beginning, run}
use Rattle.protocol.specs.Premises.{Honesty, AtCorrect, at_validator, BodyHas}

abbrev pub AreBytes : List ℕ → Type 0
AreBytes bytes = AllByRecursion (λ b. b < 256) bytes

-- Bytes are read as a message only where they are its frame.
abbrev pub ReadLaw : Type 0
ReadLaw = (bytes : List ℕ) (m : Message) → AreBytes bytes → message_of bytes ≡ Ok m → bytes ≡ frame_spelling m

-- A body's frame is read again, and each validator finds its tag right.
pub record IsHeard (c : Setting) (b : Body) : Type 0 where
  pub read : message_of (frame_spelling (tagged c b)) ≡ Ok (tagged c b)
  pub tags : (q : ℕ) → q < length c.powers → right c q (sender_of b) (body_spelling b) (tagged c b).tags ≡ true

abbrev pub HasBytes : Event → Type 0
HasBytes (Comes p bytes) = AreBytes bytes
HasBytes (Restarts p (Some (InArrival bytes))) = AreBytes bytes
HasBytes _ = Unit {0}

-- Whatever bytes come to correct validators, what these release is heard; so is a transaction in range.
abbrev pub HeardLaw : Type 0
HeardLaw = (c : Setting) → 1 ≤ length c.powers → length c.powers ≤ 128 →
    ((h : Honesty) (events : List Event) → AllByRecursion (λ e. AtCorrect c h (at_validator e) × HasBytes e) events → (b : Body) → b ∈ (run c (beginning c) events).released → IsHeard c b)
    × ((t : Tx) → IsTxBody t → t.tags ≡ [] → IsHeard c (OfTx t))

-- Of what is read no two bodies have the same bytes, and no two values in them; nor have two transactions in range, but for their tags.
abbrev pub ApartLaw : Type 0
ApartLaw = ((bytes other : List ℕ) (m n : Message) → AreBytes bytes → AreBytes other → message_of bytes ≡ Ok m → message_of other ≡ Ok n →
    (body_spelling m.body ≡ body_spelling n.body → m.body ≡ n.body) × ((v u : Value) → BodyHas v m.body → BodyHas u n.body → value_spelling v ≡ value_spelling u → v ≡ u))
    × ((t u : Tx) → IsTxBody t → IsTxBody u → tx_body_spelling t ≡ tx_body_spelling u → item t ≡ item u)

-- Each of these tells whether two are the same.
abbrev pub SameLaw : Type 0
SameLaw = ((a b : Step) → Decides (step_eq a b) (a ≡ b))
    × ((a b : Option ℕ) → Decides (round_eq a b) (a ≡ b))
    × ((a b : Option Id) → Decides (content_eq a b) (a ≡ b))
    × ((a b : Value) → Decides (value_eq a b) (a ≡ b))
    × ((a b : Vote) → Decides (vote_eq a b) (a ≡ b))
    × ((a b : Proposal) → Decides (proposal_eq a b) (a ≡ b))
