-- What is found of a frame by keys alone.
use Rattle.std.specs.Prelude.{◌≡◌, ℕ, List, Option, None, IfOk, IfSome, Result, Ok, Err}
use Rattle.authenticators.specs.Tags.{is_right}
use Rattle.transactions.specs.declared.fault.Fault.{Fault}
use Rattle.transactions.specs.Fields.{Gives}
use Rattle.messages.specs.Grammar.{body_spelling}
use Rattle.messages.specs.Framing.{message_of, SpellsFrame, IsMessage}
use Rattle.protocol.specs.Values.{id}
use Rattle.protocol.specs.Tags.{Setting, tx_is_right}
use Rattle.protocol.specs.Messages.{Body, OfTx, OfProposal, OfVote, OfAsk, OfBundle, Message}
use Rattle.protocol.specs.Refusals.{Refusal, first_cause, tagged_tx}
use Rattle.protocol.specs.Answers.{IsCause, cause_of}
use Rattle.protocol.specs.declared.refusal.Refusal.{Refusal as Answer}
use Rattle.frame_admission.specs.Gate.{gate_causes, IsAnswer}
use Rattle.frame_admission.specs.declared.examined.Finding.{Finding}
use Rattle.frame_admission.specs.declared.examined.Found.{Found}
use Rattle.frame_admission.specs.declared.examined.Found.TheVariants as founds
use Rattle.frame_admission.specs.declared.examined.LetIn.{LetIn}

-- It is so of these tags over these bytes.
abbrev pub IsTrueOf : Finding → List ℕ → List (List ℕ) → Type 0
IsTrueOf f bytes tags = f.is_right ≡ is_right f.count f.key f.me bytes tags

-- It is the id of the value that the body proposes.
abbrev pub IsNamed : Body → List ℕ → Type 0
IsNamed (OfProposal q) x = x ≡ id q.value
IsNamed (OfTx t) x = ⊥
IsNamed (OfVote v) x = ⊥
IsNamed (OfAsk a) x = ⊥
IsNamed (OfBundle b) x = ⊥

-- The frame was read, and what was found is so of what it spells.
pub record IsExamined (frame : List ℕ) (message : Result Message Fault) (finding : Option Finding) (id : Option (List ℕ)) : Type 0 where
  pub read : Gives (λ m. m) message (message_of frame)
  pub spelled : IfOk message (SpellsFrame frame)
  pub found : IfOk message (λ m. IfSome finding (λ f. IsTrueOf f (body_spelling m.body) m.tags))
  pub named : IfOk message (λ m. IfSome id (IsNamed m.body))

-- what is found of a message with this body
abbrev pub found_of : Setting → ℕ → Message → Body → Found
found_of c p m (OfTx t) = founds.Tx (tx_is_right c p (tagged_tx t m))
found_of c p m (OfProposal q) = founds.Proposal (id q.value)
found_of c p m (OfVote v) = founds.Nothing
found_of c p m (OfAsk a) = founds.Nothing
found_of c p m (OfBundle b) = founds.Nothing

-- It is what can be found of such a body: of a proposal the id of its value.
abbrev pub IsFoundOf : Body → Found → Type 0
IsFoundOf (OfTx t) (founds.Tx right) = Unit {0}
IsFoundOf (OfProposal q) (founds.Proposal x) = x ≡ id q.value
IsFoundOf (OfVote v) founds.Nothing = Unit {0}
IsFoundOf (OfAsk a) founds.Nothing = Unit {0}
IsFoundOf (OfBundle b) founds.Nothing = Unit {0}
IsFoundOf body found = ⊥

-- A message that was let in has a spelling, and what was found of it is of its kind.
pub record IsLawful (l : LetIn) : Type 0 where
  pub message : IsMessage l.message
  pub found : IsFoundOf l.message.body l.found

-- Nothing stands against the message in any state, and this is found of it; or the first cause against it is told.
abbrev pub IsChecked : Setting → ℕ → Message → Result Found Answer → Type 0
IsChecked c p m (Ok found) = (first_cause (gate_causes c p m.body m.tags) ≡ None) × (found ≡ found_of c p m m.body)
IsChecked c p m (Err e) = IsCause (first_cause (gate_causes c p m.body m.tags)) (cause_of e)

-- The message that is let in comes back with what is found of it; or the cause, unless memory ran out.
abbrev pub IsLetIn : Setting → ℕ → Result Message Refusal → Result LetIn Answer → Type 0
IsLetIn c p wanted (Ok l) = (wanted ≡ Ok l.message) × (l.found ≡ found_of c p l.message l.message.body)
IsLetIn c p wanted (Err e) = IsAnswer wanted (Err e)
