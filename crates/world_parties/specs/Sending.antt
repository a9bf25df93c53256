-- What liars and clients send.
use Rattle.std.specs.Prelude.{ℕ, [], map, Option, option_map, Some, None}
use Rattle.transactions.specs.Grammar.{tx_body_spelling, IsValue}
use Rattle.messages.specs.Framing.{IsMessage}
use Rattle.protocol.specs.Values.{Tx, Value, Id, id}
use Rattle.protocol.specs.Tags.{Setting, Client}
use Rattle.protocol.specs.Messages.{Proposal, Vote, Bundle, Signed, Message, OfTx, OfProposal, OfVote, OfBundle, precommit, tagged}
use Rattle.world_parties.specs.Keys.{tags_for}
use Rattle.world_parties.specs.declared.lines.Tagged.{Tagged}
use Rattle.world_parties.specs.declared.lines.Proposing.{Proposing}
use Rattle.world_parties.specs.declared.lines.Voting.{Voting}
use Rattle.world_parties.specs.declared.lines.Bundling.{Bundling}

abbrev pub proposed : Proposing → Proposal
proposed line = record { height = line.height; round = line.round; sender = line.sender; valid_round = line.valid_round; value = line.value }

abbrev pub voted : Voting → Vote
voted line = record { step = line.step; height = line.height; round = line.round; sender = line.sender; content = option_map id line.value }

-- validator i's precommit for an id, with right tags
abbrev pub precommit_by : Setting → ℕ → ℕ → Id → ℕ → Signed
precommit_by c height round x i = record { sender = i; tags = (tagged c (OfVote (precommit height round i (Some x)))).tags }

abbrev pub bundled : Setting → Bundling → Bundle
bundled c line = record { height = line.height; sender = line.sender; round = line.round; id = id line.named; value = line.value; precommits = map (precommit_by c line.height line.round (id line.named)) line.signers }

-- the transaction of an item, without tags
abbrev pub bare_tx : Tagged → Tx
bare_tx line = record { client = line.item.client; session = line.item.session; number = line.item.number; op = line.item.op; tags = [] }

-- a client's message: with the tags that are to be right, and zeros
abbrev pub submitted : ℕ → Tagged → Message
submitted validators line = record { body = OfTx (bare_tx line); tags = tags_for line.right (Client line.item.client) validators (tx_body_spelling (bare_tx line)) }

-- ---- what has an encoding: the message, and each value whose id it has

abbrev pub FitsTx : ℕ → Tagged → Type 0
FitsTx validators line = IsMessage (submitted validators line)

abbrev pub FitsProposal : Setting → Proposing → Type 0
FitsProposal c line = IsMessage (tagged c (OfProposal (proposed line)))

-- nil, or a value that has an id
abbrev pub HasId : Option Value → Type 0
HasId None = Unit {0}
HasId (Some value) = IsValue value

abbrev pub FitsVote : Setting → Voting → Type 0
FitsVote c line = HasId line.value × IsMessage (tagged c (OfVote (voted line)))

abbrev pub FitsBundle : Setting → Bundling → Type 0
FitsBundle c line = IsValue line.named × IsMessage (tagged c (OfBundle (bundled c line)))
