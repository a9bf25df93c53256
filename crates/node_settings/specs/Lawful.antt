-- What holds of settings that are read.
use Rattle.std.specs.Prelude.{◌≡◌, ◌<◌, ◌≤◌, ◌^◌, length}
use Rattle.transactions.specs.Grammar.{IsOp}
use Rattle.node_settings.specs.declared.running.Place.{Place}
use Rattle.node_settings.specs.declared.running.Times.{Times}
use Rattle.node_settings.specs.declared.invocation.RunSettings.{RunSettings}
use Rattle.node_settings.specs.declared.invocation.Sending.{Sending}
use Rattle.node_settings.specs.declared.invocation.Sending.TheVariants.{One, Lines}
use Rattle.node_settings.specs.declared.invocation.SendSettings.{SendSettings}
use Rattle.node_settings.specs.declared.sending.Sender.{Sender}
use Rattle.node_settings.specs.declared.sending.Batch.{Batch}
use Rattle.node_settings.specs.declared.invocation.KeysSettings.{KeysSettings}
use Rattle.node_settings.specs.declared.invocation.Invocation.{Invocation}
use Rattle.node_settings.specs.declared.invocation.Invocation.TheVariants.{Run, Send, Keys, Journal, Page}

-- of a validator: it is one of those that have powers, each of which has an address
pub record IsLawfulPlace (p : Place) : Type 0 where
  pub member : p.me < length p.powers
  pub addressed : length p.peers.items ≡ length p.powers

-- of its times
pub record IsLawfulTimes (t : Times) : Type 0 where
  pub start : t.start ≤ 86400000
  pub delta : t.delta ≤ 86400000
  pub idle : t.idle ≤ t.start
  pub rest : t.rest ≤ 86400000

-- of all its settings
pub record IsLawfulRun (s : RunSettings) : Type 0 where
  pub member : s.me < length s.powers
  pub addressed : length s.peers.items ≡ length s.powers
  pub start : s.start ≤ 86400000
  pub delta : s.delta ≤ 86400000
  pub idle : s.idle ≤ s.start
  pub rest : s.rest ≤ 86400000
  pub later : 1 ≤ s.redial
  pub redial : s.redial ≤ 86400000

-- one transaction has a spelling
abbrev pub IsLawfulSending : Sending → Type 0
IsLawfulSending (One op) = IsOp op
IsLawfulSending (Lines file) = Unit {0}

-- of who sends
pub record IsLawfulSender (s : Sender) : Type 0 where
  pub client : s.client ≤ 1023
  pub several : 2 ≤ s.validators
  pub few : s.validators ≤ 128

-- of what is sent
pub record IsLawfulBatch (b : Batch) : Type 0 where
  pub first : 1 ≤ b.number
  pub last : b.number ≤ 2 ^ 48
  pub session : b.session < 2 ^ 32
  pub sending : IsLawfulSending b.sending

-- of a client and what it sends
pub record IsLawfulSend (s : SendSettings) : Type 0 where
  pub client : s.client ≤ 1023
  pub several : 2 ≤ s.validators
  pub few : s.validators ≤ 128
  pub first : 1 ≤ s.number
  pub last : s.number ≤ 2 ^ 48
  pub session : s.session < 2 ^ 32
  pub sending : IsLawfulSending s.sending

-- of the parties whose key files are made: as many as a cluster may have
pub record IsLawfulKeys (s : KeysSettings) : Type 0 where
  pub several : 2 ≤ s.validators
  pub few : s.validators ≤ 128
  pub clients : s.clients ≤ 1024

abbrev pub IsLawful : Invocation → Type 0
IsLawful (Run s) = IsLawfulRun s
IsLawful (Send s) = IsLawfulSend s
IsLawful (Keys s) = IsLawfulKeys s
IsLawful (Journal s) = Unit {0}
IsLawful (Page p) = Unit {0}
