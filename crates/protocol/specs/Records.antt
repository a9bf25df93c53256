-- The records that the code holds, as those of the definitions.
use Rattle.protocol.specs.Messages.{Act, Proposing, Prevoting, Precommitting, Record, Own, Decided}
use Rattle.protocol.specs.declared.records.Act.{Act as HeldAct}
use Rattle.protocol.specs.declared.records.Act.TheVariants as acts
use Rattle.protocol.specs.declared.records.Record.{Record as Held}
use Rattle.protocol.specs.declared.records.Record.TheVariants as records

abbrev pub act_of : HeldAct → Act
act_of (acts.Proposing valid_round value) = Proposing valid_round value
act_of (acts.Prevoting content) = Prevoting content
act_of (acts.Precommitting choice) = Precommitting choice

abbrev pub record_of : Held → Record
record_of (records.Own m) = Own m.height m.round (act_of m.act)
record_of (records.Decided b) = Decided b
