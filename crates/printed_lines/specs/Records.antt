-- The lines of what a journal holds.
use Rattle.std.specs.Prelude.{ℕ, Bool, true, false, List, [], ◌∷◌, ◌++◌, length, codes, decimal, flat_map, Option, Some, None}
use Rattle.protocol.specs.Values.{Id, id}
use Rattle.protocol.specs.Messages.{Signed, Record as AnyRecord, Own, Decided, Act, Proposing, Prevoting, Precommitting}
use Rattle.protocol.specs.Records.{record_of}
use Rattle.messages.specs.declared.body.Step.{Step}
use Rattle.messages.specs.declared.body.Step.TheVariants.{Prevote, Precommit}
use Rattle.journal_reader.specs.declared.entry.Entry.{Entry}
use Rattle.journal_reader.specs.declared.entry.Entry.TheVariants as entries
use Rattle.printed_lines.specs.Items.{hex_of}
use Rattle.printed_lines.specs.declared.record_line.RecordLine.{RecordLine}
use Rattle.printed_lines.specs.declared.record_line.Said.{Said}
use Rattle.printed_lines.specs.declared.record_line.Said.TheVariants as said
use Rattle.printed_lines.specs.declared.end_line.EndLine.{EndLine}
use Rattle.printed_lines.specs.declared.end_line.End.{End}
use Rattle.printed_lines.specs.declared.end_line.End.TheVariants.{Torn, Bad}

-- what an entry tells: of a height and a round, a value by its digest and its number of items, and who precommitted
pub data Telling : Type 0 where
  Marks : Telling
  Proposes : ℕ → ℕ → Id → ℕ → Option ℕ → Telling
  Votes : ℕ → ℕ → Step → Option Id → Telling
  Locks : ℕ → ℕ → Id → ℕ → Telling
  Decides : ℕ → ℕ → Id → ℕ → List Signed → Telling

abbrev pub telling_of_act : ℕ → ℕ → Act → Telling
telling_of_act height round (Proposing valid value) = Proposes height round (id value) (length value.txs) valid
telling_of_act height round (Prevoting content) = Votes height round Prevote content
telling_of_act height round (Precommitting None) = Votes height round Precommit None
telling_of_act height round (Precommitting (Some value)) = Locks height round (id value) (length value.txs)

abbrev pub telling_of_record : AnyRecord → Telling
telling_of_record (Own height round act) = telling_of_act height round act
telling_of_record (Decided b) = Decides b.height b.round b.id (length b.value.txs) b.precommits

abbrev pub telling_of : Entry → Telling
telling_of entries.Mark = Marks
telling_of (entries.Record owner r) = telling_of_record (record_of r)

abbrev pub telling : Said → Telling
telling said.Mark = Marks
telling (said.Proposal place id items valid) = Proposes place.height place.round id items valid
telling (said.Vote place step content) = Votes place.height place.round step content
telling (said.Lock place id items) = Locks place.height place.round id items
telling (said.Decision place id items precommits) = Decides place.height place.round id items precommits.now

-- ---- as lines

abbrev pub hex_text : List ℕ → List ℕ
hex_text bytes = flat_map hex_of bytes

unfoldable pub place_text : ℕ → ℕ → List ℕ
place_text height round = decimal height ++ 32 ∷ decimal round

unfoldable pub content_text : Option Id → List ℕ
content_text None = codes "nil"
content_text (Some id) = hex_text id

unfoldable pub valid_text : Option ℕ → List ℕ
valid_text None = codes "-"
valid_text (Some round) = decimal round

unfoldable pub step_text : Step → List ℕ
step_text Prevote = codes "prevote"
step_text Precommit = codes "precommit"

-- a comma, and who comes next
abbrev pub next_sender : Signed → List ℕ
next_sender p = 44 ∷ decimal p.sender

-- who precommitted, with commas between them
unfoldable pub senders_text : List Signed → List ℕ
senders_text [] = []
senders_text (p ∷ ps) = decimal p.sender ++ flat_map next_sender ps

abbrev pub telling_text : Telling → List ℕ
telling_text Marks = codes "mark"
telling_text (Proposes height round id items valid) = place_text height round ++ codes " propose " ++ hex_text id ++ codes " items " ++ decimal items ++ codes " valid " ++ valid_text valid
telling_text (Votes height round step content) = place_text height round ++ 32 ∷ step_text step ++ 32 ∷ content_text content
telling_text (Locks height round id items) = place_text height round ++ codes " precommit " ++ hex_text id ++ codes " items " ++ decimal items
telling_text (Decides height round id items precommits) = place_text height round ++ codes " decide " ++ hex_text id ++ codes " items " ++ decimal items ++ codes " by " ++ senders_text precommits

-- where it stands, how many bytes it has, and what it tells
abbrev pub record_line : RecordLine → List ℕ
record_line line = decimal line.offset ++ 32 ∷ decimal line.bytes ++ 32 ∷ telling_text (telling line.said)

-- ---- as JSON

unfoldable pub head_json : ℕ → ℕ → List ℕ → List ℕ
head_json height round step = codes "\"height\":" ++ decimal height ++ codes ",\"round\":" ++ decimal round ++ codes ",\"step\":\"" ++ step ++ codes "\""

unfoldable pub value_json : Id → ℕ → List ℕ
value_json id items = codes "\"content\":\"" ++ hex_text id ++ codes "\",\"items\":" ++ decimal items

unfoldable pub content_json : Option Id → List ℕ
content_json None = codes "null"
content_json (Some id) = 34 ∷ hex_text id ++ codes "\""

unfoldable pub valid_json : Option ℕ → List ℕ
valid_json None = codes "null"
valid_json (Some round) = decimal round

abbrev pub json_of : Telling → List ℕ
json_of Marks = codes "\"step\":\"mark\""
json_of (Proposes height round id items valid) = head_json height round (codes "propose") ++ 44 ∷ (value_json id items ++ (codes ",\"valid_round\":" ++ valid_json valid))
json_of (Votes height round step content) = head_json height round (step_text step) ++ codes ",\"content\":" ++ content_json content
json_of (Locks height round id items) = head_json height round (codes "precommit") ++ 44 ∷ value_json id items
json_of (Decides height round id items precommits) = head_json height round (codes "decide") ++ 44 ∷ value_json id items ++ codes ",\"by\":[" ++ senders_text precommits ++ codes "]"

abbrev pub record_json : RecordLine → List ℕ
record_json line = codes "{\"offset\":" ++ decimal line.offset ++ codes ",\"bytes\":" ++ decimal line.bytes ++ codes "," ++ json_of (telling line.said) ++ codes "}"

-- ---- where a journal ends

abbrev pub torn_line : ℕ → ℕ → Bool → List ℕ
torn_line offset bytes false = decimal offset ++ 32 ∷ decimal bytes ++ codes " torn"
torn_line offset bytes true = codes "{\"offset\":" ++ decimal offset ++ codes ",\"bytes\":" ++ decimal bytes ++ codes ",\"step\":\"torn\"}"

abbrev pub bad_line : ℕ → Bool → List ℕ
bad_line offset false = decimal offset ++ codes " bad"
bad_line offset true = codes "{\"offset\":" ++ decimal offset ++ codes ",\"step\":\"bad\"}"

abbrev pub end_text : ℕ → End → Bool → List ℕ
end_text offset (Torn bytes) is_json = torn_line offset bytes is_json
end_text offset Bad is_json = bad_line offset is_json

abbrev pub end_line : EndLine → List ℕ
end_line line = end_text line.offset line.end line.is_json
