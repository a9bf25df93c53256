-- The lines of the list that a validator prints.
use Rattle.std.specs.Prelude.{ℕ, false, ◌/◌, ◌%◌, List, [], ◌∷◌, ◌++◌, codes, decimal, flat_map, ◌==◌, if◌then◌else◌}
use Rattle.std.specs.Fmt.{digits}
use Rattle.transactions.specs.declared.tx.Op.{Op}
use Rattle.transactions.specs.declared.tx.Op.TheVariants.{Bytes, Close}
use Rattle.transactions.specs.declared.tx.Item.{Item}
use Rattle.transactions.specs.declared.tx.Tx.{Tx}
use Rattle.printed_lines.specs.declared.item_line.ItemLine.{ItemLine}

-- `CLIENT`, or `CLIENT.SESSION` in a session after the client's first
abbrev pub sender_text : ℕ → ℕ → List ℕ
sender_text client session = if session == 0 then decimal client else decimal client ++ 46 ∷ decimal session

-- a byte as two digits in lower case, its high four bits first
abbrev pub hex_of : ℕ → List ℕ
hex_of byte = digits 16 false (byte / 16) ++ digits 16 false (byte % 16)

abbrev pub bytes_text : List ℕ → List ℕ
bytes_text [] = codes "-"
bytes_text (byte ∷ bytes) = flat_map hex_of (byte ∷ bytes)

abbrev pub op_text : Op → List ℕ
op_text Close = codes "close"
op_text (Bytes bytes) = bytes_text bytes

-- the place in the list, who sent the item, its number there, and what it does
abbrev pub line_text : ℕ → ℕ → ℕ → ℕ → Op → List ℕ
line_text position client session number op = decimal position ++ 32 ∷ sender_text client session ++ 32 ∷ decimal number ++ 32 ∷ op_text op

abbrev pub item_line : ItemLine → List ℕ
item_line line = line_text line.position line.client line.session line.number line.op.now

abbrev pub line_of_item : ℕ → Item → List ℕ
line_of_item position item = line_text position item.client item.session item.number item.op

abbrev pub line_of_tx : ℕ → Tx → List ℕ
line_of_tx position tx = line_text position tx.client tx.session tx.number tx.op
