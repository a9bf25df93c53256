-- Which entries of a journal are printed.
use Rattle.std.specs.Prelude.{ℕ, Bool, true, false, Option, Some, None, ◌==◌}
use Rattle.protocol.specs.Messages.{Record as AnyRecord, Own, Decided}
use Rattle.protocol.specs.Records.{record_of}
use Rattle.journal_reader.specs.declared.entry.Entry.{Entry}
use Rattle.journal_reader.specs.declared.entry.Entry.TheVariants.{Record, Mark}

abbrev pub height_of_record : AnyRecord → ℕ
height_of_record (Own height round act) = height
height_of_record (Decided b) = b.height

abbrev pub height_of : Entry → Option ℕ
height_of Mark = None
height_of (Record owner r) = Some (height_of_record (record_of r))

-- all, or those of the height that is wanted
abbrev pub is_wanted : Option ℕ → Option ℕ → Bool
is_wanted None height = true
is_wanted (Some wanted) None = false
is_wanted (Some wanted) (Some height) = wanted == height
