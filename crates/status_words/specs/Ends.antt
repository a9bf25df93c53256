-- What callers see of new words.
use Rattle.atomic_table.specs.Seated.{TableId}
use Rattle.status_words.specs.Seen.{Seen}
use Rattle.status_words.specs.declared.words.Opened.{Opened}

-- what names these words, and what stands published
abbrev pub opened_table : Opened → TableId
opened_table o = o.cells.shared.table_id

abbrev pub opened_words : Opened → Seen
opened_words o = o.pass.me.0.own
