use Rattle.std.proofs.Common.{arith}
use Rattle.vote_journal.proofs.RecordFormats.{other_kind}
use Rattle.vote_journal.proofs.reading.read_kind.Goals as goal

pub returns-in_default : goal.returns-in_default
returns-in_default c = λ r h. other_kind c.args.me c.args.kind c.args.bytes.now r (λ low high. omega arith) h
