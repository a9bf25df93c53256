use Rattle.messages.proofs.Streams.{pieces_hold, dry_holds, cut_holds, one_answer_holds, refused_holds}
use Rattle.messages.proofs.laws.pieces_law.Goals as goal

pub returns : goal.returns
returns c = record { kept = pieces_hold; dry = dry_holds; cut = cut_holds; answer = one_answer_holds; refused = refused_holds }
