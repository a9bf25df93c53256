use Rattle.std.proofs.Common.{subst}
use Rattle.transactions.specs.Fields.{Gives}
use Rattle.messages.proofs.FrameSpelling.{frame_only, frame_ok}
use Rattle.messages.proofs.framing.spell.Goals as goal

pub returns-clause-ok : goal.returns-clause-ok
returns-clause-ok c = frame_ok c.args.message.now c.bytes_of_frame.result c.bytes_of_frame.ensures.ok c.bytes_of_frame.ensures.exact

pub returns-clause-only : goal.returns-clause-only
returns-clause-only c = λ bytes h. subst (λ r. Gives (λ v. v.items) c.bytes_of_frame.result r) (frame_only c.args.message.now bytes h) c.bytes_of_frame.ensures.exact
