use Rattle.std.proofs.Common.{◌≡◌, ◌∙◌, Some, sym, ap, arith}
use Rattle.std.specs.Prelude.{slice_get}
use Rattle.std.proofs.lemmas.Option.{slice_get-get_or}
use Rattle.world_schedule.specs.Cores.{frame_in}
use Rattle.world_schedule.specs.Standings.{sayer}
use Rattle.world_schedule.specs.declared.numbering.Posted.{Posted}
use Rattle.world_schedule.proofs.InTurn.{at_same}
use Rattle.world_schedule.proofs.numbering.Messages.get.Goals as goal

pub returns-then-number-len-clause-some : goal.returns-then-number-len-clause-some
returns-then-number-len-clause-some c = λ s numbered b h at.
    let posted = c.args.self.now.posted.items in
    let found : Posted = c.index.result.now in
    let here : slice_get posted c.args.number ≡ Some found = slice_get-get_or posted c.args.number found (omega (arith, c.if-number-len.true, c.len.ensures, c.args.self.now.posted.ok)) ∙ ap Some (sym c.index.ensures) in
    (at_same (λ (f : Posted). f.frame.items) (frame_in s) posted numbered c.args.number found b h.frames here at, at_same (λ (f : Posted). f.sayer) sayer posted numbered c.args.number found b h.sayers here at)
