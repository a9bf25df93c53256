use Rattle.std.proofs.Common.{◌≡◌, take, true}
use Rattle.std.specs.List.{list_all}
use Rattle.schedule_text.specs.Lines.{is_no_correct}
use Rattle.schedule_text.proofs.lines.Forms.check_signers.Given as goal

abbrev pub invariant-loop-signer : goal.invariant-loop-signer
invariant-loop-signer l = list_all (is_no_correct l.self.parties.now) (take l.signer-index l.signers) ≡ true
