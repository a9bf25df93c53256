use Rattle.std.proofs.Common.{inr}
use Rattle.world_parties.specs.Cast.{setting_of}
use Rattle.world_parties.proofs.Encodings.{less, few_signers, handed_on}
use Rattle.world_parties.proofs.parties.Parties.frame_of_bundle.Goals as goal

pub returns-in_err-bundle-clause-err : goal.returns-in_err-bundle-clause-err
returns-in_err-bundle-clause-err c =
    handed_on _ c.from_residual-in_err-bundle.result _ c.from_residual-in_err-bundle.ensures.1 (inr (less _ _ c.in_err-bundle.field-0.0 (few_signers (setting_of c.args.self.now) c.args.line.now) c.in_err-bundle.ensures.err))
