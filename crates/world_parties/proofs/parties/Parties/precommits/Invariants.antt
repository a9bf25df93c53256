use Rattle.std.proofs.Common.{◌≡◌, take, map}
use Rattle.world_parties.specs.Cast.{setting_of}
use Rattle.world_parties.specs.Sending.{precommit_by}
use Rattle.world_parties.proofs.parties.Parties.precommits.Given as goal

abbrev pub invariant-loop-signer : goal.invariant-loop-signer
invariant-loop-signer l = l.precommits.items ≡ map (precommit_by (setting_of l.self) l.height l.round l.id) (take l.signer-index l.signers)
