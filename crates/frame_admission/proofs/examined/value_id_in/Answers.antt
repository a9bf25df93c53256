use Rattle.std.proofs.Common.{◌∙◌}
use Rattle.frame_admission.proofs.Heads.{long_enough, named_by_rest}
use Rattle.frame_admission.proofs.examined.value_id_in.Goals as goal

pub split_at-requires : goal.split_at-requires
split_at-requires c = long_enough c.args._proposal.now c.args.bytes.now c.requires

pub returns : goal.returns
returns c = c.digest.ensures ∙ named_by_rest c.args._proposal.now c.args.bytes.now c.split_at.result.1.now c.requires c.split_at.ensures.back
