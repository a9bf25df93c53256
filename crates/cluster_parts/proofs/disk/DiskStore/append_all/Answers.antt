use Rattle.std.proofs.Common.{refl}
use Rattle.cluster_parts.proofs.Leaving.{append_leaves}
use Rattle.cluster_parts.proofs.disk.DiskStore.append_all.Goals as goal

pub returns-in-Ok-clause-stop : goal.returns-in-Ok-clause-stop
returns-in-Ok-clause-stop c = append_leaves c.args.self.now (record c.args.self.now { bytes = c.extend_from_slice.new.self }) c.args.bytes.now c.in-Ok.ensures.items refl
