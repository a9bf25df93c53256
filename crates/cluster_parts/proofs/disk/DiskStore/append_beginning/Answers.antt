use Rattle.std.proofs.Common.{◌++◌, List, ℕ, ap, ◌∙◌}
use Rattle.cluster_parts.specs.declared.disk.DiskStore.{DiskStore}
use Rattle.cluster_parts.proofs.Leaving.{beginning_leaves}
use Rattle.cluster_parts.proofs.disk.DiskStore.append_beginning.Goals as goal

pub returns-in-Ok-clause-stop : goal.returns-in-Ok-clause-stop
returns-in-Ok-clause-stop c =
    let stood : List ℕ = c.args.self.now.bytes.items in
    let bytes-are = ap (λ (d : DiskStore). d.bytes.items) c.fail.ensures.same in
    let floor-is = ap (λ (d : DiskStore). d.floor) c.fail.ensures.same in
    beginning_leaves c.args.self.now c.fail.new.self c.args.bytes.now c.args.keep (bytes-are ∙ c.in-Ok.ensures.items ∙ ap (λ (x : List ℕ). stood ++ x) c.beginning_of.ensures) floor-is
