use Rattle.std.proofs.Common.{flat_map, take}
use Rattle.std.specs.Fmt.{HasWritten, IsPlainFormatter}
use Rattle.node_metrics.specs.Text.{refusal_text}
use Rattle.node_metrics.proofs.text.RefusalsDisplay.fmt.Given as goal

abbrev pub invariant-loop-refused : goal.invariant-loop-refused
invariant-loop-refused g l =
    IsPlainFormatter l.initial.f → HasWritten g.W.Write.write_str_gives l.initial.f (flat_map refusal_text (take l.refused-index l.refused-items)) l.f
