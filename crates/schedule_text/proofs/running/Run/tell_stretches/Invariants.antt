use Rattle.std.proofs.Common.{◌≡◌, []}
use Rattle.schedule_text.proofs.running.Run.tell_stretches.Given as goal

abbrev pub invariant-loop-stretch : goal.invariant-loop-stretch
invariant-loop-stretch g l = l.stretches ≡ [] → l.self ≡ l.initial.self
