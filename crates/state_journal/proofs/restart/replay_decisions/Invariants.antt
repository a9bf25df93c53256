use Rattle.std.proofs.Common.{◌≡◌, None, map, flat_map, reverse, take}
use Rattle.protocol.specs.Messages.{Decided, Bundle}
use Rattle.protocol.specs.Restart.{restart}
use Rattle.protocol.specs.State.{Context, fresh}
use Rattle.protocol.specs.Values.{items}
use Rattle.round_states.specs.Machine.{Agrees}
use Rattle.state_journal.proofs.restart.replay_decisions.Given as goal

abbrev pub invariant-loop-bundle : goal.invariant-loop-bundle
invariant-loop-bundle l = (l.state.me ≡ l.fn.state.me)
    × (l.state.state ≡ fresh (flat_map (λ (b : Bundle). items b.value) (take l.bundle-index l.decisions)) l.bundle-index)
    × (l.state.state ≡ restart l.fn.state.me (reverse (map Decided (take l.bundle-index l.decisions))))
    × ((g : Context) → Agrees g l.fn.state → Agrees g l.state)
    × (l.state.room ≡ None)
