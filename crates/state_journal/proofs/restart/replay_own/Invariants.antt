use Rattle.std.proofs.Common.{◌≡◌, ℕ, ◌++◌, None, List, map, reverse, take}
use Rattle.protocol.specs.Messages.{Record}
use Rattle.protocol.specs.Refusals.{context}
use Rattle.protocol.specs.Restart.{restart}
use Rattle.protocol.specs.Rings.{IsRingOf}
use Rattle.protocol.specs.Tags.{Setting}
use Rattle.round_states.specs.Machine.{Agrees}
use Rattle.vote_journal.specs.Kept.{said}
use Rattle.state_journal.proofs.restart.replay_own.Given as goal

abbrev pub invariant-loop-message : goal.invariant-loop-message
invariant-loop-message l = (l.state.me ≡ l.fn.state.me) × (l.state.state.height ≡ l.fn.state.state.height) × (l.state.state.valid_value ≡ None)
    × ((before : List Record) → l.fn.state.state ≡ restart l.fn.state.me before → l.state.state ≡ restart l.fn.state.me (reverse (map said (take l.message-index l.own)) ++ before))
    × ((c : Setting) (p : ℕ) → IsRingOf c p l.ring → Agrees (context c p) l.fn.state → Agrees (context c p) l.state)
    × (l.state.room ≡ None)
