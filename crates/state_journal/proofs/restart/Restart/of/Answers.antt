use Rattle.std.proofs.Common.{◌≡◌, ap, sym, ◌∙◌, map, reverse}
use Rattle.protocol.specs.Messages.{Decided}
use Rattle.protocol.specs.State.{State}
use Rattle.protocol.specs.declared.records.OwnMessage.{OwnMessage}
use Rattle.round_states.proofs.Restarting.{restart_without_valid_value}
use Rattle.state_journal.proofs.Replayed.{all_of_members, own_fit, decisions_fit}
use Rattle.state_journal.proofs.restart.Restart.of.Goals as goal

pub replay_decisions-requires-clause-fits : goal.replay_decisions-requires-clause-fits
replay_decisions-requires-clause-fits c = decisions_fit c.args.state.me c.args.decisions.now c.requires.replayable.spelled

pub replay_own-requires-clause-alone : goal.replay_own-requires-clause-alone
replay_own-requires-clause-alone c = ap (λ (s : State). s.valid_value) c.in_ok-replay_decisions.ensures.restarts ∙ restart_without_valid_value c.args.state.me (reverse (map Decided c.args.decisions.now))

pub replay_own-requires-clause-heights : goal.replay_own-requires-clause-heights
replay_own-requires-clause-heights c =
    all_of_members (λ (m : OwnMessage). m.height ≡ c.replay_decisions.new.state.state.height) c.args.own.now (λ m i. c.requires.replayable.present m i ∙ sym c.in_ok-replay_decisions.ensures.height)

pub replay_own-requires-clause-fits : goal.replay_own-requires-clause-fits
replay_own-requires-clause-fits c = own_fit c.args.state.me c.args.own.now c.requires.replayable.own_spelled

pub returns-clause-state : goal.returns-clause-state
returns-clause-state c =
    let me = c.in_ok-replay_decisions.ensures.me in
    rw me at (c.in_ok-replay_own.ensures.restarts (reverse (map Decided c.args.decisions.now)) (rw me c.in_ok-replay_decisions.ensures.restarts))

pub returns-clause-said : goal.returns-clause-said
returns-clause-said c = rw (← c.me.ensures) c.in_ok-said.ensures
