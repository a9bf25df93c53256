use Rattle.std.proofs.Common.{◌≡◌, ◌∙◌, ap, rules}
use Rattle.protocol.specs.Records.{act_of}
use Rattle.round_states.specs.Machine.{Machine}
use Rattle.round_states.specs.Replaying.{with_own}
use Rattle.round_states.proofs.Restarting.{own_restarts}
use Rattle.round_states.proofs.state.State.replay_own.Goals as goal
use Rattle.round_states.proofs.state.State.replay_own.Goals.{in-Proposing+in_ok-keep_own_proposal-in-Proposing, in-Prevoting+in_ok-keep_own_vote-in-Prevoting, in-Precommitting+in_ok-keep_own_precommit-in-Precommitting}

pub returns-clause-restarts : goal.returns-clause-restarts
returns-clause-restarts c = λ before is.
    let said : c.stand_at.new.self ≡ with_own c.args.self.now c.args.message.now.round (act_of c.args.message.now.act) c.args.genuine = elim c.match-message.branch [
      | in-Proposing+in_ok-keep_own_proposal-in-Proposing w ↦ search rules
      | in-Prevoting+in_ok-keep_own_vote-in-Prevoting w ↦ search rules
      | in-Precommitting+in_ok-keep_own_precommit-in-Precommitting w ↦ search rules
    ] in
    ap (λ (m : Machine). m.state) said ∙ own_restarts c.args.self.now.me c.args.message.now.height c.args.message.now.round (act_of c.args.message.now.act) before c.args.self.now.state is c.requires.height
