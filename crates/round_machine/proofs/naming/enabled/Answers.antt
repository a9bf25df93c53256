use Rattle.round_machine.proofs.Holding.{named_holds, named_internal, named_quiet}
use Rattle.round_machine.proofs.naming.enabled.Goals as goal

pub returns-clause-internal : goal.returns-clause-internal
returns-clause-internal c = named_internal c.args.state.now.powers c.args.state.now.state c.first_named.result c.first_named.ensures.rule

pub returns-clause-holds : goal.returns-clause-holds
returns-clause-holds c = named_holds c.args.state.now.powers c.args.state.now.state c.first_named.result c.first_named.ensures.rule

pub returns-clause-quiet : goal.returns-clause-quiet
returns-clause-quiet c = named_quiet c.args.state.now.powers c.args.state.now.state c.first_named.result c.first_named.ensures.rule
