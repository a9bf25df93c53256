use Rattle.std.proofs.Common.{List, sym, ◌∙◌, ap}
use Rattle.transactions.specs.declared.tx.Tx.{Tx}
use Rattle.proposal_validity.specs.Standing.{standing}
use Rattle.proposal_validity.specs.Course.{all_fit, items_of}
use Rattle.proposal_validity.proofs.Follows.{valid_all}
use Rattle.proposal_validity.proofs.Frontier.valid.Goals as goal

pub returns : goal.returns
returns c d a = c.all_fit.ensures ∙ ap (λ (txs : List Tx). all_fit (standing c.args.self.now) (items_of txs)) c.as_slice.ensures ∙ sym (valid_all c.args.self.now c.args.value.now c.requires d a)
