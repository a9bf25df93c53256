use Rattle.std.proofs.Common.{◌≡◌, List, length, ◌∙◌, ap, arith}
use Rattle.protocol.specs.Values.{Tx}
use Rattle.proposal_validity.specs.Standing.{Standing, Standings, standing}
use Rattle.proposal_validity.specs.Course.{after, items_of}
use Rattle.proposal_validity.proofs.Follows.{frontier_after}
use Rattle.proposal_validity.proofs.Growing.{written_back}
use Rattle.proposal_validity.proofs.Frontier.extend.Goals as goal

pub returns-clause-ok : goal.returns-clause-ok
returns-clause-ok c =
    let len : c.grow.new.standings.len ≡ length c.pass.new.standings = omega (arith, c.pass.auto.standings, c.deref_mut.ensures.len) in
    frontier_after c.args.self.now _ c.args.value.now c.requires.valid (λ client.
    ap (λ (f : Standings). standing f client) (written_back c.grow.new.standings.items c.pass.new.standings c.grow.new.standings.len len)
    ∙ c.pass.ensures.each client
    ∙ ap (λ (f : Standings). after client (items_of c.as_slice-txs.result.now) (standing f client)) c.deref_mut.ensures.value
    ∙ ap (λ (s : Standing). after client (items_of c.as_slice-txs.result.now) s) (c.in_ok-grow.ensures.same client)
    ∙ ap (λ (f : Standings). after client (items_of c.as_slice-txs.result.now) (standing f client)) c.self.view_is
    ∙ ap (λ (txs : List Tx). after client (items_of txs) (standing c.args.self.now client)) c.as_slice-txs.ensures)
