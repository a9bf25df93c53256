use Rattle.std.proofs.Common.{◌∙◌, rules, arith, length, ap}
use Rattle.std.proofs.lemmas.List.Elements.{All-rest}
use Rattle.std.proofs.lemmas.List.Sums.{sum_by-cons}
use Rattle.link_queue.specs.Line.{bytes_of}
use Rattle.link_queue.proofs.Order.{handed}
use Rattle.link_queue.proofs.waiting.Waiting.take.Goals as goal

pub invariant_of-self-2 : goal.invariant_of-self-2
invariant_of-self-2 g c =
    let i = c.self.invariant in
    let items = c.in-Some.ensures.items in
    let bytes = ap bytes_of items ∙ sum_by-cons length c.in-Some.frame c.pop_front.new.self.items in
    (search rules, handed _ _ _ _ _ _ _ items (search rules) i.1, All-rest g.S.Sent.sent _ _ _ items i.2, omega (arith, i.3, bytes))
