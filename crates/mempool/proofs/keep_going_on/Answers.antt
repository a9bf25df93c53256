use Rattle.std.proofs.Common.{rules, ◌≡◌, filter, take, sym, ◌∙◌, ap}
use Rattle.std.proofs.lemmas.Fn.{filter_same}
use Rattle.protocol.specs.Queues.{is_above, going_on}
use Rattle.mempool.proofs.keep_going_on.Goals as goal

pub returns : goal.returns
returns c =
    let filtered : c.retain.new.self.items ≡ filter (is_above c.args.standing) c.args.waiting.now.items = filter_same _ (is_above c.args.standing) _ (λ t b f call. search rules) _ _ c.retain.ensures.filtered in
    c.truncate.ensures.items ∙ ap (take c.count_going_on-kept.result) (sym c.as_slice.ensures.value) ∙ c.count_going_on-kept.ensures.items ∙ ap (going_on c.args.standing) (c.as_slice.ensures.value ∙ filtered)
