use Rattle.std.proofs.Common.{rules, sym, subst}
use Rattle.locked_node.specs.Feeding.{IsFed}
use Rattle.locked_node.proofs.Feeds.{fed_at, are_fed_set, filled_at, counted}
use Rattle.locked_node.proofs.feeding.fill_at.Goals as goal

pub feed-requires-clause-fed : goal.feed-requires-clause-fed
feed-requires-clause-fed g c = subst (IsFed c.args.decisions.now) (sym c.index_mut-fed.ensures.value) (fed_at _ _ _ _ c.requires.place c.requires.fed)

pub returns-then-matches-clause-fed : goal.returns-then-matches-clause-fed
returns-then-matches-clause-fed g c = are_fed_set _ _ _ _ c.feed.ensures.fed c.requires.fed

pub returns-then-matches-clause-filled : goal.returns-then-matches-clause-filled
returns-then-matches-clause-filled g c = filled_at _ _ _ c.index_mut-fed.result.now c.feed.new.fed _ c.requires.place c.index_mut-fed.ensures.value c.feed.ensures.offered (search rules)

pub returns-clause-fed : goal.returns-clause-fed
returns-clause-fed g c = are_fed_set _ _ _ _ c.feed.ensures.fed c.requires.fed

pub returns-clause-filled : goal.returns-clause-filled
returns-clause-filled g c = filled_at _ _ _ c.index_mut-fed.result.now c.feed.new.fed _ c.requires.place c.index_mut-fed.ensures.value c.feed.ensures.offered (counted _ c.index_mut-fed.result.now c.feed.new.fed c.next-before.result c.next.result c.next-before.ensures c.next.ensures c.feed.ensures.offered, (search rules))
