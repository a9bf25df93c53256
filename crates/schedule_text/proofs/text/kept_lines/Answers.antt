use Rattle.std.proofs.Common.{rules, tests}
use Rattle.std.specs.Prelude.{◌==◌, not}
use Rattle.std.proofs.lemmas.Iterator.Consumers.{YieldsList-from_filter, map_from_collect}
use Rattle.std.proofs.lemmas.Iterator.Splits.{YieldsList-from_slice_split}
use Rattle.schedule_text.specs.Texts.{is_reported}
use Rattle.schedule_text.proofs.text.kept_lines.Goals as goal

pub returns : goal.returns
returns c = rw (← c.without_last_feed.ensures) (map_from_collect _ c.collect.ensures.ran
    (YieldsList-from_filter _ (λ line. not (is_reported line))
    (YieldsList-from_slice_split _ (λ byte. byte == 10) {f = c.split.result.pred} c.without_last_feed.result.now (cc) (cc) (cc) (λ x b q k. search (rules, tests)))
    c.filter.ensures.closure (λ x b q k. search (rules, tests))))
