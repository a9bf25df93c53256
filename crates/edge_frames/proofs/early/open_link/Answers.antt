use Rattle.std.proofs.Common.{nat_eq, ◌∙◌}
use Rattle.indexmap.proofs.CallerLemmas.{insert_entry-new}
use Rattle.edge_frames.proofs.early.open_link.Goals as goal

pub returns-clause-ok : goal.returns-clause-ok
returns-clause-ok c = record {
  frames = c.keep.new.self;
  is = c.in_ok-insert.ensures.entries ∙ insert_entry-new nat_eq c.args.links.now c.args.link c.keep.new.self c.requires;
  longest = rw c.new-frames.ensures at c.in_ok-keep.ensures.ok;
}
