use Rattle.std.proofs.Common.{◌<◌, length, arith, ◌∙◌}
use Rattle.std.proofs.lemmas.List.{length-map}
use Rattle.indexmap.proofs.CallerLemmas.{index_map_len-with_value_at}
use Rattle.edge_frames.specs.Links.{of_link}
use Rattle.edge_frames.specs.Early.{Early}
use Rattle.edge_frames.proofs.Links.{links_of, dropped_more}
use Rattle.std.proofs.Common.{ℕ, List}
use Rattle.edge_frames.proofs.early.EarlyFrames.forget_below.Goals as goal

pub loop-place-preserved : goal.loop-place-preserved
loop-place-preserved c =
    let place = c.loop-place.place in
    let within : place < length (links_of c.self.inside.links.entries) = omega (arith, length-map c.self.inside.links.entries (λ (e : ℕ × List Early). of_link e.0 e.1)) in
    record {
      gone = dropped_more c.args.height (links_of c.self.inside.links.entries) c.loop-place.self-inside.links.entries place c.index_mut.result.now c.forget_below.new.self c.loop-place.invariant.gone within c.index_mut.ensures.value c.forget_below.ensures;
      len = index_map_len-with_value_at c.loop-place.self-inside.links place c.forget_below.new.self ∙ c.loop-place.invariant.len;
    }
