use Rattle.std.proofs.Common.{◌≡◌, ◌<◌, ◌+◌, ℕ, List, ◌∷◌, ◌++◌, length, take, drop, get_or, refl, sym, ap, ◌∙◌, arith}
use Rattle.std.proofs.lemmas.List.{length-map, length-take, take_all}
use Rattle.std.proofs.lemmas.List.Elements.{All-more, All-same}
use Rattle.edge_frames.specs.Early.{Early}
use Rattle.edge_frames.specs.Links.{OfLink, of_link, IsWithout}
use Rattle.edge_frames.proofs.Links.{links_of, nobody, parted, written, same_at, same_key}
use Rattle.edge_frames.proofs.early.EarlyFrames.take.Goals as goal

pub returns-in-Some : goal.returns-in-Some
returns-in-Some c =
    let place = c.loop-place.place in
    let ls = links_of c.self.inside.links.entries in
    let lt : place < length ls = omega (arith, length-map c.self.inside.links.entries (λ (e : ℕ × List Early). of_link e.0 e.1)) in
    let q = get_or ls place nobody in
    let w = written (take place ls) q (drop (place + 1) ls) c.loop-place.self-inside.links.entries place c.index_mut.result.now c.take.new.self (ap links_of c.loop-place.invariant.same ∙ parted ls place lt) (omega (arith, length-take place ls)) c.index_mut.ensures.value in
    let link : c.in_ok-link.field-0.0.now ≡ q.link = same_key _ _ (c.in_ok-link.ensures.entry ∙ w.key) in
    let own : q ≡ of_link c.in_ok-link.field-0.0.now c.index_mut.result.now = rw (link, ← w.had) refl in
    record {
      before = take place ls;
      behind = drop (place + 1) ls;
      own = c.index_mut.result.now;
      left = c.take.new.self;
      was = sym c.self.view_is ∙ parted ls place lt ∙ ap (λ (l : OfLink). take place ls ++ l ∷ drop (place + 1) ls) own;
      is = rw link w.after;
      first = c.in-Some.ensures;
      none = c.loop-place.invariant.none;
    }

pub loop-place-preserved : goal.loop-place-preserved
loop-place-preserved c =
    let place = c.loop-place.place in
    let ls = links_of c.self.inside.links.entries in
    let lt : place < length ls = omega (arith, length-map c.self.inside.links.entries (λ (e : ℕ × List Early). of_link e.0 e.1)) in
    let q = get_or ls place nobody in
    let w = written (take place ls) q (drop (place + 1) ls) c.loop-place.self-inside.links.entries place c.index_mut.result.now c.take.new.self (ap links_of c.loop-place.invariant.same ∙ parted ls place lt) (omega (arith, length-take place ls)) c.index_mut.ensures.value in
    record {
      same = rw c.in_default.ensures.1 (same_at c.loop-place.self-inside.links.entries place c.index_mut.result.now c.index_mut.ensures.value ∙ c.loop-place.invariant.same);
      none = All-more (IsWithout c.args.height) ls place nobody lt c.loop-place.invariant.none (rw w.had c.in_default.ensures.0);
    }

pub returns : goal.returns
returns c =
    let ls = links_of c.self.inside.links.entries in
    let all : take c.loop-place.place ls ≡ ls = take_all c.loop-place.place ls (omega (arith, length-map c.self.inside.links.entries (λ (e : ℕ × List Early). of_link e.0 e.1))) in
    rw (← c.self.view_is) (All-same (IsWithout c.args.height) ls (take c.loop-place.place ls) (sym all) c.loop-place.invariant.none, ap links_of c.loop-place.invariant.same)
