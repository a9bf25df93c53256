use Rattle.std.proofs.Common.{◌≡◌, ℕ, List, Some, None, eqb, sym, ap, ◌∙◌, subst, length}
use Rattle.std.specs.Map.{lookup}
use Rattle.std.specs.declared.hash.FoldHasher.{FoldHasher}
use Rattle.std.specs.declared.hash.BuildHasherDefault.{BuildHasherDefault}
use Rattle.indexmap.specs.IndexMap.{IndexMap}
use Rattle.edge_frames.specs.Early.{Early, early}
use Rattle.edge_frames.specs.Links.{opening}
use Rattle.edge_frames.proofs.Links.{Entries, IsAnswer, links_of, on_ok, on_err, answer_known, answer_unknown, found_kept, found_place, found_others, found_same, opened_kept, opened_place, opened_others}
use Rattle.edge_frames.proofs.early.EarlyFrames.keep.Goals as goal

abbrev Map : Type 0
Map = IndexMap ℕ (List Early) (BuildHasherDefault FoldHasher)

pub returns-in-Some : goal.returns-in-Some
returns-in-Some c =
    let k = c.args.link.0 in
    let e = early c.args.height c.args.frame in
    let es = c.self.inside.links.entries in
    let new = (c.get_mut.follows.lender c.keep.new.self).entries in
    let old = c.in-Some.frames.now in
    let v = c.keep.new.self in
    let look : lookup (eqb k) es ≡ Some old = sym c.in-Some.ensures.value in
    let is = (c.get_mut.follows.holds c.keep.new.self).0 in
    rw (← c.self.view_is) (record {
      answer = answer_known k e es old c.keep.result look c.keep.ensures.answer;
      kept = on_ok c.keep.result (found_kept k e es new old v look is) c.keep.ensures.ok;
      place = on_ok c.keep.result (λ _. found_place k e es new old v look is) c.keep.ensures.ok;
      others = found_others k e es new old v look is;
      err = on_err c.keep.result (found_same k e es new old v look is) c.keep.ensures.err;
    })

pub returns-in-None : goal.returns-in-None
returns-in-None c =
    let k = c.args.link.0 in
    let e = early c.args.height c.args.frame in
    let es = c.self.inside.links.entries in
    let at = c.get_mut.follows.lender-at-none.entries in
    let new = c.open_link.new.links.entries in
    let same : at ≡ es = ap (λ (m : Map). m.entries) c.get_mut.follows.holds-at-none in
    let look : lookup (eqb k) es ≡ None = sym c.in-None.ensures.value in
    let answer : IsAnswer (opening e (length es)) c.open_link.result = subst (λ (ds : Entries). IsAnswer (opening e (length ds)) c.open_link.result) same c.open_link.ensures.answer in
    rw (← c.self.view_is) (record {
      answer = answer_unknown k e es c.open_link.result look answer;
      kept = on_ok c.open_link.result (opened_kept k e es at new same look) c.open_link.ensures.ok;
      place = on_ok c.open_link.result (opened_place k e es at new same look) c.open_link.ensures.ok;
      others = opened_others k e es at new same look c.open_link.result c.open_link.ensures.ok c.open_link.ensures.err;
      err = on_err c.open_link.result (λ unchanged. ap links_of (unchanged ∙ same)) c.open_link.ensures.err;
    })
