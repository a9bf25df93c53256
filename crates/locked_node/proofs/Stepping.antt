-- What a step keeps.
use Rattle.std.proofs.Common.{◌≡◌, ℕ, ◌+◌, ◌≤◌, ◌-◌, ◌^◌, min, List, [], ◌∷◌, ◌++◌, drop, length, Result, sym, ap, ◌∙◌, subst, subst₂, arith, length-append}
use Rattle.std.proofs.Math.Seq.{drop-append_seam}
use Rattle.protocol.specs.Messages.{Bundle}
use Rattle.protocol.specs.declared.refusal.Refusal.{Refusal}
use Rattle.node_core.specs.Core.{Core, delivered_in}
use Rattle.locked_node.specs.History.{Heard, Call, calls_after, IsReplay}
use Rattle.locked_node.specs.Feeding.{AreFed}
use Rattle.locked_node.specs.declared.feeding.Fed.{Fed}
use Rattle.locked_node.specs.Calls.{Does}
use Rattle.subscriber_ring.specs.Ends.{Feed}
use Rattle.locked_node.specs.declared.feeding.Stop.TheVariants.{Unoffered}
use Rattle.locked_node.specs.Locked.{Locked, IsLocked, count_of}
use Rattle.locked_node.proofs.Growing.{GoesOn}
use Rattle.locked_node.proofs.Replaying.{moved_by}
use Rattle.locked_node.proofs.Feeds.{delivered_append, are_fed_more, are_fed_push, new_fed}

abbrev Most : ℕ
Most = 2 ^ 64 - 1

count_more : (d e : List Bundle) → GoesOn d e → min (min (length (delivered_in d)) Most + length (delivered_in (drop (length d) e))) Most ≡ min (length (delivered_in e)) Most
count_more d e g =
    let newer : drop (length d) e ≡ g.0 = ap (drop (length d)) g.1 ∙ drop-append_seam d g.0 in
    let all : length (delivered_in e) ≡ length (delivered_in d) + length (delivered_in g.0) = ap (λ l. length (delivered_in l)) g.1 ∙ ap length (delivered_append d g.0) ∙ length-append (delivered_in d) (delivered_in g.0) in
    let behind : length (delivered_in (drop (length d) e)) ≡ length (delivered_in g.0) = ap (λ l. length (delivered_in l)) newer in
    omega (arith, all, behind)

module _ (l : Locked) (event : Heard) (result : Result (Unit {0}) Refusal) (new : Core) (h : IsLocked l) (d : Does event result l.core new) where
  pub grown : GoesOn l.core.decisions new.decisions
  grown = (moved_by l.base l.core new l.calls event result h.replay d).grown

  pub longer : length l.core.decisions ≤ length new.decisions
  longer = omega (arith, ap length grown.1, length-append l.core.decisions grown.0)

  pub count_after : (count : ℕ) → count ≡ count_of l.core → min (count + length (delivered_in (drop (length l.core.decisions) new.decisions))) Most ≡ count_of new
  count_after count is = ap (λ k. min (k + length (delivered_in (drop (length l.core.decisions) new.decisions))) Most) is ∙ count_more l.core.decisions new.decisions grown

  delivered_more : length (delivered_in l.core.decisions) ≤ length (delivered_in new.decisions)
  delivered_more = omega (arith, ap (λ e. length (delivered_in e)) grown.1, ap length (delivered_append l.core.decisions grown.0), length-append (delivered_in l.core.decisions) (delivered_in grown.0))

  pub locked_after : (base : Core) (calls : List Call) → base ≡ l.base → calls ≡ calls_after event result new.fired l.calls
      → length l.core.decisions ≡ l.core.machine.state.height → length new.decisions ≡ new.machine.state.height
      → IsLocked (record { core = new; base = base; calls = calls; feeders = l.feeders; published = l.published })
  locked_after base calls is are before after = record {
    replay = subst₂ (λ b cs. IsReplay b cs new) (sym is) (sym are) (moved_by l.base l.core new l.calls event result h.replay d).replay;
    fed = subst (λ e. AreFed e l.feeders) (sym grown.1) (are_fed_more l.core.decisions grown.0 l.feeders h.fed);
    height = omega (arith, h.height, longer, before, after);
    delivered = omega (arith, h.delivered, delivered_more);
  }

-- a ring more
pub locked_with : (l : Locked) (feed : Feed) (from count : ℕ) (middle feeders : List Fed) → IsLocked l → feed.first ≡ from → feed.offered ≡ [] → count ≡ count_of l.core → from ≤ count
    → middle ≡ l.feeders → feeders ≡ middle ++ record { feeder = feed; place = record { height = 0; index = from }; stopped = Unoffered } ∷ [] → IsLocked (record { core = l.core; base = l.base; calls = l.calls; feeders = feeders; published = l.published })
locked_with l feed from count middle feeders h first none is within same e = record {
  replay = h.replay;
  fed = subst (AreFed l.core.decisions) (sym e) (are_fed_push l.core.decisions middle _ (subst (AreFed l.core.decisions) (sym same) h.fed) (new_fed l.core.decisions feed from first none (omega (arith, is, within))));
  height = h.height;
  delivered = h.delivered;
}
