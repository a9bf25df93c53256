-- The replay of a history is what the calls do of which it is a part.
use Rattle.std.proofs.Common.{◌≡◌, ℕ, Bool, true, false, cond, List, [], ◌∷◌, ◌++◌, refl, sym, ◌∙◌, ap, subst, ne_eqb}
use Rattle.std.specs.Prelude.{◌==◌}
use Rattle.protocol.specs.Tags.{Setting}
use Rattle.protocol.specs.State.{Node}
use Rattle.protocol.specs.History.{Input, after, replay}
use Rattle.node_core.specs.Core.{Core, Stands, setting_of}
use Rattle.locked_node.specs.History.{Replayed}
use Rattle.locked_node.specs.Subscribers.{SubscribersLaw}
use Rattle.protocol.specs.Rings.{IsRingOf}
use Rattle.world_schedule.specs.Seeing.{ActsAlike}
use Rattle.world_schedule.specs.Calls.{Call, Sent, Began, Handed, Asked, Resent, Reopened, moved, lived, node_after}
use Rattle.world_schedule.specs.Cores.{IsOwn}
use Rattle.world_schedule.proofs.Seeing.{seeing_law}
use Rattle.world_schedule.proofs.Cores.{own_law, lived_own}
use Rattle.world_schedule.proofs.Runs.{lived_append}
use Rattle.world_schedule.proofs.Headline.{headline_law}
use Rattle.shared_headline.specs.Laws.{handed_by, handed_in, IsNoOpening, StaysOpen, LivesLaw, SharedLaw}

replay_append : (c : Setting) (p : ℕ) (n : Node) (late early : List (Input × ℕ)) → replay c p n (late ++ early) ≡ replay c p (replay c p n early) late
replay_append c p n [] early = refl
replay_append c p n (e ∷ late) early = ap (λ (m : Node). after c p m e.0 e.1) (replay_append c p n late early)

replay_alike : (p : ℕ) (c d : Setting) → ActsAlike p c d → (n : Node) (es : List (Input × ℕ)) → replay c p n es ≡ replay d p n es
replay_alike p c d a n [] = refl
replay_alike p c d a n (e ∷ es) = ap (λ (m : Node). after c p m e.0 e.1) (replay_alike p c d a n es) ∙ a.called.calls (replay d p n es) e.0 e.1

-- one call, where it isn't an opening
one_call : (c : Setting) (p : ℕ) (n : Node) (call : Call) → IsNoOpening p call → replay c p n (handed_by p call) ≡ moved c p n call
one_call c p n (Sent client op) o = refl
one_call c p n (Began client) o = refl
one_call c p n (Handed q input times) o = at_test (p == q)
  where
    at_test : (b : Bool) → replay c p n (cond b ((input, times) ∷ []) []) ≡ cond b (after c p n input times) n
    at_test true = refl
    at_test false = refl
one_call c p n (Asked q) o = refl
one_call c p n (Resent q) o = refl
one_call c p n (Reopened q cut) o = rw (ne_eqb p q o) refl

all_calls : (c : Setting) (p : ℕ) (n : Node) (calls : List Call) → StaysOpen p calls → replay c p n (handed_in p calls) ≡ lived c p n calls
all_calls c p n [] o = refl
all_calls c p n (call ∷ later) o =
    replay_append c p n (handed_in p later) (handed_by p call)
    ∙ ap (λ (m : Node). replay c p m (handed_in p later)) (one_call c p n call o.0)
    ∙ all_calls c p (moved c p n call) later o.1

-- the node after the calls is the replay in the core's own setting
same_node : (c : Setting) (p : ℕ) (before since : List Call) (base : Core) → IsOwn c p base → StaysOpen p since
    → replay (setting_of base) base.machine.me (node_after c p before) (handed_in p since) ≡ node_after c p (before ++ since)
same_node c p before since base own stays =
    ap (λ me. replay (setting_of base) me (node_after c p before) (handed_in p since)) own.me
    ∙ replay_alike p (setting_of base) c (seeing_law p (setting_of base) c (own_law c p base own)) (node_after c p before) (handed_in p since)
    ∙ all_calls c p (node_after c p before) since stays
    ∙ sym (lived_append c p _ before since)

pub lives_law : LivesLaw
lives_law c p before l locked opened =
    let r : Replayed (node_after c p before) l.base l.calls l.core = locked.replay.replayed (node_after c p before) opened.stands in (
      r.events,
      record {
        told = r.told;
        is_after = λ since stays same. record {
          own = record {
            powers = locked.replay.same.powers ∙ opened.own.powers;
            me = locked.replay.same.me ∙ opened.own.me;
            ring = subst (λ ring. IsRingOf c p ring) (sym locked.replay.same.ring) opened.own.ring;
          };
          stands = subst (λ (n : Node). Stands n l.core) (ap (λ es. replay (setting_of l.base) l.base.machine.me (node_after c p before) es) (sym same) ∙ same_node c p before since l.base opened.own stays) r.stands;
          decided = lived_own c p _ (before ++ since) tt;
        };
      },
    )

pub shared_law : SubscribersLaw → SharedLaw
shared_law subscribers c h early late fair p q okp okq one other is_one is_other of_one of_other =
    let k = headline_law c h early late fair p q okp okq one.core other.core of_one of_other in
    record { cores = k; taken = λ here there t u. (subscribers one other is_one is_other here there t u).1 k.decided }
