-- The headline on what cores tell.
use Rattle.std.proofs.Common.{◌≡◌, ℕ, ◌<◌, ◌⊎◌, inl, inr, true, false, List, [], ◌∷◌, ◌++◌, Option, None, is_some, refl, sym, ap, ◌∙◌, subst, subst₂, arith, eq-eqb, ne_eqb, append-nil}
use Rattle.std.proofs.lemmas.Grind.{flat_map-append}
use Rattle.protocol.specs.Values.{items, of, fresh, in_turn}
use Rattle.protocol.specs.Tags.{Setting}
use Rattle.protocol.specs.Messages.{Bundle, Record, Own, Decided}
use Rattle.protocol.specs.State.{Node}
use Rattle.protocol.specs.Restart.{opened, delivered_of}
use Rattle.protocol.specs.World.{Cut, beginning}
use Rattle.protocol.specs.History.{Input, after}
use Rattle.protocol.specs.Effects.{bundles_in}
use Rattle.protocol.specs.Premises.{Begins}
use Rattle.protocol.specs.Laws.{Comparable}
use Rattle.protocol.proofs.Local.{lock_law}
use Rattle.node_core.specs.Core.{Core, Stands, delivered_in}
use Rattle.world_schedule.specs.Calls.{Call, Sent, Began, Handed, Asked, Resent, Reopened, moved, unopened, node_after, run_of, sent}
use Rattle.world_schedule.specs.Runs.{delivered_after}
use Rattle.world_schedule.specs.Cores.{AreOwn, StandsIn}
use Rattle.world_schedule.specs.Headline.{IsAfter, found_after, IsElsewhere, StepLaw, CountLaw, delivered_at, HeadlineLaw, GrowingLaw}
use Rattle.world_schedule.proofs.Runs.{run_law, lived_append, past_law, delivered_law}
use Rattle.world_schedule.proofs.Cores.{core_law, kept_law, found_own, lived_own}

-- ---- steps

-- the node after one more call
pub one_later : (c : Setting) (p : ℕ) (calls : List Call) (call : Call) → node_after c p (calls ++ call ∷ []) ≡ moved c p (node_after c p calls) call
one_later c p calls call = lived_append c p (unopened p) calls (call ∷ [])

own_later : (c : Setting) (p : ℕ) (calls : List Call) (input : Input) (times : ℕ) → node_after c p (calls ++ Handed p input times ∷ []) ≡ after c p (node_after c p calls) input times
own_later c p calls input times = one_later c p calls (Handed p input times) ∙ rw (eq-eqb p p refl) refl

pub same_node : (c : Setting) (p : ℕ) (n : Node) (call : Call) → IsElsewhere p call → moved c p n call ≡ n
same_node c p n (Sent client op) e = refl
same_node c p n (Began client) e = refl
same_node c p n (Handed q input times) e = rw (ne_eqb p q e) refl
same_node c p n (Asked q) e = refl
same_node c p n (Resent q) e = refl
same_node c p n (Reopened q cut) e = rw (ne_eqb p q e) refl

pub step_law : StepLaw
step_law c p = record {
  first = λ core o s. (kept_law c p).first core o s;
  reopened = λ calls cut core o s. record {
    own = o;
    stands = subst (λ n. Stands n core) (sym (opened_later calls cut)) s;
    decided = subst (λ (n : Node). AreOwn p n.journal) (sym (opened_later calls cut)) (found_own c p (node_after c p calls) cut (lived_own c p (unopened p) calls tt));
  };
  called = λ calls input times old new s k. subst (λ n. StandsIn c p n new) (sym (own_later c p calls input times)) (core_law c p (node_after c p calls) old s input times new k).stands;
  elsewhere = λ calls call core e s. subst (λ n. StandsIn c p n core) (sym (one_later c p calls call ∙ same_node c p (node_after c p calls) call e)) s;
  beside = λ calls old new b s. (kept_law c p).beside (node_after c p calls) old new s b;
}
  where
    opened_later : (calls : List Call) (cut : Option Cut) → node_after c p (calls ++ Reopened p cut ∷ []) ≡ opened p (found_after c p calls cut)
    opened_later calls cut = one_later c p calls (Reopened p cut) ∙ rw (eq-eqb p p refl) refl

-- a rule is named where one fired, and none where all is quiet
not_quiet : {X : Type 0} (o : Option X) → is_some o ≡ true → o ≡ None → ⊥
not_quiet o s n = let f : is_some o ≡ false = ap is_some n in let g : true ≡ false = sym s ∙ f in cc

pub count_law : CountLaw
count_law c p n times others named quiet named_too quiet_too = elim (ℕ_cases times others) [
  | inl less ↦ absurd (not_quiet _ (named_too times less) quiet)
  | inr (inl more) ↦ absurd (not_quiet _ (named others more) quiet_too)
  | inr (inr same) ↦ same
]
  where
    ℕ_cases : (a b : ℕ) → (a < b) ⊎ ((b < a) ⊎ (a ≡ b))
    ℕ_cases a b = grind arith

-- ---- what cores tell

told_delivered : (c : Setting) (p : ℕ) (calls : List Call) (core : Core) → IsAfter c p calls core → delivered_after c p calls ≡ delivered_at core
told_delivered c p calls core s = ap (λ t. t.delivered) (sym s.stands.state)

-- the items of a journal's decisions
joined : (j : List Record) → delivered_of j ≡ delivered_in (bundles_in j)
joined [] = refl
joined (Own h r act ∷ j) = joined j
joined (Decided b ∷ j) = ap (λ d. d ++ items b.value) (joined j) ∙ ap (λ l. delivered_in (bundles_in j) ++ l) (sym (append-nil (items b.value))) ∙ sym (flat_map-append (λ (x : Bundle). items x.value) (bundles_in j) (b ∷ []))

-- a node's delivered list is its journal's
lasting : (c : Setting) (p : ℕ) (calls : List Call) → delivered_after c p calls ≡ delivered_of (node_after c p calls).journal
lasting c p calls = subst (λ (n : Node). n.state.delivered ≡ delivered_of n.journal) ((run_law c (beginning c) calls).nodes p) (lock_law c (run_of c calls) p).0

told_decided : (c : Setting) (p : ℕ) (calls : List Call) (core : Core) → IsAfter c p calls core → delivered_after c p calls ≡ delivered_in core.decisions
told_decided c p calls core s = lasting c p calls ∙ joined (node_after c p calls).journal ∙ ap delivered_in (sym s.stands.decisions)

pub headline_law : HeadlineLaw
headline_law c h early late fair p q okp okq one other of_p of_q =
    let k = delivered_law c h early late fair p q okp okq in
    let at_q = told_delivered c q (early ++ late) other of_q in record {
      begins = subst₂ Comparable (told_delivered c p early one of_p) at_q k.begins;
      decided = subst₂ Comparable (told_decided c p early one of_p) (told_decided c q (early ++ late) other of_q) k.begins;
      in_order = λ client. subst (λ d. in_turn fresh (of client d) ≡ true) at_q (k.in_order client);
      begins_sent = λ client honest. subst (λ d. Begins (of client d) (sent client (early ++ late))) at_q (k.begins_sent client honest);
    }

pub growing_law : GrowingLaw
growing_law c early late p one other of_one of_other =
    let k = past_law c early late p in (
      subst₂ Begins (told_delivered c p early one of_one) (told_delivered c p (early ++ late) other of_other) k,
      subst₂ Begins (told_decided c p early one of_one) (told_decided c p (early ++ late) other of_other) k,
    )
