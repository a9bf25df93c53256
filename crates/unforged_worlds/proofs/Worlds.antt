-- In a world to which nothing comes but what is its sender's, each node holds, and what is released is, nothing else.
use Rattle.std.proofs.Common.{◌≡◌, ℕ, true, inl, inr, List, [], ◌∷◌, ◌++◌, refl, sym, subst, Option, Some, None, eqb-true, option_to_list}
use Rattle.std.specs.Prelude.{◌==◌}
use Rattle.std.proofs.lemmas.Bool.{cond_both}
use Rattle.messages.specs.Framing.{message_of}
use Rattle.protocol.specs.Tags.{Setting}
use Rattle.protocol.specs.Messages.{◌∈◌, Vote, Body, OfVote, OfAsk, Message, Record, Own, Decided, Act, Proposing, Prevoting, Precommitting, own_body}
use Rattle.protocol.specs.State.{Node, Rule, DecideByBundle}
use Rattle.protocol.specs.Rules.{holds, saved, released_by}
use Rattle.protocol.specs.Restart.{opened, own_since}
use Rattle.protocol.specs.Queues.{pick}
use Rattle.protocol.specs.Refusals.{context}
use Rattle.protocol.specs.Arrivals.{firing, taken_in}
use Rattle.protocol.specs.World.{World, Cut, InArrival, InFiring, Event, Sends, Comes, Fires, Asks, Resends, Restarts, happens, run, beginning, with_node, moved, cut_record}
use Rattle.protocol.specs.Premises.{Honesty, IsSaved}
use Rattle.protocol.specs.Laws.{Grows}
use Rattle.protocol.proofs.Membership.{in_append, in_left}
use Rattle.protocol.proofs.Arrivals.{IsTaken, come_cases, try_cases}
use Rattle.protocol.proofs.Growth.{Longer, same_long, fired_longer}
use Rattle.protocol.proofs.Global.{at_itself}
use Rattle.protocol.proofs.Local.{IsTied, AllTied, happens_tied, beginning_tied, fired_tied, kept_tied, with_tied}
use Rattle.unforged_worlds.proofs.Held.{NodeHeld, RuleHeld, node_more, rule_more}
use Rattle.unforged_worlds.proofs.Fired.{OwnCast, fired_held}
use Rattle.unforged_worlds.proofs.Taken.{IsOwnOf, since_own, own_held, opened_held, taken_held, replies_decided, CutHeld, VotesCast, cut_held, other_held}
use Rattle.unforged_worlds.proofs.Genuine.{Later, moved_later, happens_later, IsSentIn, IsCastIn, sent_later, cast_later, IsTheirs, theirs_later, cut_later, own_theirs, bundle_theirs, CutTheirs, EventTheirs, AllTheirs}

module _ (c : Setting) (h : Honesty) where
  abbrev pub HoldsTheirs : World → ℕ → Node → Type 0
  HoldsTheirs w p n = NodeHeld (IsSentIn c h w) (IsCastIn c h w) p n

  pub record IsClean (w : World) : Type 0 where
    pub tied : AllTied w.nodes
    pub nodes : (p : ℕ) → HoldsTheirs w p (w.nodes p)
    pub released : (b : Body) → b ∈ w.released → IsTheirs c h w b

  node_later : (w v : World) → Later w v → (p : ℕ) (n : Node) → HoldsTheirs w p n → HoldsTheirs v p n
  node_later w v l p n k = node_more (IsSentIn c h w) (IsSentIn c h v) (IsCastIn c h w) (IsCastIn c h v) (sent_later c h w v l) (cast_later c h w v l) p n k

  rule_later : (w v : World) → Later w v → (k : Rule) → RuleHeld (IsSentIn c h w) (IsCastIn c h w) k → RuleHeld (IsSentIn c h v) (IsCastIn c h v) k
  rule_later w v l k u = rule_more (IsSentIn c h w) (IsSentIn c h v) (IsCastIn c h w) (IsCastIn c h v) (sent_later c h w v l) (cast_later c h w v l) k u

  -- ---- a world in which one node moved

  moved_clean : (w : World) → IsClean w → (p : ℕ) (n : Node) (bodies : List Body) → Longer (w.nodes p).journal n.journal → AllTied (with_node w p n bodies).nodes → HoldsTheirs (with_node w p n bodies) p n
      → ((b : Body) → b ∈ bodies → IsTheirs c h (with_node w p n bodies) b) → IsClean (with_node w p n bodies)
  moved_clean w g p n bodies long tied k each =
      let v = with_node w p n bodies in
      let l : Later w v = moved_later w p n bodies long in
      record {
        tied = tied;
        nodes = λ q. cond_both (q == p) n (w.nodes q) (HoldsTheirs v q) (λ e. subst (λ i. HoldsTheirs v i n) (sym (eqb-true q p e)) k) (λ _. node_later w v l q (w.nodes q) (g.nodes q));
        released = λ b i. elim (in_append b bodies w.released i) [ inl j ↦ each b j | inr j ↦ theirs_later c h w v l b (g.released b j) ];
      }

  -- a node that stays as it is, and says these bodies
  says_clean : (w : World) → IsClean w → (p : ℕ) (bodies : List Body) → ((b : Body) → b ∈ bodies → IsTheirs c h (with_node w p (w.nodes p) bodies) b) → IsClean (with_node w p (w.nodes p) bodies)
  says_clean w g p bodies each =
      let v = with_node w p (w.nodes p) bodies in
      moved_clean w g p (w.nodes p) bodies (same_long (w.nodes p).journal) (with_tied w.nodes p (w.nodes p) g.tied (g.tied p))
      (node_later w v (moved_later w p (w.nodes p) bodies (same_long (w.nodes p).journal)) p (w.nodes p) (g.nodes p)) each

  -- ---- a firing

  released_own : (p : ℕ) (o : Option Record) (j : List Record) (b : Body) → b ∈ option_to_list (released_by p o) → IsOwnOf p (option_to_list o ++ j) b
  released_own p None j b i = absurd i
  released_own p (Some (Decided d)) j b i = absurd i
  released_own p (Some (Own height round act)) j b (inl e) = record { height = height; round = round; act = act; there = inl refl; is = e }
  released_own p (Some (Own height round act)) j b (inr none) = absurd none

  fires_clean : (w : World) → IsClean w → (p : ℕ) (k : Rule) → holds (context c p) (w.nodes p).state k ≡ true → RuleHeld (IsSentIn c h w) (IsCastIn c h w) k → IsClean (moved w p (firing c p (w.nodes p) k))
  fires_clean w g p k e u =
      let n = w.nodes p in
      let o = saved (context c p) (pick n.queues) n.state k in
      let out = option_to_list (released_by p o) in
      let v = moved w p (firing c p n k) in
      let l : Later w v = moved_later w p (firing c p n k).node out (fired_longer c p n k) in
      let own : OwnCast (IsSentIn c h v) (IsCastIn c h v) p o = λ vote same few true_to. inl (in_left (OfVote vote) out w.released (subst (λ (b : Option Body). OfVote vote ∈ option_to_list b) (sym same) (inl refl))) in
      let held : HoldsTheirs v p (firing c p n k).node = fired_held (IsSentIn c h v) (IsCastIn c h v) c p n (node_later w v l p n (g.nodes p)) k e (rule_later w v l k u) own in
      moved_clean w g p (firing c p n k).node out (fired_longer c p n k) (with_tied w.nodes p (firing c p n k).node g.tied (fired_tied c p n k (g.tied p) e)) held
      (λ b i. let is = released_own p o n.journal b i in
      own_theirs c h v p (option_to_list o ++ n.journal) b is (in_left b out w.released i) (own_held (IsSentIn c h v) (IsCastIn c h v) p (option_to_list o ++ n.journal) held.journal b is))

  -- ---- a restart

  -- the vote of an own message is the validator's
  own_voter : (p : ℕ) (r : Record) (v : Vote) → own_body p r ≡ Some (OfVote v) → v.sender ≡ p
  own_voter p (Decided d) v e = absurd (let f : None ≡ Some (OfVote v) = e in cc)
  own_voter p (Own height round act) v e = by_act act e
    where
      by_act : (a : Act) → own_body p (Own height round a) ≡ Some (OfVote v) → v.sender ≡ p
      by_act (Proposing r u) f = absurd (cc)
      by_act (Prevoting x) f = cc
      by_act (Precommitting u) f = cc

  opens_clean : (w : World) → IsClean w → (p : ℕ) (cut : Option Cut) → CutTheirs c h w cut → IsClean (happens c w (Restarts p cut))
  opens_clean w g p cut k =
      let n = w.nodes p in
      let j = cut_record c p n cut ++ n.journal in
      let v = happens c w (Restarts p cut) in
      let l : Later w v = happens_later c w (Restarts p cut) in
      let tied : AllTied v.nodes = happens_tied c w (Restarts p cut) g.tied in
      let itself : v.nodes p ≡ opened p j = at_itself c h w.nodes p (opened p j) in
      let grows : Grows j = (subst (λ (m : Node). IsTied m) itself (tied p)).grows in
      let votes : VotesCast (IsSentIn c h v) (IsCastIn c h v) p (cut_record c p n cut) = λ r vote i e few true_to. inr (subst (λ q. IsSaved q (OfVote vote) (v.nodes q).journal) (sym (own_voter p r vote e)) (r, subst (λ (m : Node). r ∈ m.journal) (sym itself) (in_left r (cut_record c p n cut) n.journal i), e)) in
      moved_clean w g p (opened p j) [] (record { more = cut_record c p n cut; is = refl }) tied
      (opened_held (IsSentIn c h v) (IsCastIn c h v) c p j grows (cut_held (IsSentIn c h v) (IsCastIn c h v) c p n (node_later w v l p n (g.nodes p)) cut (held_cut v cut (cut_then v l)) votes))
      (λ b i. absurd i)
    where
      held_cut : (v : World) (o : Option Cut) → CutTheirs c h v o → CutHeld (IsSentIn c h v) (IsCastIn c h v) o
      held_cut v None t = tt
      held_cut v (Some (InArrival bytes)) t = λ m e. (t m e).holds
      held_cut v (Some (InFiring rule)) t = tt

      cut_then : (v : World) → Later w v → CutTheirs c h v cut
      cut_then v l = cut_later c h w v l cut k

  -- ---- an arrival

  takes_clean : (w : World) → IsClean w → (p : ℕ) (m : Message) (b : Body) → IsTaken c p (w.nodes p).state m b → IsTheirs c h w b → IsClean (moved w p (taken_in (w.nodes p) m b))
  takes_clean w g p m b t k =
      let n = w.nodes p in
      let v = moved w p (taken_in n m b) in
      let l : Later w v = moved_later w p (taken_in n m b).node (taken_in n m b).out (same_long n.journal) in
      let held : HoldsTheirs v p (taken_in n m b).node = taken_held (IsSentIn c h v) (IsCastIn c h v) c p n (node_later w v l p n (g.nodes p)) m b t (theirs_later c h w v l b k).holds in
      moved_clean w g p (taken_in n m b).node (taken_in n m b).out (same_long n.journal) (with_tied w.nodes p (taken_in n m b).node g.tied (kept_tied n.state n.journal m b (g.tied p))) held
      (λ a i. let d = replies_decided (IsSentIn c h v) (IsCastIn c h v) n b a i in bundle_theirs c h v d.0 a d.2 (in_left a (taken_in n m b).out w.released i) (held.journal (Decided d.0) d.1))

  -- ---- each event

  pub happens_clean : (w : World) → IsClean w → (e : Event) → EventTheirs c h w e → IsClean (happens c w e)
  happens_clean w g (Sends client op) k =
      let v = happens c w (Sends client op) in
      let l : Later w v = happens_later c w (Sends client op) in
      record { tied = g.tied; nodes = λ p. node_later w v l p (w.nodes p) (g.nodes p); released = λ b i. theirs_later c h w v l b (g.released b i) }
  happens_clean w g (Comes p bytes) k = come_cases c p (w.nodes p) (message_of bytes) (λ o. IsClean (moved w p o)) (says_clean w g p [] (λ b i. absurd i))
      (λ m b em eb t. takes_clean w g p m b t (subst (IsTheirs c h w) eb (k m em)))
      (λ m b em eb e. fires_clean w g p (DecideByBundle b) e (subst (IsTheirs c h w) eb (k m em)).holds)
  happens_clean w g (Fires p rule) k = try_cases c p (w.nodes p) rule (λ o. IsClean (moved w p o)) (says_clean w g p [] (λ b i. absurd i)) (λ nb e. fires_clean w g p rule e (other_held (IsSentIn c h w) (IsCastIn c h w) rule nb))
  happens_clean w g (Asks p) k = says_clean w g p (OfAsk (record { height = (w.nodes p).state.height; sender = p }) ∷ []) (λ b i. elim i [
    | inl e ↦ subst (IsTheirs c h _) (sym e) (record { whose = λ few true_to. inl (inl refl); holds = tt })
    | inr none ↦ absurd none
  ])
  happens_clean w g (Resends p) k =
      let n = w.nodes p in
      let v = happens c w (Resends p) in
      let l : Later w v = happens_later c w (Resends p) in
      let held = node_later w v l p n (g.nodes p) in
      says_clean w g p (own_since p n.journal)
      (λ b i. let is = since_own p n.journal b i in own_theirs c h v p n.journal b is (in_left b (own_since p n.journal) w.released i) (own_held (IsSentIn c h v) (IsCastIn c h v) p n.journal held.journal b is))
  happens_clean w g (Restarts p cut) k = opens_clean w g p cut k

  pub run_clean : (w : World) → IsClean w → (es : List Event) → AllTheirs c h w es → IsClean (run c w es)
  run_clean w g [] k = g
  run_clean w g (e ∷ es) k = run_clean (happens c w e) (happens_clean w g e k.0) es k.1

  pub beginning_clean : IsClean (beginning c)
  beginning_clean = record {
    tied = beginning_tied c;
    nodes = λ p. opened_held (IsSentIn c h (beginning c)) (IsCastIn c h (beginning c)) c p [] tt (λ r i. absurd i);
    released = λ b i. absurd i;
  }
