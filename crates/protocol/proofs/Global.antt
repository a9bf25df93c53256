-- What holds of the world after every event: correct validators' journals are backed by one another, and what they keep and release is in journals.
use Rattle.std.proofs.Common.{◌≡◌, ℕ, inl, inr, Bool, true, false, cond, ◌&&◌, List, [], ◌∷◌, ◌++◌, refl, sym, subst, Option, Some, None, eqb-true, eq-eqb, option_to_list}
use Rattle.std.specs.Prelude.{◌==◌}
use Rattle.std.proofs.lemmas.Bool.{and_parts, cond_both}
use Rattle.messages.specs.Grammar.{body_spelling}
use Rattle.messages.specs.Framing.{message_of}
use Rattle.protocol.specs.Tags.{Setting, Validator, right}
use Rattle.protocol.specs.Messages.{◌∈◌, Precommit, precommit, Record, Own, Decided, Vote, Ask, Signed, Bundle, Body, OfTx, OfProposal, OfVote, OfAsk, OfBundle, Message, sender_of}
use Rattle.protocol.specs.State.{Rule, Start, PrevoteFresh, PrevoteAgain, AwaitPrevotes, Lock, PrecommitNil, AwaitPrecommits, Decide, DecideByBundle, SkipRound, TimedOut, Node}
use Rattle.protocol.specs.Rules.{holds, saved, changed}
use Rattle.protocol.specs.Restart.{restart, opened, own_since, votes_in}
use Rattle.protocol.specs.Queues.{pick}
use Rattle.protocol.specs.Refusals.{context, bundle_senders}
use Rattle.protocol.specs.Arrivals.{taken_in, firing, bundles_of, kept_message, nothing, replies}
use Rattle.protocol.specs.World.{World, Event, Sends, Comes, Fires, Asks, Resends, Restarts, happens, run, beginning, with_node, cut_record, moved, Cut}
use Rattle.protocol.specs.Premises.{Honesty, IsCorrect, AtCorrect, at_validator, EventUnforged, Genuine, FromSender, Unforged, held, held_votes, held_txs}
use Rattle.protocol.specs.Laws.{Grows}
use Rattle.protocol.proofs.Membership.{in_append, in_left, map_in, any_found}
use Rattle.protocol.proofs.Arrivals.{come_cases, try_cases, cut_cases, comes_genuine, RuleUnforged, others_unforged}
use Rattle.protocol.proofs.Locking.{Mark, mark, Reason, Justified, Lawful, StandsAfter}
use Rattle.protocol.proofs.Marks.{marks_of, marks_grow}
use Rattle.protocol.proofs.Local.{AllTied, happens_tied, beginning_tied, fired_tied, with_tied, kept_tied}
use Rattle.protocol.proofs.Backing.{Marks, history, Extends, IsBacked, backed_more, IsCovered, IsBodyCovered, covered_more, KeepsWell, keeps_none, keeps_more, keeps_joined, marks_in}
use Rattle.protocol.proofs.Reasons.{HasReason, IsBundleCovered, IsRuleCovered, has_reason, saved_backed}
use Rattle.protocol.proofs.Covered.{saved_mark, since_covered, since_keeps, fired_keeps, released_covered}

module _ (c : Setting) (h : Honesty) where
  pub record Sound (w : World) : Type 0 where
    pub tied : AllTied w.nodes
    pub backed : (p : ℕ) → IsCorrect c h p → IsBacked c h (history c h (marks_in c h w.nodes)) (w.nodes p).journal
    pub kept : (p : ℕ) → IsCorrect c h p → KeepsWell c h (marks_in c h w.nodes) (w.nodes p).state.height (w.nodes p).state.votes
    pub released : (b : Body) → b ∈ w.released → IsBodyCovered c h (marks_in c h w.nodes) b

  -- ---- a world in which one node moved

  -- marks that a moved node's journal has, and the others' had
  abbrev pub IsNew : Marks c h → ℕ → List Record → Marks c h → Type 0
  IsNew old p j new = Extends c h old new × ((m : Mark) → m ∈ marks_of j → m ∈ new p)

  pub record Moves (w : World) (p : ℕ) (n : Node) (bodies : List Body) : Type 0 where
    pub grown : (m : Mark) → m ∈ marks_of (w.nodes p).journal → m ∈ marks_of n.journal
    pub backed : IsBacked c h (history c h (marks_in c h w.nodes)) n.journal
    pub kept : (new : Marks c h) → IsNew (marks_in c h w.nodes) p n.journal new → KeepsWell c h new n.state.height n.state.votes
    pub released : (new : Marks c h) → IsNew (marks_in c h w.nodes) p n.journal new → (b : Body) → b ∈ bodies → IsBodyCovered c h new b

  abbrev pub with_at : (ℕ → Node) → ℕ → Node → ℕ → Node
  with_at nodes p n q = cond (q == p) n (nodes q)

  extends_at : (nodes : ℕ → Node) (p : ℕ) (n : Node) → ((m : Mark) → m ∈ marks_of (nodes p).journal → m ∈ marks_of n.journal) → Extends c h (marks_in c h nodes) (marks_in c h (with_at nodes p n))
  extends_at nodes p n grown i m k = cond_both (i == p) n (nodes i) (λ (o : Node). m ∈ marks_of o.journal)
      (λ e. grown m (subst (λ q. m ∈ marks_of (nodes q).journal) (eqb-true i p e) k)) (λ _. k)

  pub at_itself : (nodes : ℕ → Node) (p : ℕ) (n : Node) → with_at nodes p n p ≡ n
  at_itself nodes p n = rw (eq-eqb p p refl) refl

  moved_sound : (w : World) (p : ℕ) (n : Node) (bodies : List Body) → Sound w → AllTied (with_at w.nodes p n) → Moves w p n bodies → Sound (with_node w p n bodies)
  moved_sound w p n bodies s tied mv =
      let after : Marks c h = marks_in c h (with_at w.nodes p n) in
      let more = extends_at w.nodes p n mv.grown in
      let new : IsNew (marks_in c h w.nodes) p n.journal after = (more, λ m k. subst (λ (o : Node). m ∈ marks_of o.journal) (sym (at_itself w.nodes p n)) k) in
      record {
        tied = tied;
        backed = λ q ok. cond_both (q == p) n (w.nodes q) (λ (o : Node). IsBacked c h (history c h after) o.journal)
            (λ e. backed_more c h _ _ more n.journal mv.backed) (λ _. backed_more c h _ _ more (w.nodes q).journal (s.backed q ok));
        kept = λ q ok. cond_both (q == p) n (w.nodes q) (λ (o : Node). KeepsWell c h after o.state.height o.state.votes)
            (λ e. mv.kept after new) (λ _. keeps_more c h _ _ more _ _ (s.kept q ok));
        released = λ b k. elim (in_append b bodies w.released k) [ inl l ↦ mv.released after new b l | inr l ↦ (λ v i. covered_more c h _ _ more v (s.released b l v i)) ];
      }

  -- ---- what unforged bytes bring

  from_covered : (w : World) → Sound w → (v : Vote) → FromSender c h w (OfVote v) (Validator v.sender) → IsCovered c h (marks_in c h w.nodes) v
  from_covered w s v f ok = elim (f ok.0 ok.1) [
    | inl k ↦ s.released (OfVote v) k v (inl refl) ok
    | inr k ↦ saved_mark v.sender k.0 (w.nodes v.sender).journal v k.1 k.2
  ]

  abbrev bundle_vote : Bundle → ℕ → Vote
  bundle_vote b i = precommit b.height b.round i (Some b.id)

  bundle_covered : (w : World) → Sound w → (p : ℕ) (b : Bundle) → Genuine c h w p (held (OfBundle b)) → IsBundleCovered c h (marks_in c h w.nodes) p b
  unfolding bundle_senders
  bundle_covered w s p b g i ok e =
      let f = any_found (λ (sg : Signed). (sg.sender == i) && right c p (Validator i) (body_spelling (OfVote (bundle_vote b i))) sg.tags) b.precommits e in
      let k = and_parts _ _ f.2 in
      let ei : f.0.sender ≡ i = eqb-true _ _ k.0 in
      let there : record { body = OfVote (bundle_vote b f.0.sender); tags = f.0.tags } ∈ held_votes b = map_in _ f.0 b.precommits f.1 in
      let rt : right c p (Validator f.0.sender) (body_spelling (OfVote (bundle_vote b f.0.sender))) f.0.tags ≡ true = subst (λ n. right c p (Validator n) (body_spelling (OfVote (bundle_vote b n))) f.0.tags ≡ true) (sym ei) k.1 in
      let cov : IsCovered c h (marks_in c h w.nodes) (bundle_vote b f.0.sender) = from_covered w s (bundle_vote b f.0.sender) (g _ (in_left _ (held_votes b) (held_txs b.value) there) rt) in
      subst (λ n. mark Precommit b.height b.round (Some b.id) ∈ marks_in c h w.nodes n) ei (cov (subst (IsCorrect c h) (sym ei) ok))

  rule_covered : (w : World) → Sound w → (p : ℕ) (k : Rule) → RuleUnforged c h w p k → IsRuleCovered c h (marks_in c h w.nodes) p k
  rule_covered w s p (DecideByBundle b) g = bundle_covered w s p b g
  rule_covered w s p Start g = tt
  rule_covered w s p (PrevoteFresh v) g = tt
  rule_covered w s p (PrevoteAgain r v) g = tt
  rule_covered w s p AwaitPrevotes g = tt
  rule_covered w s p (Lock v) g = tt
  rule_covered w s p PrecommitNil g = tt
  rule_covered w s p AwaitPrecommits g = tt
  rule_covered w s p (Decide r v) g = tt
  rule_covered w s p (SkipRound r) g = tt
  rule_covered w s p (TimedOut t) g = tt

  -- ---- what is taken in

  bundle_first : (new : Marks c h) (t : Bool) (d : Bundle) (rest : List Body) (b : Body) → b ∈ cond t (OfBundle d ∷ rest) rest → (b ∈ rest → IsBodyCovered c h new b) → IsBodyCovered c h new b
  bundle_first new true d rest b (inl e) later = subst (IsBodyCovered c h new) (sym e) (λ v i. absurd i)
  bundle_first new true d rest b (inr e) later = later e
  bundle_first new false d rest b e later = later e

  bundles_covered : (new : Marks c h) (height : ℕ) (j : List Record) (b : Body) → b ∈ bundles_of height j → IsBodyCovered c h new b
  bundles_covered new height [] b k = absurd k
  bundles_covered new height (Own h r act ∷ j) b k = bundles_covered new height j b k
  bundles_covered new height (Decided d ∷ j) b k = bundle_first new (d.height == height) d (bundles_of height j) b k (bundles_covered new height j b)

  replies_covered : (new : Marks c h) (n : Node) (asked b : Body) → b ∈ replies n asked → IsBodyCovered c h new b
  replies_covered new n (OfAsk a) b k = bundles_covered new a.height n.journal b k
  replies_covered new n (OfTx t) b k = absurd k
  replies_covered new n (OfProposal q) b k = absurd k
  replies_covered new n (OfVote v) b k = absurd k
  replies_covered new n (OfBundle d) b k = absurd k

  taken_keeps : (new : Marks c h) (n : Node) (m : Message) (b : Body) → KeepsWell c h new n.state.height n.state.votes → KeepsWell c h new n.state.height (votes_in b) → KeepsWell c h new (kept_message n.state m b).height (kept_message n.state m b).votes
  taken_keeps new n m (OfVote v) k one = keeps_joined c h new n.state.height n.state.votes (v ∷ []) k one
  taken_keeps new n m (OfProposal q) k one = k
  taken_keeps new n m (OfTx t) k one = k
  taken_keeps new n m (OfAsk a) k one = k
  taken_keeps new n m (OfBundle d) k one = k

  taken_moves : (w : World) → Sound w → (p : ℕ) → IsCorrect c h p → (m : Message) (b : Body) → ((v : Vote) → v ∈ votes_in b → v.height ≡ (w.nodes p).state.height)
      → IsBodyCovered c h (marks_in c h w.nodes) b → Moves w p (taken_in (w.nodes p) m b).node (replies (w.nodes p) b)
  taken_moves w s p ok m b hei cov = record {
    grown = λ a k. k;
    backed = s.backed p ok;
    kept = λ new n. taken_keeps new (w.nodes p) m b (keeps_more c h _ new n.0 _ _ (s.kept p ok)) (record { covered = λ v i. covered_more c h _ new n.0 v (cov v i); of_height = hei });
    released = λ new n a k. replies_covered new (w.nodes p) b a k;
  }

  body_covered : (w : World) → Sound w → (b : Body) → FromSender c h w b (sender_of b) → IsBodyCovered c h (marks_in c h w.nodes) b
  body_covered w s (OfVote v) f u (inl e) = subst (IsCovered c h (marks_in c h w.nodes)) (sym e) (from_covered w s v f)
  body_covered w s (OfVote v) f u (inr e) = absurd e
  body_covered w s (OfProposal q) f u i = absurd i
  body_covered w s (OfTx t) f u i = absurd i
  body_covered w s (OfAsk a) f u i = absurd i
  body_covered w s (OfBundle d) f u i = absurd i

  -- ---- what fires

  marks_more : (o : Option Record) (j : List Record) (m : Mark) → m ∈ marks_of j → m ∈ marks_of (option_to_list o ++ j)
  marks_more None j m k = k
  marks_more (Some (Own h r act)) j m k = inr k
  marks_more (Some (Decided b)) j m k = k

  fired_moves : (w : World) → Sound w → (p : ℕ) → IsCorrect c h p → (k : Rule) → holds (context c p) (w.nodes p).state k ≡ true → RuleUnforged c h w p k → Moves w p (firing c p (w.nodes p) k).node (firing c p (w.nodes p) k).out
  fired_moves w s p ok k e u =
      let st = (w.nodes p).state in
      let j = (w.nodes p).journal in
      let o = saved (context c p) (pick (w.nodes p).queues) st k in
      let r : HasReason c h (marks_in c h w.nodes) st j (changed st k) o = has_reason c h (marks_in c h w.nodes) p (pick (w.nodes p).queues) st j (s.tied p) (s.kept p ok) k e (rule_covered w s p k u) in
      record {
        grown = λ m q. marks_more o j m q;
        backed = saved_backed c h _ st (changed st k) o j r (s.backed p ok);
        kept = λ new n. fired_keeps c h _ new p st (changed st k) j o r (s.kept p ok) n.0 n.1;
        released = λ new n. released_covered c h new p o j n.1;
      }

  -- ---- a restart

  opened_moves : (w : World) (p : ℕ) (j : List Record) → Grows j → IsBacked c h (history c h (marks_in c h w.nodes)) j → ((m : Mark) → m ∈ marks_of (w.nodes p).journal → m ∈ marks_of j) → Moves w p (opened p j) []
  unfolding restart
  opened_moves w p j g b grown = record {
    grown = grown;
    backed = b;
    kept = λ new n. since_keeps c h new p j g n.1;
    released = λ new n b k. absurd k;
  }

  cut_moves : (w : World) → Sound w → (p : ℕ) → IsCorrect c h p → (cut : Option Cut) → EventUnforged c h w (Restarts p cut) → Moves w p (opened p (cut_record c p (w.nodes p) cut ++ (w.nodes p).journal)) []
  cut_moves w s p ok cut u = cut_cases c p (w.nodes p) cut (λ rs. Moves w p (opened p (rs ++ (w.nodes p).journal)) []) (opened_moves w p (w.nodes p).journal (s.tied p).grows (s.backed p ok) (λ m k. k))
      (λ k e un. let mv = fired_moves w s p ok k e (un h w u) in
      opened_moves w p (firing c p (w.nodes p) k).node.journal (fired_tied c p (w.nodes p) k (s.tied p) e).grows mv.backed mv.grown)

  -- ---- each event

  same_moves : (w : World) → Sound w → (p : ℕ) → IsCorrect c h p → (bodies : List Body) → ((new : Marks c h) → IsNew (marks_in c h w.nodes) p (w.nodes p).journal new → (b : Body) → b ∈ bodies → IsBodyCovered c h new b) → Moves w p (w.nodes p) bodies
  same_moves w s p ok bodies rel = record { grown = λ m k. k; backed = s.backed p ok; kept = λ new n. keeps_more c h _ new n.0 _ _ (s.kept p ok); released = rel }

  ask_covered : (new : Marks c h) (a : Ask) (b : Body) → b ∈ (OfAsk a ∷ []) → IsBodyCovered c h new b
  ask_covered new a b (inl k) = subst (IsBodyCovered c h new) (sym k) (λ v i. absurd i)
  ask_covered new a b (inr k) = absurd k

  stays_sound : (w : World) → Sound w → (p : ℕ) → IsCorrect c h p → Sound (moved w p (nothing (w.nodes p)))
  stays_sound w s p ok = moved_sound w p (w.nodes p) [] s (with_tied w.nodes p (w.nodes p) s.tied (s.tied p)) (same_moves w s p ok [] (λ new n b k. absurd k))

  fires_sound : (w : World) → Sound w → (p : ℕ) → IsCorrect c h p → (k : Rule) → holds (context c p) (w.nodes p).state k ≡ true → RuleUnforged c h w p k → Sound (moved w p (firing c p (w.nodes p) k))
  fires_sound w s p ok k e u = moved_sound w p (firing c p (w.nodes p) k).node (firing c p (w.nodes p) k).out s (with_tied w.nodes p (firing c p (w.nodes p) k).node s.tied (fired_tied c p (w.nodes p) k (s.tied p) e)) (fired_moves w s p ok k e u)

  pub happens_sound : (w : World) (e : Event) → Sound w → AtCorrect c h (at_validator e) → EventUnforged c h w e → Sound (happens c w e)
  happens_sound w (Sends client op) s ok u = record { tied = s.tied; backed = s.backed; kept = s.kept; released = s.released }
  happens_sound w (Comes p bytes) s ok u = come_cases c p (w.nodes p) (message_of bytes) (λ o. Sound (moved w p o)) (stays_sound w s p ok)
      (λ m b em eb t.
      let g = comes_genuine c h w p (message_of bytes) m b em eb u in
      let f : FromSender c h w b (sender_of b) = subst (λ a. FromSender c h w a (sender_of a)) eb (g m (inl refl) (subst (λ a. right c p (sender_of a) (body_spelling a) m.tags ≡ true) (sym eb) t.tag)) in
      moved_sound w p (taken_in (w.nodes p) m b).node (taken_in (w.nodes p) m b).out s (with_tied w.nodes p (taken_in (w.nodes p) m b).node s.tied (kept_tied (w.nodes p).state (w.nodes p).journal m b (s.tied p)))
      (taken_moves w s p ok m b t.height (body_covered w s b f)))
      (λ m b em eb e. fires_sound w s p ok (DecideByBundle b) e (λ a i. comes_genuine c h w p (message_of bytes) m (OfBundle b) em eb u a (inr i)))
  happens_sound w (Fires p k) s ok u = try_cases c p (w.nodes p) k (λ o. Sound (moved w p o)) (stays_sound w s p ok) (λ nb e. fires_sound w s p ok k e (others_unforged c h w p k nb))
  happens_sound w (Asks p) s ok u =
      let a : Ask = record { height = (w.nodes p).state.height; sender = p } in
      moved_sound w p (w.nodes p) (OfAsk a ∷ []) s (with_tied w.nodes p (w.nodes p) s.tied (s.tied p)) (same_moves w s p ok (OfAsk a ∷ []) (λ new n b k. ask_covered new a b k))
  happens_sound w (Resends p) s ok u = moved_sound w p (w.nodes p) (own_since p (w.nodes p).journal) s (with_tied w.nodes p (w.nodes p) s.tied (s.tied p)) (same_moves w s p ok _ (λ new n. since_covered c h new p (w.nodes p).journal (s.tied p).grows n.1))
  happens_sound w (Restarts p cut) s ok u = moved_sound w p (opened p (cut_record c p (w.nodes p) cut ++ (w.nodes p).journal)) [] s (happens_tied c w (Restarts p cut) s.tied) (cut_moves w s p ok cut u)

  pub run_sound : (w : World) (es : List Event) → Sound w → Unforged c h w es → Sound (run c w es)
  run_sound w [] s u = s
  run_sound w (e ∷ es) s u = run_sound (happens c w e) es (happens_sound w e s u.0 u.1) u.2

  pub beginning_sound : Sound (beginning c)
  unfolding restart
  beginning_sound = record {
    tied = beginning_tied c;
    backed = λ p ok. tt;
    kept = λ p ok. keeps_none c h (marks_in c h (beginning c).nodes) 0;
    released = λ b k. absurd k;
  }

  -- so the journals are lawful
  pub lawful : (w : World) → Sound w → Lawful (history c h (marks_in c h w.nodes))
  lawful w s i a b = of_journal (w.nodes i).journal (s.tied i).grows (s.backed i (a, b))
    where
      reasons : (j : List Record) → IsBacked c h (history c h (marks_in c h w.nodes)) j → (v : Mark) (e : List Mark) → StandsAfter (marks_of j) v e → Reason (history c h (marks_in c h w.nodes)) v.step v.height v.round v.content e
      reasons [] k v e st = absurd st
      reasons (Own height round act ∷ rest) k v e (inl st) =
          subst (λ (l : List Mark). Reason (history c h (marks_in c h w.nodes)) v.step v.height v.round v.content l) st.1
          (subst (λ (m : Mark). Reason (history c h (marks_in c h w.nodes)) m.step m.height m.round m.content (marks_of rest)) st.0 k.0)
      reasons (Own height round act ∷ rest) k v e (inr st) = reasons rest k.1 v e st
      reasons (Decided d ∷ rest) k v e st = reasons rest k.1 v e st

      of_journal : (j : List Record) → Grows j → IsBacked c h (history c h (marks_in c h w.nodes)) j → (v : Mark) (e : List Mark) → StandsAfter (marks_of j) v e → Justified (history c h (marks_in c h w.nodes)) v e
      of_journal j g k v e st = record { grows = λ z p q. marks_grow j g v e st z p q; reason = reasons j k v e st }
