-- Calls that bring nothing but what is its sender's are unforged, and leave the world of a scene so.
use Rattle.std.proofs.Common.{◌≡◌, ℕ, inl, inr, cond, List, [], ◌∷◌, ◌++◌, refl, sym, ap, ◌∙◌, subst, eq-eqb, map}
use Rattle.std.proofs.Math.Path.{fun_ext}
use Rattle.std.proofs.lemmas.Bool.{cond_both}
use Rattle.messages.specs.Grammar.{IsBody}
use Rattle.protocol.specs.Values.{Op, Item}
use Rattle.protocol.specs.Tags.{Setting}
use Rattle.protocol.specs.Messages.{◌∈◌, Body}
use Rattle.protocol.specs.State.{Node, Rule}
use Rattle.protocol.specs.World.{World, Event, Fires, happens, run, next_item}
use Rattle.protocol.specs.History.{Input, Settle, Given, Due}
use Rattle.protocol.specs.Premises.{Honesty}
use Rattle.protocol.specs.Laws.{events_of}
use Rattle.protocol.proofs.Membership.{in_append, in_right}
use Rattle.world_schedule.specs.Calls.{Call, Sent, Began, Handed, Asked, Resent, Reopened, all_moved, adding, events_by, bodies_by, events}
use Rattle.world_schedule.specs.Health.{Health, doubt}
use Rattle.world_schedule.specs.Reports.{Made, calls_of, is_numbered, newly, said_as, said, validator_of, is_by}
use Rattle.world_schedule.specs.Making.{Scene, scene_next, scene_after}
use Rattle.world_schedule.proofs.Runs.{made_law}
use Rattle.fair_worlds.specs.Laws.{AreUnforged}
use Rattle.unforged_worlds.proofs.Genuine.{Later, later_same, later_then, run_later, IsTheirs, theirs_later, BytesTheirs, CutTheirs, cut_later, AllTheirs, unforged_event}
use Rattle.unforged_worlds.proofs.Worlds.{IsClean, run_clean}

in_newly : (numbered bs : List Body) (b : Body) → b ∈ newly numbered bs → b ∈ bs
in_newly numbered [] b i = absurd i
in_newly numbered (x ∷ xs) b i = cond_both (is_numbered numbered x) (newly numbered xs) (x ∷ newly (numbered ++ x ∷ []) xs) (λ l. b ∈ l → b ∈ (x ∷ xs))
    (λ _ j. inr (in_newly numbered xs b j))
    (λ _ j. elim j [ inl e ↦ inl e | inr l ↦ inr (in_newly (numbered ++ x ∷ []) xs b l) ]) i

-- the call is no client's
abbrev pub SendsNothing : Call → Type 0
SendsNothing call = (client : ℕ) (items : List Item) → adding client items call ≡ items

abbrev pub IsAnyCall : Call → Type 0
IsAnyCall call = Unit {0}

module _ (c : Setting) (h : Honesty) where
  -- ---- what a call brings

  abbrev pub InputTheirs : World → Input → Type 0
  InputTheirs w Settle = Unit {0}
  InputTheirs w (Given bytes) = BytesTheirs c h w bytes
  InputTheirs w (Due t) = Unit {0}

  abbrev pub CallTheirs : World → Call → Type 0
  CallTheirs w (Handed p input times) = InputTheirs w input
  CallTheirs w (Reopened p cut) = CutTheirs c h w cut
  CallTheirs w _ = Unit {0}

  firings_theirs : (w : World) (p : ℕ) (ks : List Rule) → AllTheirs c h w (map (Fires p) ks)
  firings_theirs w p [] = tt
  firings_theirs w p (k ∷ ks) = (tt, firings_theirs (happens c w (Fires p k)) p ks)

  handed_theirs : (w : World) (p : ℕ) (input : Input) (ks : List Rule) → InputTheirs w input → AllTheirs c h w (events_of p input ++ map (Fires p) ks)
  handed_theirs w p Settle ks k = firings_theirs w p ks
  handed_theirs w p (Given bytes) ks k = (k, firings_theirs _ p ks)
  handed_theirs w p (Due t) ks k = (tt, firings_theirs _ p ks)

  call_theirs : (w : World) (call : Call) → CallTheirs w call → AllTheirs c h w (events_by c w.nodes call)
  call_theirs w (Sent client op) k = (tt, tt)
  call_theirs w (Began client) k = tt
  call_theirs w (Handed p input times) k = handed_theirs w p input _ k
  call_theirs w (Asked p) k = (tt, tt)
  call_theirs w (Resent p) k = (tt, tt)
  call_theirs w (Reopened p cut) k = (k, tt)

  -- ---- the world of a scene

  -- the nodes and what was sent are the scene's, all of it is its sender's, and so are the numbered messages and what a stop may have cut
  pub record Fits (s : Scene) (w : World) : Type 0 where
    pub nodes : s.standing.nodes ≡ w.nodes
    pub sent : (client : ℕ) → s.standing.sent client ≡ w.sent client
    pub clean : IsClean c h w
    pub numbered : (b : Body) → b ∈ s.standing.numbered → IsBody b × IsTheirs c h w b
    pub doubts : (p : ℕ) → CutTheirs c h w (doubt (s.health p))

  abbrev after_call : World → Call → World
  after_call w call = run c w (events_by c w.nodes call)

  -- what a client sends is its own
  sends_own : (w : World) (client : ℕ) (op : Op) (items : List Item) (b : Body) → items ≡ w.sent client → b ≡ said_as (next_item client op items) → IsTheirs c h (after_call w (Sent client op)) b
  sends_own w client op items b same e = subst (IsTheirs c h (after_call w (Sent client op))) (sym e) (record { whose = λ known correct. there; holds = λ known correct. there })
    where
      there : next_item client op items ∈ (after_call w (Sent client op)).sent client
      there = subst (λ l. next_item client op l ∈ (after_call w (Sent client op)).sent client) (sym same)
          (subst (λ t. next_item client op (w.sent client) ∈ cond t (w.sent client ++ next_item client op (w.sent client) ∷ []) (w.sent client)) (sym (eq-eqb client client refl)) (in_right _ (w.sent client) (next_item client op (w.sent client) ∷ []) (inl refl)))

  -- and what a validator says was released
  says_own : (w : World) (nodes : ℕ → Node) (call : Call) → nodes ≡ w.nodes → IsClean c h (after_call w call) → (b : Body) → b ∈ bodies_by c nodes call → IsTheirs c h (after_call w call) b
  says_own w nodes call same clean b i = clean.released b (((made_law c w call).released b).1 (inl (subst (λ f. b ∈ bodies_by c f call) same i)))

  said_theirs : (s : Scene) (w : World) → Fits s w → (call : Call) → IsClean c h (after_call w call) → (b : Body) → b ∈ said c s.standing call → IsTheirs c h (after_call w call) b
  said_theirs s w f (Sent client op) clean b (inl e) = sends_own w client op (s.standing.sent client) b (f.sent client) e
  said_theirs s w f (Sent client op) clean b (inr none) = absurd none
  said_theirs s w f (Began client) clean b i = absurd i
  said_theirs s w f (Handed p input times) clean b i = says_own w s.standing.nodes (Handed p input times) f.nodes clean b i
  said_theirs s w f (Asked p) clean b i = says_own w s.standing.nodes (Asked p) f.nodes clean b i
  said_theirs s w f (Resent p) clean b i = says_own w s.standing.nodes (Resent p) f.nodes clean b i
  said_theirs s w f (Reopened p cut) clean b i = absurd i

  fits_next : (s : Scene) (w : World) → Fits s w → (m : Made) → CallTheirs w m.call → CutTheirs c h w (doubt m.health) → ((b : Body) → b ∈ said c s.standing m.call → IsBody b) → Fits (scene_next c s m) (after_call w m.call)
  fits_next s w f m k cut spelled =
      let es = events_by c w.nodes m.call in
      let v = after_call w m.call in
      let l : Later w v = run_later c w es in
      let made = made_law c w m.call in
      let clean : IsClean c h v = run_clean c h w f.clean es (call_theirs w m.call k) in
      record {
        nodes = ap (λ nodes. all_moved c nodes m.call) f.nodes ∙ sym (fun_ext made.nodes);
        sent = λ client. ap (λ items. adding client items m.call) (f.sent client) ∙ sym (made.sent client);
        clean = clean;
        numbered = λ b i. elim (in_append b s.standing.numbered (newly s.standing.numbered (said c s.standing m.call)) i) [
          | inl j ↦ ((f.numbered b j).0, theirs_later c h w v l b (f.numbered b j).1)
          | inr j ↦ (let there = in_newly s.standing.numbered (said c s.standing m.call) b j in (spelled b there, said_theirs s w f m.call clean b there))
        ];
        doubts = λ p. cond_both (is_by p (validator_of m.call)) m.health (s.health p) (λ (x : Health). CutTheirs c h v (doubt x)) (λ _. cut_later c h w v l (doubt m.health) cut) (λ _. cut_later c h w v l (doubt (s.health p)) (f.doubts p));
      }

  -- ---- calls in turn

  -- each of these calls brings nothing but what is its sender's, and the world fits the scene after them
  abbrev pub Leads : (Call → Type 0) → Scene → World → List Made → Type 0
  Leads Is s w [] = Fits s w
  Leads Is s w (m ∷ ms) = Is m.call × AllTheirs c h w (events_by c w.nodes m.call) × Leads Is (scene_next c s m) (run c w (events_by c w.nodes m.call)) ms

  pub leads_one : (Is : Call → Type 0) (s : Scene) (w : World) → Fits s w → (m : Made) → Is m.call → CallTheirs w m.call → CutTheirs c h w (doubt m.health) → ((b : Body) → b ∈ said c s.standing m.call → IsBody b) → Leads Is s w (m ∷ [])
  leads_one Is s w f m is k cut spelled = (is, call_theirs w m.call k, fits_next s w f m k cut spelled)

  pub leads_both : (Is : Call → Type 0) (s : Scene) (w : World) (ms ns : List Made) → Leads Is s w ms → ((v : World) → Later w v → Fits (scene_after c s ms) v → Leads Is (scene_after c s ms) v ns) → Leads Is s w (ms ++ ns)
  leads_both Is s w [] ns a k = k w (later_same w) a
  leads_both Is s w (m ∷ ms) ns a k =
      let v = after_call w m.call in
      (a.0, a.1, leads_both Is (scene_next c s m) v ms ns a.2 (λ u l f. k u (later_then w v u (run_later c w (events_by c w.nodes m.call)) l) f))

  pub leads_any : (Is : Call → Type 0) (s : Scene) (w : World) (ms : List Made) → Leads Is s w ms → Leads IsAnyCall s w ms
  leads_any Is s w [] a = a
  leads_any Is s w (m ∷ ms) a = (tt, a.1, leads_any Is (scene_next c s m) (after_call w m.call) ms a.2)

  -- where no client sends, nothing more is sent
  pub leads_sent : (s : Scene) (w : World) (ms : List Made) → Leads SendsNothing s w ms → (scene_after c s ms).standing.sent ≡ s.standing.sent
  leads_sent s w [] a = refl
  leads_sent s w (m ∷ ms) a = leads_sent (scene_next c s m) (after_call w m.call) ms a.2 ∙ fun_ext (λ client. a.0 client (s.standing.sent client))

  -- ---- unforged

  all_unforged : (w : World) (es : List Event) → AllTheirs c h w es → AreUnforged c h w es
  all_unforged w [] k = tt
  all_unforged w (e ∷ es) k = (unforged_event c h w e k.0, all_unforged (happens c w e) es k.1)

  unforged_both : (w : World) (es fs : List Event) → AreUnforged c h w es → AreUnforged c h (run c w es) fs → AreUnforged c h w (es ++ fs)
  unforged_both w [] fs a b = b
  unforged_both w (e ∷ es) fs a b = (a.0, unforged_both (happens c w e) es fs a.1 b)

  pub leads_unforged : (Is : Call → Type 0) (s : Scene) (w : World) (ms : List Made) → Leads Is s w ms → AreUnforged c h w (events c w.nodes (calls_of ms))
  leads_unforged Is s w [] a = tt
  leads_unforged Is s w (m ∷ ms) a =
      let v = after_call w m.call in
      unforged_both w (events_by c w.nodes m.call) (events c (all_moved c w.nodes m.call) (calls_of ms)) (all_unforged w (events_by c w.nodes m.call) a.1)
      (subst (λ nodes. AreUnforged c h v (events c nodes (calls_of ms))) (fun_ext (made_law c w m.call).nodes) (leads_unforged Is (scene_next c s m) v ms a.2))
