-- The calls of turns, and of a restart, bring what is asked of them and what a stop cut, and nothing else.
use Rattle.std.proofs.Common.{◌≡◌, ℕ, inl, inr, List, [], ◌∷◌, refl, sym, subst, Option, Some, None, option_map}
use Rattle.protocol.specs.Tags.{Setting}
use Rattle.protocol.specs.Messages.{◌∈◌}
use Rattle.protocol.specs.State.{Node, Rule}
use Rattle.protocol.specs.Order.{enabled}
use Rattle.protocol.specs.World.{World, Cut, InFiring}
use Rattle.protocol.specs.History.{Input, Settle, Given, Due, after}
use Rattle.protocol.specs.Premises.{Honesty}
use Rattle.node_core.specs.Calls.{input_cut}
use Rattle.world_schedule.specs.Calls.{Call, Sent, Began, Handed, Asked, Resent, Reopened, bodies_by}
use Rattle.world_schedule.specs.Health.{Health, Serving, Broken, Closed, doubt, IsCut}
use Rattle.world_schedule.specs.Answered.{IsAnswered}
use Rattle.world_schedule.specs.Reports.{Made, Standing, said, validator_of}
use Rattle.world_schedule.specs.Making.{Request, Hands, Asks, Resends, Reopens, IsLet, LeavesHealth, IsIdle, IsOpening, IsMet, Scene, IsOne, IsInsisted, IsTurn, AreTurns, IsReopened, IsSettled, IsRestart, scene_next, scene_after}
use Rattle.unforged_worlds.proofs.Genuine.{Later, later_then, CutTheirs, theirs_later}
use Rattle.unforged_worlds.proofs.Leading.{SendsNothing, InputTheirs, CallTheirs, Fits, Leads, leads_one, leads_both}

-- what a validator's call says, by its own node
said_is : (c : Setting) (s : Standing) (p : ℕ) (call : Call) → validator_of call ≡ Some p → said c s call ≡ bodies_by c (λ _. s.nodes p) call
said_is c s p (Sent client op) e = absurd (let f : None ≡ Some p = e in cc)
said_is c s p (Began client) e = refl
said_is c s p (Handed q input times) e = let same : q ≡ p = cc in subst (λ k. said c s (Handed q input times) ≡ bodies_by c (λ _. s.nodes k) (Handed q input times)) same refl
said_is c s p (Asked q) e = let same : q ≡ p = cc in subst (λ k. said c s (Asked q) ≡ bodies_by c (λ _. s.nodes k) (Asked q)) same refl
said_is c s p (Resent q) e = let same : q ≡ p = cc in subst (λ k. said c s (Resent q) ≡ bodies_by c (λ _. s.nodes k) (Resent q)) same refl
said_is c s p (Reopened q cut) e = refl

-- and no client sends by it
sends_nothing : (p : ℕ) (call : Call) → validator_of call ≡ Some p → SendsNothing call
sends_nothing p (Sent client op) e = absurd (let f : None ≡ Some p = e in cc)
sends_nothing p (Began client) e = λ k items. refl
sends_nothing p (Handed q input times) e = λ k items. refl
sends_nothing p (Asked q) e = λ k items. refl
sends_nothing p (Resent q) e = λ k items. refl
sends_nothing p (Reopened q cut) e = λ k items. refl

module _ (c : Setting) (h : Honesty) where
  abbrev pub RequestTheirs : World → Request → Type 0
  RequestTheirs w (Hands input) = InputTheirs c h w input
  RequestTheirs w _ = Unit {0}

  request_later : (w v : World) → Later w v → (request : Request) → RequestTheirs w request → RequestTheirs v request
  request_later w v l (Hands Settle) k = tt
  request_later w v l (Hands (Given bytes)) k = λ m e. theirs_later c h w v l m.body (k m e)
  request_later w v l (Hands (Due t)) k = tt
  request_later w v l Asks k = tt
  request_later w v l Resends k = tt
  request_later w v l Reopens k = tt

  -- ---- one call

  answered_theirs : (w : World) (p : ℕ) (n : Node) (input : Input) (numbers : ℕ × ℕ) (call : Call) → InputTheirs c h w input → IsAnswered c p n input numbers call → CallTheirs c h w call
  answered_theirs w p n input numbers call k (inl a) = subst (CallTheirs c h w) (sym a.call_is) k
  answered_theirs w p n input numbers call k (inr (inl a)) = subst (CallTheirs c h w) (sym a.call_is) k
  answered_theirs w p n input numbers call k (inr (inr (inl a))) = elim a.call_is [ inl e ↦ subst (CallTheirs c h w) (sym e) k | inr e ↦ subst (CallTheirs c h w) (sym e) tt ]
  answered_theirs w p n input numbers call k (inr (inr (inr a))) = subst (CallTheirs c h w) (sym a.call_is) tt

  input_theirs : (w : World) (input : Input) → InputTheirs c h w input → CutTheirs c h w (input_cut input)
  input_theirs w Settle k = tt
  input_theirs w (Given bytes) k = k
  input_theirs w (Due t) k = tt

  next_theirs : (w : World) (o : Option Rule) → CutTheirs c h w (option_map InFiring o)
  next_theirs w None = tt
  next_theirs w (Some k) = tt

  cut_theirs : (w : World) (p : ℕ) (n : Node) (input : Input) (call : Call) (cut : Option Cut) → InputTheirs c h w input → IsCut c p n input call cut → CutTheirs c h w cut
  cut_theirs w p n input call cut k (inl e) = subst (CutTheirs c h w) (sym e.1) (input_theirs w input k)
  cut_theirs w p n input call cut k (inr e) = subst (CutTheirs c h w) (sym e.2) (next_theirs w (enabled c.powers (after c p n input e.0).state))

  health_theirs : (w : World) (p : ℕ) (n : Node) (input : Input) (numbers : ℕ × ℕ) (call : Call) (new : Health) → InputTheirs c h w input → LeavesHealth c p n input numbers call new → CutTheirs c h w (doubt new)
  health_theirs w p n input numbers call Serving k l = tt
  health_theirs w p n input numbers call (Broken cut) k l = cut_theirs w p n input call cut k l.1
  health_theirs w p n input numbers call (Closed cut) k l = absurd l

  -- the call, and what may stand beside the journal after it
  abbrev Brings : World → Call → Health → Type 0
  Brings w call new = CallTheirs c h w call × CutTheirs c h w (doubt new)

  idle_brings : (w : World) (p : ℕ) (old : Health) (numbers : ℕ × ℕ) (call : Call) (new : Health) → CutTheirs c h w (doubt old) → IsIdle p old numbers call new → Brings w call new
  idle_brings w p old numbers call new d k = (subst (CallTheirs c h w) (sym k.call_is) tt, subst (λ (x : Health). CutTheirs c h w (doubt x)) (sym k.stays) d)

  let_brings : (w : World) (p : ℕ) (wanted : Call) (numbers : ℕ × ℕ) (call : Call) (new : Health) → CallTheirs c h w wanted → IsLet p wanted numbers call × (new ≡ Serving) → Brings w call new
  let_brings w p wanted numbers call new d k = (
    elim k.0 [ inl a ↦ subst (CallTheirs c h w) (sym a.1) d | inr a ↦ subst (CallTheirs c h w) (sym a.1) tt ],
    subst (λ (x : Health). CutTheirs c h w (doubt x)) (sym k.1) tt,
  )

  opening_brings : (w : World) (p : ℕ) (old : Health) (numbers : ℕ × ℕ) (call : Call) (new : Health) → CutTheirs c h w (doubt old) → IsOpening p old numbers call new → Brings w call new
  opening_brings w p old numbers call Serving d k = (subst (CallTheirs c h w) (sym k.1.2) (elim k.1.1 [ inl e ↦ subst (CutTheirs c h w) (sym e) tt | inr e ↦ subst (CutTheirs c h w) (sym e) d ]), tt)
  opening_brings w p old numbers call (Broken cut) d k = absurd k
  opening_brings w p old numbers call (Closed cut) d k = (subst (CallTheirs c h w) (sym k.1) tt, subst (CutTheirs c h w) (sym k.2) d)

  met_brings : (w : World) (p : ℕ) (n : Node) (old : Health) (request : Request) (numbers : ℕ × ℕ) (call : Call) (new : Health) → CutTheirs c h w (doubt old) → RequestTheirs w request → IsMet c p n old request numbers call new → Brings w call new
  met_brings w p n Serving (Hands input) numbers call new d r k = (answered_theirs w p n input numbers call r k.answered, health_theirs w p n input numbers call new r k.leaves)
  met_brings w p n (Broken cut) (Hands input) numbers call new d r k = idle_brings w p (Broken cut) numbers call new d k
  met_brings w p n (Closed cut) (Hands input) numbers call new d r k = idle_brings w p (Closed cut) numbers call new d k
  met_brings w p n Serving Asks numbers call new d r k = let_brings w p (Asked p) numbers call new tt k
  met_brings w p n (Broken cut) Asks numbers call new d r k = idle_brings w p (Broken cut) numbers call new d k
  met_brings w p n (Closed cut) Asks numbers call new d r k = idle_brings w p (Closed cut) numbers call new d k
  met_brings w p n Serving Resends numbers call new d r k = let_brings w p (Resent p) numbers call new tt k
  met_brings w p n (Broken cut) Resends numbers call new d r k = idle_brings w p (Broken cut) numbers call new d k
  met_brings w p n (Closed cut) Resends numbers call new d r k = idle_brings w p (Closed cut) numbers call new d k
  met_brings w p n old Reopens numbers call new d r k = opening_brings w p old numbers call new d k

  abbrev pub LeadOn : Scene → World → List Made → Type 0
  LeadOn s w ms = Leads c h SendsNothing s w ms

  of_one : (s : Scene) (w : World) → Fits c h s w → (k p : ℕ) (request : Request) → RequestTheirs w request → (m : Made) → IsOne c s k p request m → LeadOn s w (m ∷ [])
  of_one s w f k p request r m one =
      let b = met_brings w p (s.standing.nodes p) (s.health p) request m.answer m.call m.health (f.doubts p) r one.met in
      leads_one c h SendsNothing s w f m (sends_nothing p m.call one.by) b.0 b.1 (λ body i. one.spelled body (subst (λ l. body ∈ l) (said_is c s.standing p m.call one.by) i))

  -- ---- a turn

  of_insisted : (s : Scene) (w : World) → Fits c h s w → (k p : ℕ) (request : Request) → RequestTheirs w request → (ms : List Made) → IsInsisted c s k p request ms → LeadOn s w ms
  of_insisted s w f k p request r [] i = absurd i
  of_insisted s w f k p request r (m ∷ []) i = of_one s w f k p request r m i.0
  of_insisted s w f k p request r (m ∷ settling ∷ []) i = absurd i
  of_insisted s w f k p request r (m ∷ settling ∷ again ∷ []) i =
      leads_both c h SendsNothing s w (m ∷ []) (settling ∷ again ∷ []) (of_one s w f k p request r m i.0)
      (λ v l g. leads_both c h SendsNothing (scene_next c s m) v (settling ∷ []) (again ∷ []) (of_one (scene_next c s m) v g k p (Hands Settle) tt settling i.2)
      (λ u l2 g2. of_one (scene_next c (scene_next c s m) settling) u g2 k p request (request_later w u (later_then w v u l l2) request r) again i.3))
  of_insisted s w f k p request r (m ∷ settling ∷ again ∷ more ∷ rest) i = absurd i

  of_turn : (s : Scene) (w : World) → Fits c h s w → (k p : ℕ) (request : Request) → RequestTheirs w request → (ms : List Made) → IsTurn c s k p request ms → LeadOn s w ms
  of_turn s w f k p request r ms (inl t) = of_insisted s w f k p request r ms t.1
  of_turn s w f k p request r ms (inr t) =
      subst (λ (l : List Made). LeadOn s w l) (sym t.1.2)
      (leads_both c h SendsNothing s w (t.1.0 ∷ []) t.1.1 (of_one s w f k p (Hands Settle) tt t.1.0 t.1.3)
      (λ v l g. of_insisted (scene_next c s t.1.0) v g k p request (request_later w v l request r) t.1.1 t.1.4))

  abbrev pub RequestsTheirs : World → List (ℕ × Request) → Type 0
  RequestsTheirs w rs = (r : ℕ × Request) → r ∈ rs → RequestTheirs w r.1

  pub of_turns : (s : Scene) (w : World) → Fits c h s w → (k : ℕ) (rs : List (ℕ × Request)) → RequestsTheirs w rs → (ms : List Made) → AreTurns c s k rs ms → LeadOn s w ms
  of_turns s w f k [] a ms t = subst (λ (l : List Made). LeadOn s w l) (sym t) f
  of_turns s w f k (r ∷ rs) a ms t = subst (λ (l : List Made). LeadOn s w l) (sym t.2)
      (leads_both c h SendsNothing s w t.0 t.1 (of_turn s w f k r.0 r.1 (a r (inl refl)) t.0 t.3)
      (λ v l g. of_turns (scene_after c s t.0) v g k rs (λ q i. request_later w v l q.1 (a q (inr i))) t.1 t.4))

  -- ---- a restart

  of_reopened : (s : Scene) (w : World) → Fits c h s w → (k p : ℕ) (ms : List Made) → IsReopened c s k p ms → LeadOn s w ms
  of_reopened s w f k p [] i = absurd i
  of_reopened s w f k p (m ∷ []) i = of_one s w f k p Reopens tt m i.0
  of_reopened s w f k p (m ∷ again ∷ []) i =
      leads_both c h SendsNothing s w (m ∷ []) (again ∷ []) (of_one s w f k p Reopens tt m i.0) (λ v l g. of_one (scene_next c s m) v g k p Reopens tt again i.2)
  of_reopened s w f k p (m ∷ again ∷ more ∷ rest) i = absurd i

  of_settled : (s : Scene) (w : World) → Fits c h s w → (k p : ℕ) (health : Health) (ms : List Made) → IsSettled c s k p health ms → LeadOn s w ms
  of_settled s w f k p Serving ms t = of_turn s w f k p (Hands Settle) tt ms t
  of_settled s w f k p (Broken cut) ms t = of_turn s w f k p (Hands Settle) tt ms t
  of_settled s w f k p (Closed cut) ms t = subst (λ (l : List Made). LeadOn s w l) (sym t) f

  pub of_restart : (s : Scene) (w : World) → Fits c h s w → (k p : ℕ) (ms : List Made) → IsRestart c s k p ms → LeadOn s w ms
  of_restart s w f k p ms r = subst (λ (l : List Made). LeadOn s w l) (sym r.2)
      (leads_both c h SendsNothing s w r.0 r.1 (of_reopened s w f k p r.0 r.3)
      (λ v l g. of_settled (scene_after c s r.0) v g k p ((scene_after c s r.0).health p) r.1 r.4))
