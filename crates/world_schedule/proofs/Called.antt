-- A call that was made and told, as the report has it.
use Rattle.std.proofs.Common.{◌≡◌, ℕ, Bool, cond, Some, None, List, [], ◌∷◌, ◌++◌, map, length, drop, refl, sym, ap, ap₂, ◌∙◌, subst, eq-eqb, append-nil}
use Rattle.protocol.specs.Tags.{Setting}
use Rattle.protocol.specs.Messages.{Body, Bundle}
use Rattle.protocol.specs.State.{Node}
use Rattle.protocol.specs.History.{Settle}
use Rattle.protocol.specs.Effects.{bundles_in}
use Rattle.node_core.specs.Core.{Core}
use Rattle.world_schedule.specs.Health.{Health, HasHealth}
use Rattle.world_schedule.specs.Calls.{Call, Sent, Began, Handed, Asked, Resent, Reopened, moved, bodies_by}
use Rattle.world_schedule.specs.Cores.{StandsIn, frame_in}
use Rattle.world_schedule.specs.Reports.{Made, Standing, said, validator_of, is_by, decided_in, decision_of, told_of_validator, told_of_call, noted, released_from, newly}
use Rattle.world_schedule.specs.Making.{Request, Scene, IsMetBy, owing_after, health_after, is_refused_memory, scene_next}
use Rattle.world_schedule.specs.Standings.{Holds, Tells, Says, AreReadable}
use Rattle.world_schedule.specs.Validators.{IsNumber, HasMet}
use Rattle.world_schedule.specs.declared.seat.Seat.TheVariants as seats
use Rattle.world_schedule.specs.declared.validator.Validator.{Validator}
use Rattle.world_schedule.specs.declared.chronicle.Chronicle.{Chronicle}
use Rattle.world_schedule.specs.declared.report.What.{What}
use Rattle.world_schedule.specs.declared.report.What.TheVariants.{Answered, Decided}
use Rattle.world_schedule.proofs.Cores.{kept_law}
use Rattle.world_schedule.proofs.Spelled.{spelled_readable}
use Rattle.world_schedule.proofs.Saying.{tells_both}
use Rattle.world_schedule.proofs.Meeting.{own_node}

-- a validator's call says what it releases
said_is : (c : Setting) (s : Standing) (p : ℕ) (call : Call) → validator_of call ≡ Some p → said c s call ≡ bodies_by c (λ _. s.nodes p) call
said_is c s p (Sent client op) e = absurd (let f : None ≡ Some p = e in cc)
said_is c s p (Began client) e = absurd (let f : None ≡ Some p = e in cc)
said_is c s p (Handed q input times) e = let same : q ≡ p = cc in subst (λ k. said c s (Handed q input times) ≡ bodies_by c (λ _. s.nodes k) (Handed q input times)) same refl
said_is c s p (Asked q) e = let same : q ≡ p = cc in subst (λ k. said c s (Asked q) ≡ bodies_by c (λ _. s.nodes k) (Asked q)) same refl
said_is c s p (Resent q) e = let same : q ≡ p = cc in subst (λ k. said c s (Resent q) ≡ bodies_by c (λ _. s.nodes k) (Resent q)) same refl
said_is c s p (Reopened q cut) e = refl

-- what was asked of this validator is noted of it
own_health : (health : ℕ → Health) (made : Made) (p q : ℕ) → validator_of made.call ≡ Some p → q ≡ p → made.health ≡ health_after health made q
own_health health made p q by e = sym (ap₂ (λ i v. cond (is_by i v) made.health (health q)) e by ∙ ap (λ b. cond b made.health (health q)) (eq-eqb p p refl))

pub own_owing : (owing : ℕ → Bool) (made : Made) (p q : ℕ) → validator_of made.call ≡ Some p → q ≡ p → is_refused_memory made.answer ≡ owing_after owing made q
own_owing owing made p q by e = sym (ap₂ (λ i v. cond (is_by i v) (is_refused_memory made.answer) (owing q)) e by ∙ ap (λ b. cond b (is_refused_memory made.answer) (owing q)) (eq-eqb p p refl))

-- the call and what was told of it
pub record IsTold (c : Setting) (s : Scene) (request : Request) (numbers : ℕ × ℕ) (p count : ℕ) (new : Validator) (mid : Core) (first second third last : Chronicle) : Type 0 where
  pub known : IsNumber c p
  pub counted : count ≡ length (bundles_in (s.standing.nodes p).journal)
  pub met : IsMetBy c p (s.standing.nodes p) (s.health p) request numbers [] mid
  pub answer : Tells (Some p) (Answered (record { number = numbers.0; inner = numbers.1 }) ∷ []) first second
  pub decisions : Tells (Some p) (map (λ (b : Bundle). Decided (decision_of b)) (drop count mid.decisions)) second third
  pub messages : (bodies : List Body) → mid.outgoing ≡ map (frame_in c) bodies → AreReadable c bodies → Says c s.standing.numbered (Some p) bodies third last
  pub number : new.number ≡ p
  pub core : new.core ≡ record mid { outgoing = []; scheduled = [] }
  pub told : new.decisions_told ≡ length mid.decisions
  pub owes : new.owes ≡ is_refused_memory numbers

module _ (c : Setting) (s : Scene) (request : Request) (numbers : ℕ × ℕ) (p count : ℕ) (new : Validator) (mid : Core) (first second third last : Chronicle) (k : IsTold c s request numbers p count new mid first second third last) where
  abbrev n : Node
  n = s.standing.nodes p

  abbrev call : Call
  call = k.met.call

  abbrev made : Made
  made = record { event = first.event; call = call; answer = numbers; health = k.met.new }

  abbrev bodies : List Body
  bodies = bodies_by c (λ _. n) call

  says : Says c s.standing.numbered (Some p) bodies third last
  says = k.messages bodies k.met.outgoing (spelled_readable c bodies k.known.some k.known.few k.met.spelled)

  said_here : said c s.standing call ≡ bodies
  said_here = said_is c s.standing p call k.met.by

  decided : drop count mid.decisions ≡ decided_in c p n call
  decided = ap₂ (λ i l. drop i l) k.counted k.met.stands.stands.decisions

  own_told : told_of_validator c s.standing made (validator_of call) ≡ Answered (record { number = numbers.0; inner = numbers.1 }) ∷ map (λ (b : Bundle). Decided (decision_of b)) (drop count mid.decisions)
  own_told = ap (told_of_validator c s.standing made) k.met.by ∙ ap (λ l. Answered (record { number = numbers.0; inner = numbers.1 }) ∷ map (λ (b : Bundle). Decided (decision_of b)) l) (sym decided)

  abbrev whats : List What
  whats = ((Answered (record { number = numbers.0; inner = numbers.1 }) ∷ []) ++ map (λ (b : Bundle). Decided (decision_of b)) (drop count mid.decisions)) ++ released_from (length s.standing.numbered) (newly s.standing.numbered bodies)

  all_told : whats ≡ told_of_call c s.standing made
  all_told = ap₂ (λ xs ys. xs ++ released_from (length s.standing.numbered) (newly s.standing.numbered ys)) (sym own_told) (sym said_here)

  tells : Tells (Some p) whats first last
  tells = tells_both (Some p) _ _ first third last (tells_both (Some p) _ _ first second third k.answer k.decisions) says.tells

  noted_here : map (λ what. record { event = first.event; validator = Some p; what = what }) whats ≡ noted made (told_of_call c s.standing made)
  noted_here = ap₂ (λ v l. map (λ what. record { event = first.event; validator = v; what = what }) l) (sym k.met.by) all_told

  beside : StandsIn c p (moved c p n call) new.core
  beside = (kept_law c p).beside (moved c p n call) mid new.core k.met.stands (record { machine = ap (λ (x : Core). x.machine) k.core; ring = ap (λ (x : Core). x.ring) k.core; queues = ap (λ (x : Core). x.queues) k.core; decisions = ap (λ (x : Core). x.decisions) k.core; said = ap (λ (x : Core). x.said) k.core; journal = ap (λ (x : Core). x.journal) k.core })

  -- by the validator's own number
  abbrev q : ℕ
  q = new.number

  stays_up : HasHealth c q (moved c q (s.standing.nodes q) call) k.met.new new.core.journal
  stays_up = subst (λ i. HasHealth c i (moved c i (s.standing.nodes i) call) k.met.new new.core.journal) (sym k.number) (subst (HasHealth c p (moved c p n call) k.met.new) (sym (ap (λ (x : Core). x.journal) k.core)) k.met.health)

  pub has_met : HasMet c s request new.owes p (seats.Up new) first last
  has_met = record {
    made = made;
    one = record { event = refl; by = k.met.by; met = k.met.met; spelled = k.met.spelled };
    starved_is = k.owes;
    up = (
      k.number,
      record {
        number = subst (IsNumber c) (sym k.number) k.known;
        stands = subst (λ i. StandsIn c i (moved c i (s.standing.nodes i) call) new.core) (sym k.number) beside;
        health = subst (λ h. HasHealth c q (moved c q (s.standing.nodes q) call) h new.core.journal) (own_health s.health made p q k.met.by k.number) stays_up;
        released = ap (λ (x : Core). x.outgoing) k.core;
        told = k.told ∙ ap (λ (l : List Bundle). length l) (sym (ap (λ (x : Core). x.decisions) k.core));
        owes = k.owes ∙ own_owing s.owing made p q k.met.by k.number;
      },
    );
    holds = subst (λ l. Holds c (s.standing.numbered ++ newly s.standing.numbered l) last.messages) (sym said_here) says.holds;
    told = tells.told ∙ ap (λ l. first.told.items ++ l) noted_here;
    event = tells.event;
  }

-- ---- a call that does nothing

drop_all : {X : Type 0} (xs : List X) → drop (length xs) xs ≡ []
drop_all [] = refl
drop_all (x ∷ xs) = drop_all xs

module _ (c : Setting) (s : Scene) (p : ℕ) (numbers : ℕ × ℕ) (health : Health) (first last : Chronicle) (tells : Tells (Some p) (Answered (record { number = numbers.0; inner = numbers.1 }) ∷ []) first last) (same : last.messages ≡ first.messages) (holds : Holds c s.standing.numbered first.messages) where
  abbrev pub idle : Made
  idle = record { event = first.event; call = Handed p Settle 0; answer = numbers; health = health }

  idle_decided : decided_in c p (s.standing.nodes p) (Handed p Settle 0) ≡ []
  idle_decided = ap (λ (m : Node). drop (length (bundles_in (s.standing.nodes p).journal)) (bundles_in m.journal)) (sym (own_node c p (s.standing.nodes p) Settle 0)) ∙ drop_all (bundles_in (s.standing.nodes p).journal)

  idle_told : told_of_call c s.standing idle ≡ Answered (record { number = numbers.0; inner = numbers.1 }) ∷ []
  idle_told = ap (λ l. (Answered (record { number = numbers.0; inner = numbers.1 }) ∷ map (λ (b : Bundle). Decided (decision_of b)) l) ++ []) idle_decided

  pub told_idly : last.told.items ≡ first.told.items ++ noted idle (told_of_call c s.standing idle)
  told_idly = tells.told ∙ ap (λ l. first.told.items ++ noted idle l) (sym idle_told)

  pub holds_idly : Holds c (scene_next c s idle).standing.numbered last.messages
  holds_idly = subst (λ l. Holds c l last.messages) (sym (append-nil s.standing.numbered)) (subst (Holds c s.standing.numbered) (sym same) holds)

  pub node_idly : (q : ℕ) → q ≡ p → (scene_next c s idle).standing.nodes q ≡ s.standing.nodes q
  node_idly q e = sym (subst (λ i. s.standing.nodes q ≡ moved c q (s.standing.nodes q) (Handed i Settle 0)) e (own_node c q (s.standing.nodes q) Settle 0))

  pub health_idly : (q : ℕ) → q ≡ p → (scene_next c s idle).health q ≡ health
  health_idly q e = sym (own_health s.health idle p q refl e)

  pub owing_idly : (q : ℕ) → q ≡ p → (scene_next c s idle).owing q ≡ is_refused_memory numbers
  owing_idly q e = sym (own_owing s.owing idle p q refl e)
