-- Calls that are made of a world's validators, one after the other, and what they answer.
use Rattle.std.specs.Prelude.{◌≡◌, ◌≢◌, ◌⊎◌, ℕ, Bool, true, false, cond, Option, None, Some, List, [], ◌∷◌, ◌++◌, map, ◌==◌}
use Rattle.messages.specs.Grammar.{IsBody}
use Rattle.protocol.specs.Tags.{Setting}
use Rattle.protocol.specs.Messages.{◌∈◌, Body}
use Rattle.protocol.specs.State.{Node}
use Rattle.protocol.specs.Calls.{Halted, NoMemory, JournalFailed, call_number}
use Rattle.protocol.specs.World.{Cut}
use Rattle.protocol.specs.History.{Input, Settle}
use Rattle.node_core.specs.Core.{Core}
use Rattle.world_schedule.specs.Calls.{Call, Handed, Asked, Resent, Reopened, moved, bodies_by}
use Rattle.world_schedule.specs.Health.{Health, Serving, Broken, Closed, doubt, IsCut, HasHealth}
use Rattle.world_schedule.specs.Cores.{StandsIn, frame_in}
use Rattle.world_schedule.specs.Answered.{IsAnswered}
use Rattle.world_schedule.specs.Reports.{Made, Standing, start, next, validator_of, is_by}

-- what is asked of a validator
pub data Request : Type 0 where
  Hands : Input → Request  -- to be handed something
  Asks : Request  -- to let an ask go
  Resends : Request  -- to let its own messages of the height go again
  Reopens : Request  -- to be opened again over its journal

-- The one call that is wanted was made; or memory was refused, and nothing was done.
abbrev pub IsLet : ℕ → Call → ℕ × ℕ → Call → Type 0
IsLet p wanted numbers call = ((numbers ≡ (0, 0)) × (call ≡ wanted)) ⊎ ((numbers ≡ call_number NoMemory) × (call ≡ Handed p Settle 0))

-- Its journal serves, unless the device failed as this was being saved.
abbrev pub LeavesHealth : Setting → ℕ → Node → Input → ℕ × ℕ → Call → Health → Type 0
LeavesHealth c p n input numbers call Serving = numbers.0 ≢ 17
LeavesHealth c p n input numbers call (Broken cut) = (numbers ≡ call_number JournalFailed) × IsCut c p n input call cut
LeavesHealth c p n input numbers call (Closed cut) = ⊥

-- What this comes to, handed to a node that serves: the call that was made, its answer, and how the validator is then.
pub record IsAnswer (c : Setting) (p : ℕ) (n : Node) (input : Input) (numbers : ℕ × ℕ) (call : Call) (new : Health) : Type 0 where
  pub answered : IsAnswered c p n input numbers call
  pub runs : numbers.0 ≢ 15
  pub leaves : LeavesHealth c p n input numbers call new

-- One that doesn't serve answers that it has halted, and does nothing.
pub record IsIdle (p : ℕ) (old : Health) (numbers : ℕ × ℕ) (call : Call) (new : Health) : Type 0 where
  pub numbers_are : numbers ≡ call_number Halted
  pub call_is : call ≡ Handed p Settle 0
  pub stays : new ≡ old

-- so where it serves; else it is idle
abbrev pub WhereServing : ℕ → Health → ℕ × ℕ → Call → Health → Type 0 → Type 0
WhereServing p Serving numbers call new what = what
WhereServing p (Broken cut) numbers call new what = IsIdle p (Broken cut) numbers call new
WhereServing p (Closed cut) numbers call new what = IsIdle p (Closed cut) numbers call new

-- It stands again where its journal tells: that may have got what was being saved as the device failed, and nothing else. Or memory was refused, or the device failed, and it has no node.
abbrev pub IsOpening : ℕ → Health → ℕ × ℕ → Call → Health → Type 0
IsOpening p old numbers call Serving = (numbers ≡ (0, 0)) × ((cut : Option Cut) × ((cut ≡ None) ⊎ (cut ≡ doubt old)) × (call ≡ Reopened p cut))
IsOpening p old numbers call (Broken cut) = ⊥
IsOpening p old numbers call (Closed cut) = ((numbers ≡ call_number NoMemory) ⊎ (numbers ≡ call_number JournalFailed)) × (call ≡ Handed p Settle 0) × (cut ≡ doubt old)

-- What the request comes to at this node of a validator in this health.
abbrev pub IsMet : Setting → ℕ → Node → Health → Request → ℕ × ℕ → Call → Health → Type 0
IsMet c p n old (Hands input) numbers call new = WhereServing p old numbers call new (IsAnswer c p n input numbers call new)
IsMet c p n old Asks numbers call new = WhereServing p old numbers call new (IsLet p (Asked p) numbers call × (new ≡ Serving))
IsMet c p n old Resends numbers call new = WhereServing p old numbers call new (IsLet p (Resent p) numbers call × (new ≡ Serving))
IsMet c p n old Reopens numbers call new = IsOpening p old numbers call new

-- A core met the request: it stands for the node after the call, and has let its frames go, after those before.
pub record IsMetBy (c : Setting) (p : ℕ) (n : Node) (old : Health) (request : Request) (numbers : ℕ × ℕ) (before : List (List ℕ)) (core : Core) : Type 0 where
  pub call : Call
  pub new : Health
  pub by : validator_of call ≡ Some p
  pub met : IsMet c p n old request numbers call new
  pub stands : StandsIn c p (moved c p n call) core
  pub health : HasHealth c p (moved c p n call) new core.journal
  pub outgoing : core.outgoing ≡ before ++ map (frame_in c) (bodies_by c (λ _. n) call)
  pub spelled : (b : Body) → b ∈ bodies_by c (λ _. n) call → IsBody b

-- ---- how a world stands between calls

-- as the report has it; and whose last call was refused memory, and who serves
pub record Scene : Type 0 where
  pub standing : Standing
  pub owing : ℕ → Bool
  pub health : ℕ → Health

abbrev pub beginning : Scene
beginning = record { standing = start; owing = λ p. false; health = λ p. Serving }

abbrev pub is_refused_memory : ℕ × ℕ → Bool
is_refused_memory numbers = numbers.0 == 16

abbrev pub owing_after : (ℕ → Bool) → Made → ℕ → Bool
owing_after owing m p = cond (is_by p (validator_of m.call)) (is_refused_memory m.answer) (owing p)

abbrev pub health_after : (ℕ → Health) → Made → ℕ → Health
health_after health m p = cond (is_by p (validator_of m.call)) m.health (health p)

abbrev pub scene_next : Setting → Scene → Made → Scene
scene_next c s m = record { standing = next c s.standing m.call; owing = owing_after s.owing m; health = health_after s.health m }

abbrev pub scene_after : Setting → Scene → List Made → Scene
scene_after c s [] = s
scene_after c s (m ∷ ms) = scene_after c (scene_next c s m) ms

-- ---- requests

-- one call, made at event k
pub record IsOne (c : Setting) (s : Scene) (k p : ℕ) (request : Request) (m : Made) : Type 0 where
  pub event : m.event ≡ k
  pub by : validator_of m.call ≡ Some p
  pub met : IsMet c p (s.standing.nodes p) (s.health p) request m.answer m.call m.health
  pub spelled : (b : Body) → b ∈ bodies_by c (λ _. s.standing.nodes p) m.call → IsBody b

-- A request; where memory was refused to it, the validator is settled and it is made once more.
abbrev pub IsInsisted : Setting → Scene → ℕ → ℕ → Request → List Made → Type 0
IsInsisted c s k p request [] = ⊥
IsInsisted c s k p request (m ∷ []) = IsOne c s k p request m × (is_refused_memory m.answer ≡ false)
IsInsisted c s k p request (m ∷ settling ∷ []) = ⊥
IsInsisted c s k p request (m ∷ settling ∷ again ∷ []) = IsOne c s k p request m × (is_refused_memory m.answer ≡ true) × IsOne c (scene_next c s m) k p (Hands Settle) settling × IsOne c (scene_next c (scene_next c s m) settling) k p request again
IsInsisted c s k p request (m ∷ settling ∷ again ∷ more ∷ rest) = ⊥

-- A validator whose last call was refused memory is settled first.
abbrev pub IsTurn : Setting → Scene → ℕ → ℕ → Request → List Made → Type 0
IsTurn c s k p request ms = ((s.owing p ≡ false) × IsInsisted c s k p request ms)
    ⊎ ((s.owing p ≡ true) × ((settling : Made) × (rest : List Made) × (ms ≡ settling ∷ rest) × IsOne c s k p (Hands Settle) settling × IsInsisted c (scene_next c s settling) k p request rest))

-- A validator is opened again; where memory was refused to the opening, it is made once more.
abbrev pub IsReopened : Setting → Scene → ℕ → ℕ → List Made → Type 0
IsReopened c s k p [] = ⊥
IsReopened c s k p (m ∷ []) = IsOne c s k p Reopens m × (is_refused_memory m.answer ≡ false)
IsReopened c s k p (m ∷ again ∷ []) = IsOne c s k p Reopens m × (is_refused_memory m.answer ≡ true) × IsOne c (scene_next c s m) k p Reopens again × (is_refused_memory again.answer ≡ false)
IsReopened c s k p (m ∷ again ∷ more ∷ rest) = ⊥

-- settled, where it has a node
abbrev pub IsSettled : Setting → Scene → ℕ → ℕ → Health → List Made → Type 0
IsSettled c s k p Serving ms = IsTurn c s k p (Hands Settle) ms
IsSettled c s k p (Broken cut) ms = IsTurn c s k p (Hands Settle) ms
IsSettled c s k p (Closed cut) ms = ms ≡ []

-- A restart: a validator is opened again, and then settled.
abbrev pub IsRestart : Setting → Scene → ℕ → ℕ → List Made → Type 0
IsRestart c s k p ms = (opening : List Made) × (settling : List Made) × (ms ≡ opening ++ settling) × IsReopened c s k p opening × IsSettled c (scene_after c s opening) k p ((scene_after c s opening).health p) settling

-- one turn after the other, each of a validator
abbrev pub AreTurns : Setting → Scene → ℕ → List (ℕ × Request) → List Made → Type 0
AreTurns c s k [] ms = ms ≡ []
AreTurns c s k (r ∷ rs) ms = (first : List Made) × (rest : List Made) × (ms ≡ first ++ rest) × IsTurn c s k r.0 r.1 first × AreTurns c (scene_after c s first) k rs rest
