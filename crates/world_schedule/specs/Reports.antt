-- What a world's report tells, over the calls that were made.
use Rattle.std.specs.Prelude.{◌≡◌, ◌⊎◌, ℕ, suc, Bool, true, false, not, ◌&&◌, ◌||◌, cond, Option, Some, None, List, [], ◌∷◌, ◌++◌, map, flat_map, length, drop, ◌==◌}
use Rattle.std.specs.List.{list_any, slice_get}
use Rattle.std.specs.Str.{bytes_eq}
use Rattle.messages.specs.Grammar.{body_spelling}
use Rattle.protocol.specs.Values.{Item, fresh, left_after}
use Rattle.protocol.specs.declared.standing.Standing.{Standing as Reached}
use Rattle.protocol.specs.Tags.{Setting}
use Rattle.protocol.specs.Messages.{◌∈◌, Body, OfTx, Bundle}
use Rattle.protocol.specs.State.{Node}
use Rattle.protocol.specs.World.{next_item}
use Rattle.protocol.specs.Effects.{bundles_in}
use Rattle.world_schedule.specs.Calls.{Call, Sent, Began, Handed, Asked, Resent, Reopened, moved, all_moved, adding, bodies_by, bodies, unopened, node_after, sent}
use Rattle.world_schedule.specs.Health.{Health}
use Rattle.world_schedule.specs.declared.report.What.{What}
use Rattle.world_schedule.specs.declared.report.What.TheVariants.{Answered, Decided, Released}
use Rattle.world_schedule.specs.declared.report.Told.{Told}
use Rattle.world_schedule.specs.declared.report.Answer.{Answer}
use Rattle.world_schedule.specs.declared.report.Decision.{Decision}
use Rattle.world_schedule.specs.declared.report.Release.{Release}
use Rattle.world_schedule.specs.declared.report.End.{End}
use Rattle.world_schedule.specs.declared.report.Report.{Report}

pub record Made : Type 0 where
  pub event : ℕ  -- at which it was made
  pub call : Call
  pub answer : ℕ × ℕ  -- of a validator's call: the numbers of its answer
  pub health : Health  -- of the validator, after it

abbrev pub calls_of : List Made → List Call
calls_of ms = map (λ (m : Made). m.call) ms

-- ---- numbered messages

-- a message of these bytes has a number
abbrev pub is_numbered : List Body → Body → Bool
is_numbered numbered b = list_any (λ known. bytes_eq (body_spelling known) (body_spelling b)) numbered

-- those that are given one
abbrev pub newly : List Body → List Body → List Body
newly numbered [] = []
newly numbered (b ∷ bs) = cond (is_numbered numbered b) (newly numbered bs) (b ∷ newly (numbered ++ b ∷ []) bs)

-- a client's message
abbrev pub said_as : Item → Body
said_as t = OfTx (record { client = t.client; session = t.session; number = t.number; op = t.op; tags = [] })

-- ---- how a world stands between calls

pub record Standing : Type 0 where
  pub nodes : ℕ → Node
  pub sent : ℕ → List Item
  pub begun : ℕ → Bool  -- a session was begun, of which nothing is sent yet
  pub numbered : List Body  -- the messages by their numbers

abbrev pub start : Standing
start = record { nodes = unopened; sent = λ client. []; begun = λ client. false; numbered = [] }

-- where a client stands that began the session after this one
abbrev pub begun_after : Reached → Reached
begun_after r = record { session = suc r.session; last = 0; closed = false }

-- where a client stands after what it sent, and after the beginning of a session
abbrev pub stands_in : Standing → ℕ → Reached
stands_in s client = cond (s.begun client && (left_after fresh (s.sent client)).closed) (begun_after (left_after fresh (s.sent client))) (left_after fresh (s.sent client))

-- a client may send nothing until it begins its next session
abbrev pub is_shut : Standing → ℕ → Bool
is_shut s client = (stands_in s client).closed

abbrev pub beginning_by : (ℕ → Bool) → Call → ℕ → Bool
beginning_by old (Began client) k = (k == client) || old k
beginning_by old (Sent client op) k = not (k == client) && old k
beginning_by old call k = old k

-- what a call says: what a client sends, or what a validator releases
abbrev pub said : Setting → Standing → Call → List Body
said c s (Sent client op) = said_as (next_item client op (s.sent client)) ∷ []
said c s call = bodies_by c s.nodes call

abbrev pub next : Setting → Standing → Call → Standing
next c s call = record { nodes = all_moved c s.nodes call; sent = λ client. adding client (s.sent client) call; begun = beginning_by s.begun call; numbered = s.numbered ++ newly s.numbered (said c s call) }

abbrev pub standing_after : Setting → Standing → List Call → Standing
standing_after c s [] = s
standing_after c s (call ∷ calls) = standing_after c (next c s call) calls

-- ---- what is told of a call

abbrev pub validator_of : Call → Option ℕ
validator_of (Sent client op) = None
validator_of (Began client) = None
validator_of (Handed p input times) = Some p
validator_of (Asked p) = Some p
validator_of (Resent p) = Some p
validator_of (Reopened p cut) = Some p

-- the decisions that a call adds to a journal
abbrev pub decided_in : Setting → ℕ → Node → Call → List Bundle
decided_in c p n call = drop (length (bundles_in n.journal)) (bundles_in (moved c p n call).journal)

abbrev pub decision_of : Bundle → Decision
decision_of b = record { height = b.height; round = b.round; id = b.id }

-- a validator's answer and decisions
abbrev pub told_of_validator : Setting → Standing → Made → Option ℕ → List What
told_of_validator c s m None = []
told_of_validator c s m (Some p) = Answered (record { number = m.answer.0; inner = m.answer.1 }) ∷ map (λ (b : Bundle). Decided (decision_of b)) (decided_in c p (s.nodes p) m.call)

-- messages, numbered from this number on
abbrev pub released_from : ℕ → List Body → List What
released_from number [] = []
released_from number (b ∷ bs) = Released (record { number = number; body = b }) ∷ released_from (suc number) bs

-- the answer, the decisions and the messages, in this order
abbrev pub told_of_call : Setting → Standing → Made → List What
told_of_call c s m = told_of_validator c s m (validator_of m.call) ++ released_from (length s.numbered) (newly s.numbered (said c s m.call))

abbrev pub noted : Made → List What → List Told
noted m whats = map (λ what. record { event = m.event; validator = validator_of m.call; what = what }) whats

-- ---- the report

abbrev pub told : Setting → Standing → List Made → List Told
told c s [] = []
told c s (m ∷ ms) = noted m (told_of_call c s m) ++ told c (next c s m.call) ms

abbrev pub end_of : Setting → List Call → ℕ → End
end_of c calls p = let n : Node = node_after c p calls in record { validator = p; height = n.state.height; round = n.state.round; delivered = n.state.delivered }

-- The report of these calls, with an end for each of these validators.
abbrev pub report : Setting → List ℕ → List Made → Report
report c validators ms = record { told = told c start ms; ends = map (end_of c (calls_of ms)) validators }

-- ---- what it comes to

abbrev pub decision_in : What → List Decision
decision_in (Decided d) = d ∷ []
decision_in _ = []

abbrev pub is_by : ℕ → Option ℕ → Bool
is_by p None = false
is_by p (Some q) = p == q

abbrev pub answer_in : What → List Answer
answer_in (Answered a) = a ∷ []
answer_in _ = []

-- the answers that are told of validator p, in order
abbrev pub answers_told : ℕ → List Told → List Answer
answers_told p ts = flat_map (λ (t : Told). cond (is_by p t.validator) (answer_in t.what) []) ts

abbrev pub answer_of : Made → Answer
answer_of m = record { number = m.answer.0; inner = m.answer.1 }

-- those that its calls gave
abbrev pub answers_of : ℕ → List Made → List Answer
answers_of p ms = flat_map (λ (m : Made). cond (is_by p (validator_of m.call)) (answer_of m ∷ []) []) ms

-- the decisions that are told of validator p, in order
abbrev pub decisions_told : ℕ → List Told → List Decision
decisions_told p ts = flat_map (λ (t : Told). cond (is_by p t.validator) (decision_in t.what) []) ts

abbrev pub message_in : What → List Body
message_in (Released r) = r.body ∷ []
message_in _ = []

-- the messages that are told, in order
abbrev pub messages_told : List Told → List Body
messages_told ts = flat_map (λ (t : Told). message_in t.what) ts

-- one of the messages has the bytes of this body
abbrev pub IsAmong : List Body → Body → Type 0
IsAmong messages b = is_numbered messages b ≡ true

-- what a client sent in these calls
abbrev pub IsSaid : List Call → Body → Type 0
IsSaid calls b = (client : ℕ) × (t : Item) × (t ∈ sent client calls) × (b ≡ said_as t)

-- the message of this number has this body
abbrev pub IsPlaced : List Body → Release → Type 0
IsPlaced messages r = slice_get messages r.number ≡ Some r.body

-- each of these messages has other bytes than the known ones and those before it
abbrev pub AreNew : List Body → List Body → Type 0
AreNew known [] = Unit {0}
AreNew known (b ∷ bs) = (is_numbered known b ≡ false) × AreNew (known ++ b ∷ []) bs

-- A report tells each answer of a validator's calls and each decision in its journal, in order; and each message that was released or sent, once, under its place among the messages, and no other.
pub record TellsAll (c : Setting) (ms : List Made) : Type 0 where
  pub answers : (p : ℕ) → answers_told p (told c start ms) ≡ answers_of p ms
  pub decisions : (p : ℕ) → decisions_told p (told c start ms) ≡ map decision_of (bundles_in (node_after c p (calls_of ms)).journal)
  pub messages : messages_told (told c start ms) ≡ (standing_after c start (calls_of ms)).numbered
  pub once : AreNew [] (messages_told (told c start ms))
  pub places : (t : Told) (r : Release) → t ∈ told c start ms → t.what ≡ Released r → IsPlaced (messages_told (told c start ms)) r
  pub each_released : (b : Body) → b ∈ bodies c unopened (calls_of ms) → IsAmong (messages_told (told c start ms)) b
  pub each_sent : (client : ℕ) (t : Item) → t ∈ sent client (calls_of ms) → IsAmong (messages_told (told c start ms)) (said_as t)
  pub no_other : (b : Body) → b ∈ messages_told (told c start ms) → (b ∈ bodies c unopened (calls_of ms)) ⊎ IsSaid (calls_of ms) b

abbrev pub ReportLaw : Type 0
ReportLaw = (c : Setting) (ms : List Made) → TellsAll c ms
