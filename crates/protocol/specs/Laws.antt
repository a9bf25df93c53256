-- The theorems.
use Rattle.std.specs.Prelude.{◌≡◌, ℕ, suc, ◌+◌, ◌*◌, ◌^◌, ◌<◌, ◌≤◌, Result, Ok, ◌≢◌, Bool, true, false, cond, not, ◌&&◌, Option, Some, None, ◌⊎◌, ◌↔◌, List, [], ◌∷◌, ◌++◌, length, map, flat_map, reverse}
use Rattle.std.specs.List.{AllByRecursion}
use Rattle.powers.specs.Power.{FewLie, IsQuorum}
use Rattle.transactions.specs.declared.fault.Fault.{Fault}
use Rattle.messages.specs.Grammar.{body_spelling, IsBody}
use Rattle.messages.specs.Framing.{message_of, frame_spelling, IsMessage, SpellsFrame}
use Rattle.protocol.specs.Values.{Id, Value, id, Item, of, fresh, in_turn}
use Rattle.protocol.specs.Tags.{Setting, right}
use Rattle.protocol.specs.Messages.{◌∈◌, Body, sender_of, tagged, Message, Bundle, Vote, OfVote, prevote, precommit, Step, Precommit, Precommitting, step_number, step_of, Record, Own, Decided}
use Rattle.protocol.specs.Restart.{height_of, delivered_of, lock_of, last_place}
use Rattle.protocol.specs.State.{State, Node, Timeout, DecideByBundle, TimedOut}
use Rattle.protocol.specs.Rules.{holds}
use Rattle.protocol.specs.Refusals.{Refusal, RoundLimit, answer, refusal_of, refusal_number, context, first_cause, judge_causes, named_senders, bundle_senders}
use Rattle.protocol.specs.Calls.{timeout_answer}
use Rattle.protocol.specs.Arrivals.{arrival, nothing}
use Rattle.protocol.specs.World.{World, Event, Comes, Fires, beginning, happens, is_bundles, run, tried, delivered}
use Rattle.protocol.specs.History.{Input, Settle, Given, Due, taken, after, replay}
use Rattle.protocol.specs.Effects.{along, bodies_of, timeouts_of, bodies_taken, timeouts_after}
use Rattle.protocol.specs.Reports.{Told, Answered, bodies, by_event, tells, decisions_in, decisions, account, unreported, report}
use Rattle.protocol.specs.Premises.{Honesty, Unforged, Distinct, IsCorrect, IsSaved, Begins}

-- the place of a message within its height
abbrev pub place : Step → ℕ → ℕ
place step round = 3 * round + step_number step

abbrev pub IsAfter : Option (ℕ × Step) → ℕ → Step → Type 0
IsAfter None round step = Unit {0}
IsAfter (Some last) round step = place last.1 last.0 < place step round

-- Within each height the (round, step) pairs grow, and each record is of the height of the decisions before it.
abbrev pub Grows : List Record → Type 0
Grows [] = Unit {0}
Grows (Own h r act ∷ rest) = (h ≡ height_of rest) × IsAfter (last_place rest) r (step_of act) × Grows rest
Grows (Decided b ∷ rest) = (b.height ≡ height_of rest) × Grows rest

-- At every validator, after every run, the delivered list, the height and the lock are as its journal tells: the lock is its last own precommit for a value of this height.
abbrev pub LockLaw : Type 0
LockLaw = (c : Setting) (events : List Event) (p : ℕ) →
    let n : Node = (run c (beginning c) events).nodes p in
    (n.state.delivered ≡ delivered_of n.journal) × (n.state.height ≡ height_of n.journal) × (n.state.lock ≡ lock_of n.journal)

-- some quorum, each correct member of which has saved this vote of its own
pub record QuorumSaved (c : Setting) (h : Honesty) (w : World) (vote : ℕ → Vote) : Type 0 where
  pub members : ℕ → Bool
  pub enough : IsQuorum c.powers members
  pub saved : (i : ℕ) → IsCorrect c h i → members i ≡ true → IsSaved i (OfVote (vote i)) (w.nodes i).journal

-- the own votes among the kept ones are the journal's, and its precommits for values had their quorums
pub record VotesStand (c : Setting) (h : Honesty) (w : World) (p : ℕ) : Type 0 where
  pub kept : (v : Vote) → v ∈ (w.nodes p).state.votes → v.sender ≡ p → IsSaved p (OfVote v) (w.nodes p).journal
  pub followed : (height round : ℕ) (v : Value) → Own height round (Precommitting (Some v)) ∈ (w.nodes p).journal → QuorumSaved c h w (λ i. prevote height round i (Some (id v)))

-- Within a height a validator's own messages grow in round and step, and each vote that was released is in its sender's journal: so of one sender, round and step there is one.
-- Where nothing is forged, the own votes that a correct validator keeps are its journal's too, and each of its precommits for a value followed a quorum of prevotes for the value in that round.
abbrev pub OneVoteLaw : Type 0
OneVoteLaw = (c : Setting) (events : List Event) →
    let w : World = run c (beginning c) events in
    ((p : ℕ) → Grows (w.nodes p).journal)
    × ((v : Vote) → OfVote v ∈ w.released → IsSaved v.sender (OfVote v) (w.nodes v.sender).journal)
    × ((v u : Vote) → OfVote v ∈ w.released → OfVote u ∈ w.released → v.sender ≡ u.sender → v.height ≡ u.height → v.round ≡ u.round → v.step ≡ u.step → v ≡ u)
    × ((h : Honesty) → Unforged c h (beginning c) events → (p : ℕ) → IsCorrect c h p → VotesStand c h w p)

-- Where a quorum precommitted x in a round of a height, no later round of the height has a quorum of prevotes for another id.
abbrev pub NoLaterQuorumLaw : Type 0
NoLaterQuorumLaw = (c : Setting) (h : Honesty) (events : List Event) → FewLie c.powers h.liars → Unforged c h (beginning c) events
    → (height round later : ℕ) (x y : Id) → round < later
    → QuorumSaved c h (run c (beginning c) events) (λ i. precommit height round i (Some x))
    → QuorumSaved c h (run c (beginning c) events) (λ i. prevote height later i (Some y)) → x ≡ y

abbrev pub Comparable : List Item → List Item → Type 0
Comparable a b = Begins a b ⊎ Begins b a

-- at two moments of one run
abbrev pub AgreeLaw : Type 0
AgreeLaw = (c : Setting) (h : Honesty) (early late : List Event) → FewLie c.powers h.liars → Unforged c h (beginning c) (early ++ late) → Distinct c h (early ++ late)
    → (p q : ℕ) → IsCorrect c h p → IsCorrect c h q → Comparable (delivered (run c (beginning c) early) p) (delivered (run c (beginning c) (early ++ late)) q)

-- a validator's earlier list begins its later one
abbrev pub LastsLaw : Type 0
LastsLaw = (c : Setting) (early late : List Event) (p : ℕ) → Begins (delivered (run c (beginning c) early) p) (delivered (run c (beginning c) (early ++ late)) p)

-- a correct client's items begin what it sent
abbrev pub SentLaw : Type 0
SentLaw = (c : Setting) (h : Honesty) (events : List Event) → FewLie c.powers h.liars → Unforged c h (beginning c) events → Distinct c h events
    → (p : ℕ) → IsCorrect c h p → (client : ℕ) → h.clients client ≡ true → Begins (of client (delivered (run c (beginning c) events) p)) ((run c (beginning c) events).sent client)

abbrev pub FifoLaw : Type 0
FifoLaw = (c : Setting) (events : List Event) (p client : ℕ) → in_turn fresh (of client (delivered (run c (beginning c) events) p)) ≡ true

-- Whatever bytes liars with less than a third of the power send, whatever is lost, repeated or reordered, whichever timeouts fire and validators restart:
-- of two correct validators' delivered lists one begins the other; in each, a session's transactions are its numbers from one, each once, nothing after its close, and a client's sessions stand in order;
-- and a correct client's begin what it sent.
abbrev pub BeginsLaw : Type 0
BeginsLaw = (c : Setting) (h : Honesty) (early late : List Event) → FewLie c.powers h.liars → Unforged c h (beginning c) (early ++ late) → Distinct c h (early ++ late)
    → (p : ℕ) → IsCorrect c h p →
    Begins (delivered (run c (beginning c) early) p) (delivered (run c (beginning c) (early ++ late)) p)
    × ((q : ℕ) → IsCorrect c h q → Comparable (delivered (run c (beginning c) early) p) (delivered (run c (beginning c) (early ++ late)) q))
    × ((client : ℕ) → in_turn fresh (of client (delivered (run c (beginning c) (early ++ late)) p)) ≡ true)
    × ((client : ℕ) → h.clients client ≡ true → Begins (of client (delivered (run c (beginning c) (early ++ late)) p)) ((run c (beginning c) (early ++ late)).sent client))

-- Each decision's id is its value's, and its certificate is a quorum: of the senders that it names, and, for a validator, of those whose tags in it are right for this one.
abbrev pub CertificateLaw : Type 0
CertificateLaw = (c : Setting) (events : List Event) (p : ℕ) (b : Bundle) → Decided b ∈ ((run c (beginning c) events).nodes p).journal
    → (b.id ≡ id b.value) × IsQuorum c.powers (named_senders b) × (p < length c.powers → IsQuorum c.powers (bundle_senders c p b))

-- What is refused changes nothing and releases nothing.
abbrev pub RefusedLaw : Type 0
RefusedLaw = (c : Setting) (p : ℕ) (n : Node) (bytes : List ℕ) (r : Refusal) → answer c p n bytes ≡ Some r → arrival c p n bytes ≡ nothing n

-- Nothing stands against a bundle of the present height exactly where its rule may fire.
abbrev pub JudgeLaw : Type 0
JudgeLaw = (c : Setting) (p : ℕ) (s : State) (b : Bundle) → s.height < 2 ^ 48 → b.height ≡ s.height
    → (first_cause (judge_causes c p s.delivered b) ≡ None) ↔ (holds (context c p) s (DecideByBundle b) ≡ true)

-- the event of what a call hands to a node
abbrev pub events_of : ℕ → Input → List Event
events_of p Settle = []
events_of p (Given bytes) = Comes p bytes ∷ []
events_of p (Due t) = Fires p (TimedOut t) ∷ []

-- the events of a call: its input's, and then the firings of the first enabled rules, this many times
abbrev pub call_events : Setting → ℕ → Node → Input → ℕ → List Event
call_events c p n input times = events_of p input ++ map (Fires p) (along (λ m k. k ∷ []) c p times (taken c p n input))

-- the timeouts that a run's events schedule: firings alone do
abbrev pub scheduled_by : Setting → World → Event → List Timeout
scheduled_by c w (Fires p k) = cond (not (is_bundles k) && holds (context c p) (w.nodes p).state k) (timeouts_of c p (w.nodes p) k) []
scheduled_by c w _ = []

abbrev pub schedule_of : Setting → World → List Event → List Timeout
schedule_of c w [] = []
schedule_of c w (e ∷ es) = scheduled_by c w e ++ schedule_of c (happens c w e) es

-- These events leave this node, and the others and what clients sent as they were; they release these bodies, which stand the newest first, and schedule these timeouts.
pub record Leaves (c : Setting) (w : World) (p : ℕ) (events : List Event) (n : Node) (released : List Body) (timeouts : List Timeout) : Type 0 where
  pub node : (run c w events).nodes p ≡ n
  pub others : (q : ℕ) → q ≢ p → (run c w events).nodes q ≡ w.nodes q
  pub sent : (run c w events).sent ≡ w.sent
  pub released_are : (run c w events).released ≡ released ++ w.released
  pub scheduled_are : schedule_of c w events ≡ timeouts

-- What a call does to a node, releases and schedules is what its events do in a run.
abbrev pub HistoryLaw : Type 0
HistoryLaw = (c : Setting) (w : World) (p : ℕ) (input : Input) (times : ℕ) →
    let n : Node = taken c p (w.nodes p) input in
    Leaves c w p (call_events c p (w.nodes p) input times) (after c p (w.nodes p) input times) (reverse (along (bodies_of c p) c p times n) ++ bodies_taken c p (w.nodes p) input) (timeouts_after c p (w.nodes p) input times)

-- the events of a history, whose newest call stands first
abbrev pub history_events : Setting → ℕ → Node → List (Input × ℕ) → List Event
history_events c p base [] = []
history_events c p base (e ∷ earlier) = history_events c p base earlier ++ call_events c p (replay c p base earlier) e.0 e.1

-- So the node of every history is one that a run leaves, with all other nodes as they were.
abbrev pub ReplayLaw : Type 0
ReplayLaw = (c : Setting) (w : World) (p : ℕ) (history : List (Input × ℕ)) →
    let late : World = run c w (history_events c p (w.nodes p) history) in
    (late.nodes p ≡ replay c p (w.nodes p) history) × ((q : ℕ) → q ≢ p → late.nodes q ≡ w.nodes q) × (late.sent ≡ w.sent)

-- the precommit timeout of the present height and round
pub record IsRoundEnd (s : State) (t : Timeout) : Type 0 where
  pub height : t.height ≡ s.height
  pub round : t.round ≡ s.round
  pub kind : t.kind ≡ Precommit
  pub begun : s.begun ≡ true

-- A timeout is refused, by the limit of rounds, exactly where it is the precommit timeout of the present round and its rule doesn't hold. Where its rule doesn't hold nothing happens.
abbrev pub TimeoutLaw : Type 0
TimeoutLaw = (c : Setting) (p : ℕ) (n : Node) (t : Timeout) →
    ((r : Refusal) → timeout_answer n.state t ≡ Some r → (r ≡ RoundLimit) × IsRoundEnd n.state t × (holds (context c p) n.state (TimedOut t) ≡ false))
    × (IsRoundEnd n.state t → holds (context c p) n.state (TimedOut t) ≡ false → timeout_answer n.state t ≡ Some RoundLimit)
    × (holds (context c p) n.state (TimedOut t) ≡ false → tried c p n (TimedOut t) ≡ nothing n)

-- Each refusal of bytes, or of a timeout, is told at its event and validator, however bytes are read.
abbrev pub RefusalsTold : (List ℕ → Result Message Fault) → Setting → Type 0
RefusalsTold read c = (early late : List Event) (p : ℕ) (r : Refusal) →
    let n : Node = (run c (beginning c) early).nodes p in
    let told : Told = record { event = suc (length early); validator = Some p; what = Answered (refusal_number r) } in
    ((bytes : List ℕ) → refusal_of c p n (read bytes) ≡ Some r → told ∈ report read c (beginning c) (early ++ Comes p bytes ∷ late))
    × ((t : Timeout) → timeout_answer n.state t ≡ Some r → told ∈ report read c (beginning c) (early ++ Fires p (TimedOut t) ∷ late))

-- The bodies of a report are the world's released ones: in it the newest event's come first.
-- A journal's decisions are, in order, those that the report tells of its validator, and those that a restart's cut added; so where no cut added one, they are those told.
abbrev pub ReportLaw : Type 0
ReportLaw = (read : List ℕ → Result Message Fault) (c : Setting) (events : List Event) →
    ((run c (beginning c) events).released ≡ flat_map bodies (reverse (by_event (tells read) 1 c (beginning c) events)))
    × ((p : ℕ) → decisions_in ((run c (beginning c) events).nodes p).journal ≡ decisions p (account read c (beginning c) events))
    × ((p : ℕ) → decisions p (unreported c (beginning c) events) ≡ [] → decisions_in ((run c (beginning c) events).nodes p).journal ≡ decisions p (report read c (beginning c) events))
    × RefusalsTold read c

-- A body whose fields are in range is a message with its tags, for 1 to 128 validators: its frame is read again, and each receiver finds its tag right.
abbrev pub TaggedLaw : Type 0
TaggedLaw = (c : Setting) (b : Body) → 1 ≤ length c.powers → length c.powers ≤ 128 → IsBody b →
    IsMessage (tagged c b)
    × (message_of (frame_spelling (tagged c b)) ≡ Ok (tagged c b))
    × ((q : ℕ) → q < length c.powers → right c q (sender_of b) (body_spelling b) (tagged c b).tags ≡ true)

-- Bytes are read as a message exactly where they spell its frame.
abbrev pub FrameLaw : Type 0
FrameLaw = (bytes : List ℕ) (m : Message) → AllByRecursion (λ b. b < 256) bytes → (message_of bytes ≡ Ok m) ↔ SpellsFrame bytes m
