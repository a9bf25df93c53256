-- The rules: what each asks, and what it saves, changes, sends and schedules. Ln is line n of algorithm 1 of arXiv 1807.04938.
use Rattle.std.specs.Prelude.{◌≡◌, ℕ, suc, ◌^◌, Bool, true, false, cond, not, ◌&&◌, ◌||◌, Option, Some, None, List, [], ◌∷◌, ◌++◌, map, length, ◌==◌, nat_lt, nat_le, flat_map, find, option_to_list, option_and_then}
use Rattle.std.specs.List.{list_any}
use Rattle.std.specs.Str.{bytes_eq}
use Rattle.powers.specs.Power.{power, is_quorum, is_weak, proposer}
use Rattle.protocol.specs.Values.{Id, Value, items, id, value_eq, valid}
use Rattle.protocol.specs.Messages.{Step, Propose, Prevote, Precommit, step_eq, round_eq, Signed, Proposal, Bundle, Body, OfProposal, OfVote, Record, Act, Proposing, Prevoting, Precommitting, Own, Decided, own_body, below}
use Rattle.protocol.specs.Tally.{power_for, power_any, power_above, senders, is_vote_for}
use Rattle.protocol.specs.State.{Context, State, fresh, ValueAt, Stamp, Timeout, Rule, Start, PrevoteFresh, PrevoteAgain, AwaitPrevotes, Lock, PrecommitNil, AwaitPrecommits, Decide, DecideByBundle, SkipRound, TimedOut}

-- ---- what a rule asks

-- a round has begun, and is at this step
abbrev pub at_step : State → Step → Bool
at_step s step = s.begun && step_eq s.step step

-- a quorum of votes for this content
abbrev pub quorum_for : List ℕ → State → ℕ → Step → Option Id → Bool
quorum_for powers s round step content = is_quorum powers (power_for powers s.votes round step content)

-- a quorum of votes of any content
abbrev pub quorum_any : List ℕ → State → ℕ → Step → Bool
quorum_any powers s round step = is_quorum powers (power_any powers s.votes round step)

-- a weak quorum with messages of the round
abbrev pub weak_at : List ℕ → State → ℕ → Bool
weak_at powers s round = is_weak powers (power_above powers s.proposals s.votes round)

-- a proposal of this round, from its proposer
abbrev pub stands_at : List ℕ → State → ℕ → Proposal → Bool
stands_at powers s round q = (q.round == round) && (q.sender == proposer powers s.height round)

-- the round's proposer proposed this value, with any valid round
abbrev pub is_proposed : List ℕ → State → ℕ → Value → Bool
is_proposed powers s round v = list_any (λ (q : Proposal). stands_at powers s round q && value_eq q.value v) s.proposals

-- and with this valid round
abbrev pub is_proposed_from : List ℕ → State → ℕ → Option ℕ → Value → Bool
is_proposed_from powers s round valid_round v = list_any (λ (q : Proposal). stands_at powers s round q && round_eq q.valid_round valid_round && value_eq q.value v) s.proposals

-- no lock, or one on this value
abbrev pub lock_is : Option ValueAt → Value → Bool
lock_is None v = true
lock_is (Some l) v = value_eq l.value v

-- no lock, one up to this round, or one on this value
abbrev pub lock_allows : Option ValueAt → ℕ → Value → Bool
lock_allows None limit v = true
lock_allows (Some l) limit v = nat_le l.round limit || value_eq l.value v

abbrev pub holds_timed : State → Timeout → Step → Bool
-- L57
holds_timed s t Propose = at_step s Propose
-- L61
holds_timed s t Prevote = at_step s Prevote
-- L65
holds_timed s t Precommit = s.begun && nat_lt s.round 1000000

-- The rule may fire.
abbrev pub holds : Context → State → Rule → Bool
-- no round of this height has begun
holds g s Start = not s.begun
-- L22: a proposal without a valid round
holds g s (PrevoteFresh v) = at_step s Propose && is_proposed_from g.powers s s.round None v
-- L28: one with an earlier valid round r, whose prevotes are a quorum
holds g s (PrevoteAgain r v) = at_step s Propose && nat_lt r s.round && is_proposed_from g.powers s s.round (Some r) v && quorum_for g.powers s r Prevote (Some (id v))
-- L34: a quorum of prevotes
holds g s AwaitPrevotes = at_step s Prevote && quorum_any g.powers s s.round Prevote && not s.prevotes_awaited
-- L36: a quorum of prevotes for the proposed value
holds g s (Lock v) = s.begun && not (step_eq s.step Propose) && is_proposed g.powers s s.round v && quorum_for g.powers s s.round Prevote (Some (id v)) && valid s.delivered v && not s.value_found
-- L44: a quorum of prevotes for nothing
holds g s PrecommitNil = at_step s Prevote && quorum_for g.powers s s.round Prevote None
-- L47: a quorum of precommits
holds g s AwaitPrecommits = s.begun && quorum_any g.powers s s.round Precommit && not s.precommits_awaited
-- L49: a quorum of precommits for a value proposed in round r
holds g s (Decide r v) = nat_lt s.height (2 ^ 48) && is_proposed g.powers s r v && quorum_for g.powers s r Precommit (Some (id v)) && valid s.delivered v
-- L49, by a bundle: a quorum whose precommits for the value's id are in it, each with a right tag
holds g s (DecideByBundle b) = nat_lt s.height (2 ^ 48) && (b.height == s.height) && bytes_eq b.id (id b.value) && is_quorum g.powers (power g.powers (g.vouches b)) && valid s.delivered b.value
-- L55: messages of a weak quorum in a later round r
holds g s (SkipRound r) = s.begun && nat_lt s.round r && weak_at g.powers s r
-- L57, L61, L65: a timeout of this height and round
holds g s (TimedOut t) = (t.height == s.height) && (t.round == s.round) && holds_timed s t t.kind

-- ---- parts of what a firing does

-- what StartRound(r) saves, where the proposer picks this value unless it has a valid one
abbrev pub proposal_of : State → ℕ → Value → Option ValueAt → Record
proposal_of s r picked None = Own s.height r (Proposing None picked)
proposal_of s r picked (Some l) = Own s.height r (Proposing (Some l.round) l.value)

abbrev pub starts : Context → State → ℕ → Value → Option Record
starts g s r picked = cond (proposer g.powers s.height r == g.me) (Some (proposal_of s r picked s.valid_value)) None

abbrev pub start_timeout : Context → State → ℕ → Option Timeout
start_timeout g s r = cond (proposer g.powers s.height r == g.me) None (Some (record { kind = Propose; height = s.height; round = r }))

-- the round begins
abbrev pub started : State → ℕ → State
started s r = record s { begun = true; round = r; step = Propose; prevotes_awaited = false; value_found = false; precommits_awaited = false }

-- the next height begins
abbrev pub decided : State → Value → State
decided s v = fresh (s.delivered ++ items v) (suc s.height)

-- the stamp is validator i's of this round and id
abbrev pub is_stamp : ℕ → Id → ℕ → Stamp → Bool
is_stamp r x i stamp = (stamp.round == r) && bytes_eq stamp.id x && (stamp.signed.sender == i)

-- a precommit of the certificate: the own one with its tags made anew, another's as it arrived
abbrev pub signed_by : Context → State → ℕ → Id → ℕ → List Signed
signed_by g s r x i = cond (senders s.votes (is_vote_for r Precommit (Some x)) i)
    (cond (i == g.me) (record { sender = i; tags = g.own_tags s.height r x } ∷ []) (map (λ (stamp : Stamp). stamp.signed) (option_to_list (find (is_stamp r x i) s.stamps)))) []

-- the certificate: the kept precommits for x, in order of sender, each once
abbrev pub certificate : Context → State → ℕ → Id → List Signed
certificate g s r x = flat_map (signed_by g s r x) (below (length g.powers))

-- the id, or nil
abbrev pub content_if : Bool → Value → Option Id
content_if agreed v = cond agreed (Some (id v)) None

-- ---- what a firing does: one line for each rule

-- The variables after a firing, before its message is kept; the record that it saves, by the value that a proposer picks; the timeout that it schedules.
pub record Effect : Type 0 where
  pub next : State
  pub saves : Context → Value → Option Record
  pub schedules : Context → Option Timeout

-- the own vote of the present round, and its step
abbrev pub says : State → Step → (Context → Act) → Effect
says s step act = record { next = record s { step = step }; saves = λ g picked. Some (Own s.height s.round (act g)); schedules = λ g. None }

-- the present round's timeout of this kind
abbrev pub waits : State → Step → State → Effect
waits s kind next = record { next = next; saves = λ g picked. None; schedules = λ g. Some (record { kind = kind; height = s.height; round = s.round }) }

-- The value is found valid in this round. At its prevote a validator also locks it, and precommits it.
abbrev pub locks : State → Value → Effect
locks s v =
    let found = Some (record { round = s.round; value = v }) in
    let next = record s { lock = cond (step_eq s.step Prevote) found s.lock; step = Precommit; valid_value = found; value_found = true } in
    record { next = next; saves = λ g picked. cond (step_eq s.step Prevote) (Some (Own s.height s.round (Precommitting (Some v)))) None; schedules = λ g. None }

-- StartRound(r), L11 to L21: the proposer proposes, the others wait for it
abbrev pub begins : State → ℕ → Effect
begins s r = record { next = started s r; saves = λ g picked. starts g s r picked; schedules = λ g. start_timeout g s r }

-- the value is delivered by this bundle, and the next height begins
abbrev pub decides : State → Value → (Context → Bundle) → Effect
decides s v bundle = record { next = decided s v; saves = λ g picked. Some (Decided (bundle g)); schedules = λ g. None }

abbrev pub times_out : State → Step → Effect
times_out s Propose = says s Prevote (λ g. Prevoting None)
times_out s Prevote = says s Precommit (λ g. Precommitting None)
times_out s Precommit = begins s (suc s.round)

abbrev pub effect : State → Rule → Effect
effect s Start = begins s 0
effect s (PrevoteFresh v) = says s Prevote (λ g. Prevoting (content_if (valid s.delivered v && g.genuine v && lock_is s.lock v) v))
effect s (PrevoteAgain r v) = says s Prevote (λ g. Prevoting (content_if (valid s.delivered v && lock_allows s.lock r v) v))
effect s AwaitPrevotes = waits s Prevote (record s { prevotes_awaited = true })
effect s (Lock v) = locks s v
effect s PrecommitNil = says s Precommit (λ g. Precommitting None)
effect s AwaitPrecommits = waits s Precommit (record s { precommits_awaited = true })
effect s (Decide r v) = decides s v (λ g. record { height = s.height; sender = g.me; round = r; id = id v; value = v; precommits = certificate g s r (id v) })
effect s (DecideByBundle b) = decides s b.value (λ g. record b { sender = g.me; precommits = g.certified b })
effect s (SkipRound r) = begins s r
effect s (TimedOut t) = times_out s t.kind

-- the record that the firing saves, if any
abbrev pub saved : Context → Value → State → Rule → Option Record
saved g picked s k = (effect s k).saves g picked

-- the variables after the firing, before its message is kept
abbrev pub changed : State → Rule → State
changed s k = (effect s k).next

-- the timeout that the firing schedules, if any
abbrev pub scheduled : Context → State → Rule → Option Timeout
scheduled g s k = (effect s k).schedules g

-- a proposal or a vote joins the kept ones
abbrev pub keeping : State → Body → State
keeping s (OfProposal q) = record s { proposals = s.proposals ++ q ∷ [] }
keeping s (OfVote v) = record s { votes = s.votes ++ v ∷ [] }
keeping s _ = s

abbrev pub keeping_own : State → Option Body → State
keeping_own s None = s
keeping_own s (Some b) = keeping s b

-- the bodies that a record lets its validator send
abbrev pub released_by : ℕ → Option Record → Option Body
released_by p wrote = option_and_then (own_body p) wrote

-- the variables after the firing of a rule that holds: the own message is kept as it is released
abbrev pub fired : Context → Value → State → Rule → State
fired g picked s k = keeping_own (changed s k) (released_by g.me (saved g picked s k))
