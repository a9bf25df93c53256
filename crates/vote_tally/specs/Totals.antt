-- Running totals: who spoke on each topic, and the power of these.
use Rattle.std.specs.Prelude.{◌≡◌, ℕ, ◌<◌, ◌≤◌, ◌^◌, ◌==◌, nat_lt, nat_le, count_by, Bool, false, cond, not, ◌&&◌, List, [], ◌∷◌, ◌++◌, length, Option, Some, None, unwrap_or, IsSome}
use Rattle.std.specs.Int.{bit_at}
use Rattle.std.specs.List.{list_any}
use Rattle.std.specs.BTreeMap as tree
use Rattle.std.specs.BTreeMap.{BTreeMap}
use Rattle.std.specs.declared.cmp.Ordering.{Ordering}
use Rattle.messages.specs.Equality.{content_eq}
use Rattle.messages.specs.declared.body.Step.{Step}
use Rattle.messages.specs.declared.body.Step.TheVariants as steps
use Rattle.powers.specs.Power.{power, total, is_quorum}
use Rattle.protocol.specs.Messages.{Proposal, Vote}
use Rattle.protocol.specs.declared.types.Step.TheVariants as round_steps
use Rattle.protocol.specs.Tally.{is_vote, is_vote_for, senders, proposers, speakers}
use Rattle.vote_tally.specs.declared.voters.Voters.{Voters}
use Rattle.vote_tally.specs.declared.totals.Topic.{Topic}
use Rattle.vote_tally.specs.declared.totals.Topic.TheVariants.{Round, Prevotes, Precommits, PrevotesFor, PrecommitsFor, Proposals, SecondProposals}
use Rattle.vote_tally.specs.declared.totals.Total.{Total}
use Rattle.vote_tally.specs.contracts.totals.TopicOrd.TheImpl as topic_ord

-- validator i is in the set
abbrev pub has : Voters → ℕ → Bool
has v i = nat_lt i 128 && (bit_at v.bits i == 1)

-- what every list of powers keeps: masks have room for its validators, and no sum overflows
pub record IsSmall (powers : List ℕ) : Type 0 where
  pub few : length powers ≤ 128
  pub fits : total powers < 2 ^ 39

-- the total's power is its voters'
abbrev pub IsTotal : List ℕ → Total → Type 0
IsTotal powers t = t.power ≡ power powers (has t.voters)

abbrev pub topic_cmp : Topic → Topic → Ordering
topic_cmp = (topic_ord.ghosts).cmp

abbrev pub same_topic : Topic → Topic → Bool
same_topic (Round r) (Round s) = r == s
same_topic (Prevotes r) (Prevotes s) = r == s
same_topic (Precommits r) (Precommits s) = r == s
same_topic (PrevotesFor r x) (PrevotesFor s y) = (r == s) && content_eq x y
same_topic (PrecommitsFor r x) (PrecommitsFor s y) = (r == s) && content_eq x y
same_topic (Proposals r) (Proposals s) = r == s
same_topic (SecondProposals r) (SecondProposals s) = r == s
same_topic _ _ = false

-- the votes of a round and step
abbrev pub topic_of : ℕ → Step → Topic
topic_of round steps.Prevote = Prevotes round
topic_of round steps.Precommit = Precommits round

-- for a content
abbrev pub topic_for : ℕ → Step → Option (List ℕ) → Topic
topic_for round steps.Prevote content = PrevotesFor round content
topic_for round steps.Precommit content = PrecommitsFor round content

-- nobody's total
abbrev pub nothing : Total
nothing = record { voters = record { bits = 0 }; power = 0 }

-- the total of a topic, which is nobody's where the map has none
abbrev pub total_at : BTreeMap Topic Total → Topic → Total
total_at totals topic = unwrap_or (tree.get topic_cmp totals topic) nothing

-- each total is its voters'
abbrev pub AreTotals : List ℕ → BTreeMap Topic Total → Type 0
AreTotals powers totals = (t : Topic) → IsTotal powers (total_at totals t)

abbrev pub HasRoom : BTreeMap Topic Total → Topic → Type 0
HasRoom totals t = IsSome (tree.get topic_cmp totals t)

pub record HasRoomForVote (totals : BTreeMap Topic Total) (v : Vote) : Type 0 where
  pub round : HasRoom totals (Round v.round)
  pub step : HasRoom totals (topic_of v.round v.step)
  pub content : HasRoom totals (topic_for v.round v.step v.content)

pub record HasRoomForProposal (totals : BTreeMap Topic Total) (r : ℕ) : Type 0 where
  pub round : HasRoom totals (Round r)
  pub one : HasRoom totals (Proposals r)
  pub two : HasRoom totals (SecondProposals r)

-- the vote is a precommit for an id that has a quorum of precommits in its round
abbrev pub is_decided : List ℕ → BTreeMap Topic Total → Step → ℕ → Option (List ℕ) → Bool
is_decided powers totals steps.Precommit round (Some x) = is_quorum powers (total_at totals (PrecommitsFor round (Some x))).power
is_decided powers totals steps.Precommit round None = false
is_decided powers totals steps.Prevote round content = false

-- with a round that was decided, once
abbrev pub rounds_with : Bool → ℕ → List ℕ → List ℕ
rounds_with decided r rounds = cond (decided && not (list_any (λ other. other == r) rounds)) (rounds ++ r ∷ []) rounds

-- ---- what the topics are

-- validator i spoke on the topic
abbrev pub speaks : List Proposal → List Vote → Topic → ℕ → Bool
speaks qs vs (Round r) i = speakers qs vs r i
speaks qs vs (Prevotes r) i = senders vs (is_vote r round_steps.Prevote) i
speaks qs vs (Precommits r) i = senders vs (is_vote r round_steps.Precommit) i
speaks qs vs (PrevotesFor r x) i = senders vs (is_vote_for r round_steps.Prevote x) i
speaks qs vs (PrecommitsFor r x) i = senders vs (is_vote_for r round_steps.Precommit x) i
speaks qs vs (Proposals r) i = proposers qs r i
speaks qs vs (SecondProposals r) i = nat_le 2 (count_by (λ (q : Proposal). (q.round == r) && (q.sender == i)) qs)

-- the vote is about the topic
abbrev pub is_about : Topic → Vote → Bool
is_about (Round r) v = v.round == r
is_about (Prevotes r) v = is_vote r round_steps.Prevote v
is_about (Precommits r) v = is_vote r round_steps.Precommit v
is_about (PrevotesFor r x) v = is_vote_for r round_steps.Prevote x v
is_about (PrecommitsFor r x) v = is_vote_for r round_steps.Precommit x v
is_about (Proposals r) v = false
is_about (SecondProposals r) v = false

-- a proposal of a round is about the topic, where its sender made another or not
abbrev pub is_proposed : Topic → ℕ → Bool → Bool
is_proposed (Round r) round second = round == r
is_proposed (Proposals r) round second = round == r
is_proposed (SecondProposals r) round second = (round == r) && second
is_proposed (Prevotes r) round second = false
is_proposed (Precommits r) round second = false
is_proposed (PrevotesFor r x) round second = false
is_proposed (PrecommitsFor r x) round second = false
