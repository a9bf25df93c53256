-- What a validator sees of a setting, and that nothing else of it moves the validator's node.
use Rattle.std.specs.Prelude.{◌≡◌, ℕ, ◌<◌, true, length, List, Option}
use Rattle.protocol.specs.Tags.{Setting, Validator, Client}
use Rattle.protocol.specs.Messages.{Body, sender_of, tagged}
use Rattle.protocol.specs.State.{State, Node, Rule}
use Rattle.protocol.specs.Rules.{holds}
use Rattle.protocol.specs.Refusals.{context, answer}
use Rattle.protocol.specs.Arrivals.{arrival, firing}
use Rattle.protocol.specs.World.{Cut, tried, cut_record}
use Rattle.protocol.specs.History.{Input, first, firsts, taken, after}
use Rattle.protocol.specs.Effects.{bodies_of, timeouts_of, bodies_taken, timeouts_taken, along, bodies_after, timeouts_after}
use Rattle.protocol.specs.Laws.{call_events}

-- Two settings are alike to validator p: in the powers, in which clients have keys, in the keys of what validators and
-- these clients send to it, and in those of what it sends to validators.
pub record AreAlike (p : ℕ) (c d : Setting) : Type 0 where
  pub powers : c.powers ≡ d.powers
  pub clients : (i : ℕ) → c.clients i ≡ d.clients i
  pub from_validators : (i : ℕ) → i < length c.powers → c.key (Validator i) p ≡ d.key (Validator i) p
  pub from_clients : (i : ℕ) → c.clients i ≡ true → c.key (Client i) p ≡ d.key (Client i) p
  pub to_validators : (q : ℕ) → q < length c.powers → c.key (Validator p) q ≡ d.key (Validator p) q

-- Whatever comes to the validator is answered alike.
pub record AnswersAlike (p : ℕ) (c d : Setting) : Type 0 where
  pub answers : (n : Node) (bytes : List ℕ) → answer c p n bytes ≡ answer d p n bytes
  pub arrivals : (n : Node) (bytes : List ℕ) → arrival c p n bytes ≡ arrival d p n bytes

-- Its rules hold alike and fire alike, and a stop cuts them alike.
pub record FiresAlike (p : ℕ) (c d : Setting) : Type 0 where
  pub holding : (s : State) (k : Rule) → holds (context c p) s k ≡ holds (context d p) s k
  pub firings : (n : Node) (k : Rule) → firing c p n k ≡ firing d p n k
  pub tries : (n : Node) (k : Rule) → tried c p n k ≡ tried d p n k
  pub cuts : (n : Node) (cut : Option Cut) → cut_record c p n cut ≡ cut_record d p n cut
  pub each_first : (n : Node) → first c p n ≡ first d p n
  pub all_firsts : (times : ℕ) (n : Node) → firsts c p times n ≡ firsts d p times n
  pub releases : (times : ℕ) (n : Node) → along (bodies_of c p) c p times n ≡ along (bodies_of d p) d p times n
  pub schedules : (times : ℕ) (n : Node) → along (timeouts_of c p) c p times n ≡ along (timeouts_of d p) d p times n

-- A call leaves the same node, releases the same bodies, schedules the same timeouts, and is the same events.
pub record IsCalledAlike (p : ℕ) (c d : Setting) : Type 0 where
  pub inputs : (n : Node) (input : Input) → taken c p n input ≡ taken d p n input
  pub bodies_of_inputs : (n : Node) (input : Input) → bodies_taken c p n input ≡ bodies_taken d p n input
  pub timeouts_of_inputs : (n : Node) (input : Input) → timeouts_taken c p n input ≡ timeouts_taken d p n input
  pub calls : (n : Node) (input : Input) (times : ℕ) → after c p n input times ≡ after d p n input times
  pub bodies : (n : Node) (input : Input) (times : ℕ) → bodies_after c p n input times ≡ bodies_after d p n input times
  pub timeouts : (n : Node) (input : Input) (times : ℕ) → timeouts_after c p n input times ≡ timeouts_after d p n input times
  pub events : (n : Node) (input : Input) (times : ℕ) → call_events c p n input times ≡ call_events d p n input times

-- What a validator makes of what comes, and how it tags what it says, depends on what it sees alone.
pub record ActsAlike (p : ℕ) (c d : Setting) : Type 0 where
  pub answering : AnswersAlike p c d
  pub firing_rules : FiresAlike p c d
  pub called : IsCalledAlike p c d
  pub tagging : (b : Body) → sender_of b ≡ Validator p → tagged c b ≡ tagged d b

abbrev pub SeeingLaw : Type 0
SeeingLaw = (p : ℕ) (c d : Setting) → AreAlike p c d → ActsAlike p c d
