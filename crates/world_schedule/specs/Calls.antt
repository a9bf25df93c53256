-- What happens in a world, as those count it who call its validators' nodes and send for its clients.
use Rattle.std.specs.Prelude.{ℕ, cond, Option, List, [], ◌∷◌, ◌++◌, ◌==◌}
use Rattle.protocol.specs.Values.{Op, Item}
use Rattle.protocol.specs.Tags.{Setting}
use Rattle.protocol.specs.Messages.{Body, OfAsk}
use Rattle.protocol.specs.declared.types.Timeout.{Timeout}
use Rattle.protocol.specs.State.{Node}
use Rattle.protocol.specs.Restart.{opened, own_since}
use Rattle.protocol.specs.World.{Cut, Event, Sends, Asks, Resends, Restarts, next_item, cut_record}
use Rattle.protocol.specs.History.{Input, after}
use Rattle.protocol.specs.Effects.{bodies_after, timeouts_after}
use Rattle.protocol.specs.Laws.{call_events}

pub data Call : Type 0 where
  Sent : ℕ → Op → Call  -- a client sent its next item
  Began : ℕ → Call  -- a client began the session after its close
  Handed : ℕ → Input → ℕ → Call  -- to a validator, and so many rules fired by themselves
  Asked : ℕ → Call  -- a validator let an ask go
  Resent : ℕ → Call  -- a validator let its own messages of the height go again
  Reopened : ℕ → Option Cut → Call  -- a validator over its journal, which may first have got the record of what a stop cut

-- ---- what one call does

-- validator p's node after the call
abbrev pub moved : Setting → ℕ → Node → Call → Node
moved c p n (Sent client op) = n
moved c p n (Began client) = n
moved c p n (Handed q input times) = cond (p == q) (after c p n input times) n
moved c p n (Asked q) = n
moved c p n (Resent q) = n
moved c p n (Reopened q cut) = cond (p == q) (opened p (cut_record c p n cut ++ n.journal)) n

-- what a client has sent after the call
abbrev pub adding : ℕ → List Item → Call → List Item
adding client items (Sent sender op) = cond (client == sender) (items ++ next_item client op items ∷ []) items
adding client items _ = items

-- the call's events in a run
abbrev pub events_by : Setting → (ℕ → Node) → Call → List Event
events_by c nodes (Sent client op) = Sends client op ∷ []
events_by c nodes (Began client) = []
events_by c nodes (Handed p input times) = call_events c p (nodes p) input times
events_by c nodes (Asked p) = Asks p ∷ []
events_by c nodes (Resent p) = Resends p ∷ []
events_by c nodes (Reopened p cut) = Restarts p cut ∷ []

-- the bodies that it releases, in order
abbrev pub bodies_by : Setting → (ℕ → Node) → Call → List Body
bodies_by c nodes (Handed p input times) = bodies_after c p (nodes p) input times
bodies_by c nodes (Asked p) = OfAsk (record { height = (nodes p).state.height; sender = p }) ∷ []
bodies_by c nodes (Resent p) = own_since p (nodes p).journal
bodies_by c nodes _ = []

-- the timeouts that it schedules
abbrev pub timeouts_by : Setting → (ℕ → Node) → Call → List Timeout
timeouts_by c nodes (Handed p input times) = timeouts_after c p (nodes p) input times
timeouts_by c nodes _ = []

-- ---- what calls do, the oldest first

abbrev pub all_moved : Setting → (ℕ → Node) → Call → ℕ → Node
all_moved c nodes call p = moved c p (nodes p) call

abbrev pub lived : Setting → ℕ → Node → List Call → Node
lived c p n [] = n
lived c p n (call ∷ calls) = lived c p (moved c p n call) calls

abbrev pub sent_by : ℕ → List Item → List Call → List Item
sent_by client items [] = items
sent_by client items (call ∷ calls) = sent_by client (adding client items call) calls

abbrev pub events : Setting → (ℕ → Node) → List Call → List Event
events c nodes [] = []
events c nodes (call ∷ calls) = events_by c nodes call ++ events c (all_moved c nodes call) calls

abbrev pub bodies : Setting → (ℕ → Node) → List Call → List Body
bodies c nodes [] = []
bodies c nodes (call ∷ calls) = bodies_by c nodes call ++ bodies c (all_moved c nodes call) calls

abbrev pub timeouts : Setting → (ℕ → Node) → List Call → List Timeout
timeouts c nodes [] = []
timeouts c nodes (call ∷ calls) = timeouts_by c nodes call ++ timeouts c (all_moved c nodes call) calls

-- ---- from the beginning, when all journals are empty

abbrev pub unopened : ℕ → Node
unopened p = opened p []

-- validator p's node after these calls
abbrev pub node_after : Setting → ℕ → List Call → Node
node_after c p calls = lived c p (unopened p) calls

-- the events of these calls
abbrev pub run_of : Setting → List Call → List Event
run_of c calls = events c unopened calls

-- what a client sent in them
abbrev pub sent : ℕ → List Call → List Item
sent client calls = sent_by client [] calls
