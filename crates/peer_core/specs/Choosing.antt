-- Which links a frame goes to.
use Rattle.std.specs.Prelude.{ℕ, Bool, true, false, not, ◌&&◌, ◌==◌, ◌-◌, nat_lt, List, map, filter, Option, Some, None}
use Rattle.edge_frames.specs.declared.early.LinkId.{LinkId}
use Rattle.peer_links.specs.declared.link.Way.{Way}
use Rattle.peer_links.specs.declared.link.Way.TheVariants.{Dialed, Accepted}
use Rattle.peer_core.specs.declared.duty.Closing.{Closing}
use Rattle.peer_core.specs.declared.link.PeerLink.{PeerLink}
use Rattle.peer_core.specs.declared.link.Answered.{Answered}
use Rattle.peer_core.specs.declared.link.Behind.{Behind}
use Rattle.peer_core.specs.declared.link.Behind.TheVariants.{Nobody, Client, Validator}
use Rattle.peer_core.specs.declared.link.Shown.{Shown}
use Rattle.peer_core.specs.declared.link.Shown.TheVariants as shown
use Rattle.peer_core.specs.declared.manner.Keeping.{Keeping}
use Rattle.peer_core.specs.declared.manner.Keeping.TheVariants.{Open, Guarded}

abbrev pub is_kept : Option Closing → Bool
is_kept None = true
is_kept (Some closing) = false

-- neither closed nor to be closed
abbrev pub is_open : PeerLink → Bool
is_open link = is_kept link.closing

-- the one of its validator's links that is used
abbrev pub is_for_validators : PeerLink → Bool
is_for_validators link = is_open link && link.is_chosen

-- what goes to all goes to every open link, or to one link of each validator
abbrev pub gets_all : Keeping → PeerLink → Bool
gets_all Open link = is_open link
gets_all Guarded link = is_for_validators link

-- the numbers of such links, in their order
abbrev pub ids_of : (PeerLink → Bool) → List PeerLink → List LinkId
ids_of goes links = map (λ link. link.id) (filter goes links)

-- an ask goes to every open link, or to those that want one
abbrev pub gets_ask : Keeping → PeerLink → Bool
gets_ask Open link = is_open link
gets_ask Guarded link = is_open link && link.wants_ask

abbrev pub sent_at : ℕ → ℕ → Answered
sent_at height at = record { height = height; at = at }

-- the height's bundle was sent within the last second
abbrev pub was_sent : ℕ → ℕ → Option Answered → Bool
was_sent height now None = false
was_sent height now (Some a) = (a.height == height) && nat_lt (now - a.at) 1000

abbrev pub asks_for : ℕ → Option ℕ → Bool
asks_for height None = false
asks_for height (Some asked) = asked == height

-- a bundle goes to who asked for its height, and not again within a second
abbrev pub gets_bundle : ℕ → ℕ → PeerLink → Bool
gets_bundle height now link = (is_open link && asks_for height link.asked) && not (was_sent height now link.answered)

-- an ask or a bundle comes from its sender; a proposal or a vote says nothing of a link whose validator is known, since it may have been passed
-- on; a validator may bring a client's transaction
abbrev pub behind_after : Shown → Behind → Behind
behind_after (shown.Direct v) behind = Validator v
behind_after (shown.Passed v) Nobody = Validator v
behind_after (shown.Passed v) Client = Validator v
behind_after (shown.Passed v) (Validator w) = Validator w
behind_after shown.Client Nobody = Client
behind_after shown.Client Client = Client
behind_after shown.Client (Validator w) = Validator w
behind_after shown.Nothing behind = behind

-- whose address was dialed stays behind a link, whatever comes on it
abbrev pub behind_by : Way → Shown → Behind → Behind
behind_by (Dialed v) shown behind = behind
behind_by Accepted shown behind = behind_after shown behind
