-- What goes out, and where to.
use Rattle.std.specs.Prelude.{◌≡◌, ℕ, List, Option, Some, None, Result, Ok, Err}
use Rattle.transactions.specs.declared.fault.Fault.{Fault}
use Rattle.edge_frames.specs.declared.early.LinkId.{LinkId}
use Rattle.peer_core.specs.declared.duty.Sending.{Sending}
use Rattle.peer_core.specs.declared.links.PeerLinks.{PeerLinks}
use Rattle.peer_core.specs.declared.heading.Heading.{Heading}
use Rattle.peer_core.specs.declared.heading.Kind.{Kind}
use Rattle.peer_core.specs.declared.heading.Kind.TheVariants.{Proposal, Prevote, Precommit, Ask, Bundle}
use Rattle.peer_core.specs.declared.manner.Keeping.{Keeping}
use Rattle.peer_core.specs.declared.manner.Keeping.TheVariants.{Open, Guarded}
use Rattle.peer_core.specs.Heading.{heading_at}
use Rattle.peer_core.specs.Choosing.{ids_of, gets_all, gets_ask, gets_bundle}

-- nothing goes out, or this frame does as it is
abbrev pub IsOf : List ℕ → Option Sending → Type 0
IsOf frame None = Unit {0}
IsOf frame (Some sending) = sending.frame ≡ frame

-- nothing goes out, or it goes to these links
abbrev pub GoesTo : List LinkId → Option Sending → Type 0
GoesTo links None = Unit {0}
GoesTo links (Some sending) = sending.links.items ≡ links

abbrev pub for_all : PeerLinks → List LinkId
for_all links = ids_of (gets_all links.keeping) links.links.items

abbrev pub for_ask : PeerLinks → List LinkId
for_ask links = ids_of (gets_ask links.keeping) links.links.items

abbrev pub for_bundle : ℕ → ℕ → PeerLinks → List LinkId
for_bundle height now links = ids_of (gets_bundle height now) links.links.items

-- with guarded links a bundle goes to who asked for its height
abbrev pub BundleGoes : Keeping → List LinkId → List LinkId → Option Sending → Type 0
BundleGoes Open all asked sending = GoesTo all sending
BundleGoes Guarded all asked sending = GoesTo asked sending

-- nothing goes out, or it goes where a frame of this kind and height is due
abbrev pub GoesAs : Kind → ℕ → ℕ → PeerLinks → Option Sending → Type 0
GoesAs Proposal height now links sending = GoesTo (for_all links) sending
GoesAs Prevote height now links sending = GoesTo (for_all links) sending
GoesAs Precommit height now links sending = GoesTo (for_all links) sending
GoesAs Ask height now links sending = GoesTo (for_ask links) sending
GoesAs Bundle height now links sending = BundleGoes links.keeping (for_all links) (for_bundle height now links) sending

abbrev pub GoesFor : Result Heading Fault → ℕ → PeerLinks → Option Sending → Type 0
GoesFor (Ok h) now links sending = GoesAs h.kind h.height now links sending
GoesFor (Err fault) now links sending = sending ≡ None

-- nothing goes out, or it goes where this frame is due
abbrev pub GoesWhereDue : List ℕ → ℕ → PeerLinks → Option Sending → Type 0
GoesWhereDue frame now links sending = GoesFor (heading_at frame) now links sending
