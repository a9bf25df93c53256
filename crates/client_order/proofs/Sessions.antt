-- The theorems.
use Rattle.std.proofs.Common.{◌≡◌, true, List, sym, ◌∙◌, ap, subst}
use Rattle.protocol.specs.Values.{Item, of, fresh, in_turn}
use Rattle.proposal_validity.proofs.Turns.{every_client, from_clients}
use Rattle.client_order.specs.Sessions.{StandInSessions}
use Rattle.client_order.specs.Laws.{SessionsLaw, ClientsLaw, DivisionLaw}
use Rattle.client_order.proofs.Walks.{walked}
use Rattle.client_order.proofs.Divisions.{divided, joined_again, sessions_of, divided_again}

to_sessions : (items : List Item) → in_turn fresh items ≡ true → StandInSessions items
to_sessions items h = (divided items, joined_again items, sessions_of items h)

from_sessions : (items : List Item) → StandInSessions items → in_turn fresh items ≡ true
from_sessions items s = subst (λ (l : List Item). in_turn fresh l ≡ true) s.1 (walked 0 s.0 s.2)

pub sessions_law : SessionsLaw
sessions_law d client = (to_sessions (of client d), from_sessions (of client d))

pub clients_law : ClientsLaw
clients_law d = (λ f client. to_sessions (of client d) (every_client d f client), λ h. from_clients d (λ client. from_sessions (of client d) (h client)))

pub division_law : DivisionLaw
division_law parts others h k e = sym (divided_again 0 parts h) ∙ ap divided e ∙ divided_again 0 others k
