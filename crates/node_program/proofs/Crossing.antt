-- What the validator's threads share crosses them: by its parts, since a `search` through all of them runs out of steps.
use denote.RattleType.{RattleType}
use denote.Param.Send.{IsSend, IsSync, Frees, part_keyless, sendable}
use denote.Struct.Struct.{Struct}
use denote.Struct.Owning.{shape}
use Rattle.std.proofs.Crossing.{crosses}
use Rattle.std.specs.declared.alloc.Allocator as alloc
use Rattle.atomic_table.specs.declared.shared.TableRule as rule
use Rattle.atomic_table.specs.contracts.shared.Seat as Seat
use Rattle.atomic_table.specs.contracts.shared.Shared as Shared
use Rattle.atomic_table.specs.contracts.badge.Badge as Badge
use Rattle.atomic_table.specs.contracts.send_lease.SendLease as Lease
use Rattle.atomic_table.proofs.Rights.{right_send}
use Rattle.atomic_table.proofs.Sent.{seat_keyless, owns_keyless, shares_keyless, badge_keyless}
use Rattle.locked_node.specs.contracts.subscription.Subscription as Subscription

-- ---- tables of words, as their own crate has it

seat_send : (S V : RattleType) → IsSend S → IsSend (Seat.the_row S V)
seat_send S V s = record { owned = λ d vs. ((λ vss. (tt, ((λ uss. (tt, tt)), tt))), seat_keyless S s V.coded.code d.table_id d.id d.me); leaving = λ k f vs. tt }

badge_send : (V : RattleType) → IsSend (Badge.the_row V)
badge_send V = record { owned = λ d vs. ((λ vss. (tt, ((λ uss. (tt, tt)), tt))), badge_keyless V.coded.code d.table_id d.id d.views); leaving = λ k f vs. tt }

module _ (S V K P : RattleType) (g : rule.Ghosts P.Denot S.Denot V.Denot K.Denot) (s : IsSend S) where
  table_send : IsSend (Shared.the_row S V K P g)
  table_send = record { owned = λ d vs. ((λ vss. (tt, (tt, (tt, ((λ uss. (tt, tt)), tt))))), owns_keyless S s V.coded.code d.table_id (g.holds d.key) d.words d.slots); leaving = λ k f vs. tt }

  table_sync : IsSync (Shared.the_row S V K P g)
  table_sync = let fields : IsSync (Struct (shape (Shared.the_type S V K P g))) = search sendable depth 20 in
      record { shared = λ d b o ν. (fields.shared (d.words, (d.slots, (tt, tt))) b o ν, shares_keyless S s V.coded.code d.table_id (g.holds d.key) d.words d.slots ν) }

lease_send : (T A : RattleType) (g : alloc.Ghosts A.Denot) → IsSend A → Frees g g.dealloc_token → IsSend (Lease.the_row T A g)
lease_send T A g s f = right_send T A g f

lease_sync : (T A : RattleType) (g : alloc.Ghosts A.Denot) → IsSend A → Frees g g.dealloc_token → IsSync (Lease.the_row T A g)
lease_sync T A g s f = record { shared = λ d b o ν q. part_keyless (Lease.the_row T A g) (right_send T A g f) q d b o }

-- ---- the parts

pub subscription_send : IsSend Subscription.the_field.row
subscription_send = search (seat_send, badge_send, table_send, table_sync, lease_send, lease_sync, sendable, crosses) depth 60 fits 20000
