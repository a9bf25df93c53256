-- What the threads share crosses them: by its parts, since a `search` through all of them runs out of steps.
use denote.RattleType.{RattleType}
use denote.Struct.Declared.{shape}
use denote.Ref.{NamedLft}
use denote.Param.Send.{IsSend, IsSync, owning_send, struct_send, sendable}
use lib.ListN.{drop}
use Rattle.std.proofs.Crossing.{crosses}
use Rattle.std.proofs.MapsCrossing as maps
use Rattle.bytes.proofs.Crosses.{block-send, block-sync, seen_owns-keyless}
use Rattle.bytes.specs.contracts.block.Seen as Seen
use Rattle.link_queue.specs.contracts.history.Frames as Frames
use Rattle.edge_frames.specs.contracts.early.EarlyFrames as EarlyFrames
use Rattle.edge_frames.specs.contracts.height_frames.HeightFrames as HeightFrames
use Rattle.timeouts.specs.contracts.Plan as Plan
use Rattle.peer_core.specs.contracts.holding.HeldFrames as HeldFrames
use Rattle.peer_core.specs.contracts.links.PeerLinks as PeerLinks
use Rattle.peer_core.specs.contracts.outbox.Outbox as Outbox
use Rattle.peer_core.specs.contracts.own.OwnFrames as OwnFrames
use Rattle.peer_core.specs.contracts.redial.Redial as Redial
use Rattle.edge_frames.specs.contracts.catch_up.CatchUp as CatchUp
use Rattle.peer_core.specs.contracts.grounds.Grounds as Grounds
use Rattle.peer_core.specs.contracts.rest.Rest as Rest
use Rattle.peer_core.specs.contracts.budget.Budget as Budget
use Rattle.peer_core.specs.contracts.agenda.Agenda as Agenda
use Rattle.peer_core.specs.contracts.help.Help as Help
use Rattle.peer_core.specs.contracts.edge.PeerCore as PeerCore
use Rattle.vote_journal.specs.declared.store.Store as stores
use Rattle.status_words.specs.declared.words.Node as names
use Rattle.locked_node.proofs.Crossing.{locked_sync}
use Rattle.peer_links.specs.contracts.bell.Bell as Bell
use Rattle.peer_threads.specs.contracts.departed.Departed as Departed
use Rattle.peer_threads.specs.contracts.outlets.Outlets as Outlets
use Rattle.peer_threads.specs.contracts.shared.Shared as Shared
use Rattle.node_meters.specs.contracts.meters.Meters as Meters
use Rattle.peer_threads.specs.contracts.desk.Desk as Desk

-- ---- the bytes of frames, as their own crates have it

pub seen_send : IsSend Seen.the_row
seen_send = owning_send Seen.the_type tt (λ s. seen_owns-keyless s.life (drop s.at s.names) s.ptr s.items) (λ k x w. tt)

pub frames_send : IsSend Frames.the_row
frames_send = record { owned = λ d vs. ((λ vss. (tt, ((λ uss. (tt, tt)), tt))), tt); leaving = λ k f vs. tt }

-- ---- the parts

early_send : IsSend EarlyFrames.the_field.row
early_send = search (seen_send, block-send, block-sync, sendable, crosses, maps.crosses) depth 60 fits 20000

height_send : IsSend HeightFrames.the_field.row
height_send = search (seen_send, block-send, block-sync, sendable, crosses, maps.crosses) depth 60 fits 20000

own_send : IsSend OwnFrames.the_field.row
own_send = search (height_send, sendable) depth 60

held_send : IsSend HeldFrames.the_field.row
held_send = search (seen_send, block-send, block-sync, sendable, crosses, maps.crosses) depth 60 fits 20000

outbox_send : IsSend Outbox.the_field.row
outbox_send = search (seen_send, block-send, block-sync, sendable, crosses, maps.crosses) depth 60 fits 20000

plan_send : IsSend Plan.the_field.row
plan_send = search (sendable, crosses, maps.crosses) depth 60 fits 20000

links_send : IsSend PeerLinks.the_field.row
links_send = search (sendable, crosses) depth 60 fits 20000

redial_send : IsSend Redial.the_field.row
redial_send = search sendable depth 60

catch_send : IsSend CatchUp.the_field.row
catch_send = search sendable depth 60

grounds_send : IsSend Grounds.the_field.row
grounds_send = search (sendable, crosses) depth 60

rest_send : IsSend Rest.the_field.row
rest_send = search (sendable, crosses) depth 60

budget_send : IsSend Budget.the_field.row
budget_send = search sendable depth 60

agenda_send : IsSend Agenda.the_field.row
agenda_send = search sendable depth 60

help_send : IsSend Help.the_field.row
help_send = search (own_send, sendable, crosses) depth 60

core_send : IsSend PeerCore.the_field.row
core_send = struct_send (shape PeerCore.the_type) (search (early_send, height_send, own_send, held_send, outbox_send, plan_send, links_send, redial_send, catch_send, grounds_send, rest_send, budget_send, agenda_send, help_send, seen_send, block-send, block-sync, sendable, crosses, maps.crosses) depth 60 fits 20000)

outlets_send : IsSend Outlets.the_field.row
outlets_send = search (frames_send, seen_send, block-send, block-sync, sendable, crosses, maps.crosses) depth 60 fits 20000

departed_send : IsSend Departed.the_field.row
departed_send = search (seen_send, block-send, block-sync, sendable, crosses, maps.crosses) depth 60 fits 20000

pub desk_send : IsSend Desk.the_field.row
desk_send = search (core_send, outlets_send, departed_send, sendable) depth 60

bell_sync : IsSync Bell.the_field.row
bell_sync = search (sendable, crosses) depth 60 fits 20000

meters_sync : IsSync Meters.the_field.row
meters_sync = search (sendable, crosses) depth 60 fits 20000

module _ (l : NamedLft) (S J C : RattleType) (n : names.Ghosts J.Denot) (g : stores.Ghosts S.Denot) (s : IsSend S) (j : IsSend J) (c : IsSync C) where
  pub shared_sync : IsSync (Shared.the_field l S J C n g).row
  shared_sync = let node = locked_sync S J n g s j in search (desk_send, bell_sync, meters_sync, sendable, crosses) depth 60 fits 20000
