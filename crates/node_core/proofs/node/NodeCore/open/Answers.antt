use Rattle.std.proofs.Common.{◌≡◌}
use Rattle.protocol.specs.Refusals.{context}
use Rattle.protocol.specs.Restart.{restart}
use Rattle.round_states.specs.Machine.{Agrees}
use Rattle.vote_journal.specs.Kept.{journal_of}
use Rattle.node_core.specs.Core.{setting}
use Rattle.node_core.proofs.Keys.{is_ring_of}
use Rattle.node_core.proofs.Reopened.{bodies_by, begun_agrees, agreed_powers, replayable, placed, back_sound, back_stands}
use Rattle.node_core.proofs.node.NodeCore.open.Goals as goal
use Rattle.node_core.proofs.node.NodeCore.open.Goals.{In-Ok}

pub of-requires-clause-replayable : goal.of-requires-clause-replayable
of-requires-clause-replayable g c =
    let a = c.args in
    let o = a.opened in
    rw (c.new-state.ensures, c.deref.ensures.value, c.deref-2.ensures.value) (replayable a.config.powers a.config.me (g.S.Store.seen o.journal.store) o.decisions.items o.own.items c.requires.read)

pub over-requires-clause-placed : goal.over-requires-clause-placed
over-requires-clause-placed g c =
    let a = c.args in
    let o = a.opened in
    placed a.config.powers a.config.me (g.S.Store.seen o.journal.store) o.decisions.items o.own.items c.requires.read

pub over-requires-clause-sound : goal.over-requires-clause-sound
over-requires-clause-sound g c =
    let a = c.args in
    let o = a.opened in
    let powers = a.config.powers in
    let me = a.config.me in
    let bytes = g.S.Store.seen o.journal.store in
    let agrees : Agrees (context (setting powers me a.ring) me) c.in-Ok.restart.state =
    c.in-Ok.ensures.agrees (setting powers me a.ring) me (is_ring_of powers me a.ring c.requires.owner c.requires.count c.count.ensures.whole) (begun_agrees powers me a.ring c.new-state.result c.new-state.ensures) in
    let state : c.in-Ok.restart.state.state ≡ restart me (journal_of o.decisions.items o.own.items) = rw (c.new-state.ensures, c.deref.ensures.value, c.deref-2.ensures.value) at c.in-Ok.ensures.state in
    let said : c.in-Ok.restart.said.items ≡ bodies_by me o.own.items = rw (c.new-state.ensures, c.deref-2.ensures.value) at c.in-Ok.ensures.said in
    rw (c.requires.journal.0, c.requires.journal.1)
    (back_sound powers me bytes o.decisions.items o.own.items c.requires.read a.ring c.in-Ok.restart.state c.in-Ok.restart.said.items (g.S.Store.failures o.journal.store) c.requires.owner c.requires.count c.requires.me c.count.ensures.whole c.count-2.ensures.lawful.few
    (replayable powers me bytes o.decisions.items o.own.items c.requires.read) agrees state c.in-Ok.ensures.room said)

pub returns-in-Ok-clause-stands : goal.returns-in-Ok-clause-stands
returns-in-Ok-clause-stands g c = λ rs whole.
    let a = c.args in
    let o = a.opened in
    let powers = a.config.powers in
    let me = a.config.me in
    let bytes = g.S.Store.seen o.journal.store in
    let agrees : Agrees (context (setting powers me a.ring) me) c.in-Ok.restart.state =
    c.in-Ok.ensures.agrees (setting powers me a.ring) me (is_ring_of powers me a.ring c.requires.owner c.requires.count c.count.ensures.whole) (begun_agrees powers me a.ring c.new-state.result c.new-state.ensures) in
    let state : c.in-Ok.restart.state.state ≡ restart me (journal_of o.decisions.items o.own.items) = rw (c.new-state.ensures, c.deref.ensures.value, c.deref-2.ensures.value) at c.in-Ok.ensures.state in
    let said : c.in-Ok.restart.said.items ≡ bodies_by me o.own.items = rw (c.new-state.ensures, c.deref-2.ensures.value) at c.in-Ok.ensures.said in
    rw (c.over.ensures, c.requires.journal.0, c.requires.journal.1)
    (back_stands powers me bytes o.decisions.items o.own.items c.requires.read a.ring c.in-Ok.restart.state c.in-Ok.restart.said.items (g.S.Store.failures o.journal.store) rs agrees state c.in-Ok.ensures.room said whole)

pub returns-in-Ok-clause-powers : goal.returns-in-Ok-clause-powers
returns-in-Ok-clause-powers g c =
    let a = c.args in
    let powers = a.config.powers in
    let me = a.config.me in
    let agrees : Agrees (context (setting powers me a.ring) me) c.in-Ok.restart.state =
    c.in-Ok.ensures.agrees (setting powers me a.ring) me (is_ring_of powers me a.ring c.requires.owner c.requires.count c.count.ensures.whole) (begun_agrees powers me a.ring c.new-state.result c.new-state.ensures) in
    rw c.over.ensures (agreed_powers powers me a.ring c.in-Ok.restart.state agrees)
