use Rattle.std.proofs.Common.{◌≡◌, ◌≢◌, inl, inr, ℕ, List, sym, ap, subst, subst₂, ◌∙◌}
use Rattle.std.specs.Prelude.{reverse}
use Rattle.authenticators.specs.Ring.{Ring}
use Rattle.protocol.specs.Tags.{Setting}
use Rattle.protocol.specs.Rings.{IsRingOf}
use Rattle.protocol.specs.Restart.{opened}
use Rattle.vote_journal.specs.History.{Call, Opened, NotOpened, Does, RefusesAsRead}
use Rattle.vote_journal.specs.declared.fault.JournalFault.{JournalFault}
use Rattle.vote_journal.specs.declared.fault.JournalFault.TheVariants as faults
use Rattle.vote_journal.proofs.Rereading.{refused_before}
use Rattle.node_core.specs.Core.{JournalSeen, Stands}
use Rattle.stopped_cores.specs.Over.{IsLeftAfter, IsRefusedAsRead}
use Rattle.stopped_cores.proofs.Over.{comes_back_law}
use Rattle.stopped_cores.proofs.ending.begin_again.Goals as goal

-- what a call does under the powers and at the number of the seat
at_seat : {S : Type 0} (seen : S → List ℕ) (may_leave : S → List ℕ → Type 0) (d : Setting) (p : ℕ) (powers : List ℕ) (me : ℕ) (call : Call) (old new : S) → powers ≡ d.powers → me ≡ p → Does seen may_leave powers me call old new → Does seen may_leave d.powers p call old new
at_seat seen may_leave d p powers me call old new es e does = subst₂ (λ ps i. Does seen may_leave ps i call old new) es e does

-- a journal that isn't opened
refused_as_read : {S : Type 0} (seen : S → List ℕ) (may_leave : S → List ℕ → Type 0) (powers : List ℕ) (me : ℕ) (ring : Ring) (fault : JournalFault) (old new : S) → RefusesAsRead seen may_leave powers me fault old new → IsRefusedAsRead seen may_leave powers me ring fault old new
refused_as_read seen may_leave powers me ring fault old new (inl unread) = inl unread
refused_as_read seen may_leave powers me ring fault old new (inr r) = inr (record {
  read = r.read;
  was = r.was;
  left = λ d p seat calls cut left.
      let law = comes_back_law seen may_leave d p calls in
      let here = at_seat seen may_leave d p powers me (NotOpened fault) r.read new seat.powers_are seat.me_is r.does in
      (law.refused cut fault r.read new left here, λ is. law.never_bad cut r.read new left (subst (λ x. Does seen may_leave d.powers p (NotOpened x) r.read new) is here));
})

pub returns-in-Err-clause-refused : goal.returns-in-Err-clause-refused
returns-in-Err-clause-refused g c = λ d p seat calls cut left.
    (comes_back_law g.S.Store.seen g.S.Store.may_leave d p calls).refused cut c.in-Err.unopened.fault c.args.store c.in-Err.unopened.store left
    (at_seat g.S.Store.seen g.S.Store.may_leave d p c.args.config.powers c.args.config.me (NotOpened c.in-Err.unopened.fault) c.args.store c.in-Err.unopened.store seat.powers_are seat.me_is
    (refused_before g.S.Store.seen g.S.Store.may_leave c.args.config.powers c.args.config.me c.in-Err.unopened.fault c.args.store c.in-Err.unopened.store c.in-Err.ensures.refused))

-- no opening calls it no journal
pub returns-in-Err-clause-whole : goal.returns-in-Err-clause-whole
returns-in-Err-clause-whole g c = λ d p seat calls cut left is.
    (comes_back_law g.S.Store.seen g.S.Store.may_leave d p calls).never_bad cut c.args.store c.in-Err.unopened.store left
    (at_seat g.S.Store.seen g.S.Store.may_leave d p c.args.config.powers c.args.config.me (NotOpened faults.BadRecord) c.args.store c.in-Err.unopened.store seat.powers_are seat.me_is
    (subst (λ fault. Does g.S.Store.seen g.S.Store.may_leave c.args.config.powers c.args.config.me (NotOpened fault) c.args.store c.in-Err.unopened.store) is
    (refused_before g.S.Store.seen g.S.Store.may_leave c.args.config.powers c.args.config.me c.in-Err.unopened.fault c.args.store c.in-Err.unopened.store c.in-Err.ensures.refused)))

pub returns-in-Err-clause-unread : goal.returns-in-Err-clause-unread
returns-in-Err-clause-unread g c = refused_as_read g.S.Store.seen g.S.Store.may_leave c.args.config.powers c.args.config.me c.args.ring c.in-Err.unopened.fault c.args.store c.in-Err.unopened.store c.in-Err.ensures.refused

pub returns-in-Ok-open-clause-read : goal.returns-in-Ok-open-clause-read
returns-in-Ok-open-clause-read g c =
    let found = c.in-Ok.ensures.does in
    let o = found.1 in
    let new = c.in-Ok.opened.journal.store in
    let core = c.in-Ok-open.core in
    record {
      read = o.read;
      was = o.was;
      back = λ d p seat calls cut left.
          (comes_back_law g.S.Store.seen g.S.Store.may_leave d p calls).back cut o.read new core left (record {
            records = found.0;
            does = at_seat g.S.Store.seen g.S.Store.may_leave d p c.args.config.powers c.args.config.me (Opened found.0) o.read new seat.powers_are seat.me_is o.does;
            own = record {
              powers = c.in-Ok-open.ensures.powers ∙ seat.powers_are;
              me = c.in-Ok-open.ensures.me ∙ seat.me_is;
              ring = subst (λ ring. IsRingOf d p ring) (sym c.in-Ok-open.ensures.ring) seat.ring_is;
            };
            stands = subst (λ i. Stands (opened i (reverse found.0)) core) seat.me_is (c.in-Ok-open.ensures.stands found.0 o.does.1);
            serves = ap (λ (j : JournalSeen). j.failed) c.in-Ok-open.ensures.journal;
          });
    }

-- what holds of the store before holds of it as it was read
pub returns-in-Ok-open-clause-back : goal.returns-in-Ok-open-clause-back
returns-in-Ok-open-clause-back g c = λ d p seat calls cut left.
    let back = returns-in-Ok-open-clause-read g c in
    back.back d p seat calls cut ((comes_back_law g.S.Store.seen g.S.Store.may_leave d p calls).stopped cut c.args.store back.read left back.was.before)

-- a node for which memory was short gives its store back
pub returns-in-Err-open-clause-unread : goal.returns-in-Err-open-clause-unread
returns-in-Err-open-clause-unread g c =
    let found = c.in-Ok.ensures.does in
    let o = found.1 in
    let new = c.in-Ok.opened.journal.store in
    let same = c.close.ensures.store ∙ ap (λ o. o.journal.store) c.in-Err-open.ensures.back in
    inr (record {
      read = o.read;
      was = o.was;
      left = λ d p seat calls cut left. (
        subst (IsLeftAfter g.S.Store.seen g.S.Store.may_leave d p calls cut) (sym same)
            ((comes_back_law g.S.Store.seen g.S.Store.may_leave d p calls).opened cut found.0 o.read new left
            (at_seat g.S.Store.seen g.S.Store.may_leave d p c.args.config.powers c.args.config.me (Opened found.0) o.read new seat.powers_are seat.me_is o.does)),
        λ e. cc,
      );
    })

pub returns-in-Err-open-clause-refused : goal.returns-in-Err-open-clause-refused
returns-in-Err-open-clause-refused g c = λ d p seat calls cut left.
    let found = c.in-Ok.ensures.does in
    let o = found.1 in
    let new = c.in-Ok.opened.journal.store in
    let same = c.close.ensures.store ∙ ap (λ o. o.journal.store) c.in-Err-open.ensures.back in
    subst (IsLeftAfter g.S.Store.seen g.S.Store.may_leave d p calls cut) (sym same)
    ((comes_back_law g.S.Store.seen g.S.Store.may_leave d p calls).opened cut found.0 o.read new
    ((comes_back_law g.S.Store.seen g.S.Store.may_leave d p calls).stopped cut c.args.store o.read left o.was.before)
    (at_seat g.S.Store.seen g.S.Store.may_leave d p c.args.config.powers c.args.config.me (Opened found.0) o.read new seat.powers_are seat.me_is o.does))
