-- A core, its store, and a core that is opened over what was left.
use Rattle.std.proofs.Common.{◌≡◌, ◌⊎◌, ℕ, inl, inr, Option, None, List, [], ◌∷◌, ◌++◌, refl, sym, ap, ◌∙◌, subst}
use Rattle.std.specs.Prelude.{reverse}
use Rattle.std.proofs.lemmas.List.{reverse-reverse}
use Rattle.vote_journal.specs.Layout.{IsJournal}
use Rattle.vote_journal.specs.Saving.{KeepsEach, HasNoJournal, IsFoundIn}
use Rattle.vote_journal.specs.History.{Opened, Does}
use Rattle.vote_journal.proofs.Stops.{one_journal, whole_is_journal}
use Rattle.protocol.specs.Tags.{Setting}
use Rattle.protocol.specs.Messages.{Record}
use Rattle.protocol.specs.State.{Node}
use Rattle.protocol.specs.Restart.{opened}
use Rattle.protocol.specs.World.{Cut, cut_record}
use Rattle.node_core.specs.Core.{Core, JournalSeen, Stands}
use Rattle.node_core.specs.Calls.{IsLeftBy}
use Rattle.world_schedule.specs.Calls.{Call, Reopened, node_after}
use Rattle.world_schedule.specs.Cores.{StandsIn}
use Rattle.world_schedule.specs.Headline.{found_after}
use Rattle.world_schedule.specs.Health.{Health, Serving, Broken, Closed, doubt, HasHealth}
use Rattle.world_schedule.proofs.Headline.{one_later, same_node, step_law, headline_law}
use Rattle.world_schedule.proofs.Reopening.{journal_of_core}
use Rattle.stopped_cores.specs.Over.{IsOver, IsBack, IsClosed, IsLeftAfter, IsOpened}
use Rattle.stopped_cores.specs.Laws.{GoesOnLaw, ComesBackLaw, StoppedCoresLaw}

-- ---- a core

beside_health : (c : Setting) (p : ℕ) (n : Node) (health : Health) (old new : JournalSeen) → new ≡ old → HasHealth c p n health old → HasHealth c p n health new
beside_health c p n health old new e h = subst (HasHealth c p n health) (sym e) h

pub goes_on_law : GoesOnLaw
goes_on_law c p = record {
  first = λ core own stands serves. record { is_after = (step_law c p).first core own stands; has = serves };
  called = λ calls health request numbers before core m. record {
    is_after = subst (λ n. StandsIn c p n core) (sym (one_later c p calls m.call)) m.stands;
    has = subst (λ n. HasHealth c p n m.new core.journal) (sym (one_later c p calls m.call)) m.health;
  };
  elsewhere = λ calls health call core e over. record {
    is_after = (step_law c p).elsewhere calls call core e over.is_after;
    has = subst (λ n. HasHealth c p n health core.journal) (sym (one_later c p calls call ∙ same_node c p (node_after c p calls) call e)) over.has;
  };
  beside = λ calls health old new b over. record {
    is_after = (step_law c p).beside calls old new b over.is_after;
    has = beside_health c p (node_after c p calls) health old.journal new.journal b.journal over.has;
  };
}

-- ---- its store

module _ {S : Type 0} (seen : S → List ℕ) (may_leave : S → List ℕ → Type 0) (c : Setting) (p : ℕ) (calls : List Call) where
  abbrev n : Node
  n = node_after c p calls

  ended_by : (health : Health) (core : Core) (store : S) → IsOver c p calls health core → IsClosed seen may_leave core store → IsLeftAfter seen may_leave c p calls (doubt health) store
  ended_by Serving core store over closed bytes may =
      let same : bytes ≡ core.journal.bytes = closed.synced over.has bytes may ∙ closed.bytes in
      let stood : IsJournal c.powers p core.journal.bytes (reverse n.journal) = journal_of_core c p n core over.is_after over.has in
      (reverse n.journal, subst (λ b. IsJournal c.powers p b (reverse n.journal)) (sym same) stood, inl (reverse-reverse n.journal))
  ended_by (Broken cut) core store over closed bytes may = over.has.1.1 bytes (closed.left bytes may)
  ended_by (Closed cut) core store over closed bytes may = absurd over.has

  kept_by : (cut : Option Cut) (old new : S) → IsLeftAfter seen may_leave c p calls cut old → KeepsEach c.powers p (may_leave old) (may_leave new) → IsLeftAfter seen may_leave c p calls cut new
  kept_by cut old new left keeps bytes may =
      let before = keeps bytes may in
      let l = left before.0 before.1 in
      (l.0, before.2 l.0 l.1, l.2)

  not_bad : (cut : Option Cut) (old : S) → IsLeftAfter seen may_leave c p calls cut old → HasNoJournal c.powers p (may_leave old) → ⊥
  not_bad cut old left none = let l = left none.0 none.1 in none.2 l.0 l.1

  -- an opening leaves what it found
  opened_left : (cut : Option Cut) (records : List Record) (old new : S) → IsLeftAfter seen may_leave c p calls cut old → Does seen may_leave c.powers p (Opened records) old new → IsLeftAfter seen may_leave c p calls cut new
  opened_left cut records old new left d bytes may =
      let found : IsFoundIn c.powers p (may_leave old) records = d.0 in
      let l = left found.0 found.1 in
      let same : records ≡ l.0 = one_journal c.powers p found.0 records l.0 found.2 l.1 in
      let here : bytes ≡ seen new = d.2 bytes may in (
        records,
        subst (λ b. IsJournal c.powers p b records) (sym here) (whole_is_journal c.powers p (seen new) records d.1),
        subst (λ (rs : List Record). (reverse rs ≡ n.journal) ⊎ (reverse rs ≡ cut_record c p n cut ++ n.journal)) (sym same) l.2,
      )

  -- the records that an opening found are those of the node, or those and what was cut
  back_from : (cut : Option Cut) (old new : S) (core : Core) → IsLeftAfter seen may_leave c p calls cut old → IsOpened seen may_leave c p old new core → IsBack c p calls cut core
  back_from cut old new core left o =
      let found : IsFoundIn c.powers p (may_leave old) o.records = o.does.0 in
      let l = left found.0 found.1 in
      let same : o.records ≡ l.0 = one_journal c.powers p found.0 o.records l.0 found.2 l.1 in
      let at : (j : List Record) → reverse l.0 ≡ j → Stands (opened p j) core = λ j e. subst (λ (rs : List Record). Stands (opened p rs) core) (ap (λ (rs : List Record). reverse rs) same ∙ e) o.stands in
      let over : (cut : Option Cut) → Stands (opened p (found_after c p calls cut)) core → IsOver c p (calls ++ Reopened p cut ∷ []) Serving core =
      λ cut s. record { is_after = (step_law c p).reopened calls cut core o.own s; has = o.serves } in
      elim l.2 [
        | inl e ↦ (None, inl refl, over None (at (found_after c p calls None) e))
        | inr e ↦ (cut, inr refl, over cut (at (found_after c p calls cut) e))
      ]

pub comes_back_law : {S : Type 0} (seen : S → List ℕ) (may_leave : S → List ℕ → Type 0) → ComesBackLaw seen may_leave
comes_back_law seen may_leave c p calls = record {
  ended = ended_by seen may_leave c p calls;
  elsewhere = λ cut call store e left bytes may. subst (λ m. IsLeftBy c p m cut bytes) (sym (one_later c p calls call ∙ same_node c p (node_after c p calls) call e)) (left bytes may);
  stopped = λ cut old new left no_more bytes may. left bytes (no_more bytes may);
  refused = λ cut fault old new left d. kept_by seen may_leave c p calls cut old new left d.0;
  never_bad = λ cut old new left d. not_bad seen may_leave c p calls cut old left (d.1 refl);
  opened = opened_left seen may_leave c p calls;
  back = back_from seen may_leave c p calls;
}

pub stopped_cores_law : StoppedCoresLaw
stopped_cores_law c h early late fair p q okp okq here there one other of_p of_q = headline_law c h early late fair p q okp okq one other of_p.is_after of_q.is_after
