-- A validator comes back over its journal, and that is told.
use Rattle.std.proofs.Common.{◌≡◌, ◌⊎◌, ℕ, false, inl, inr, Option, Some, None, List, [], ◌∷◌, ◌++◌, length, refl, sym, ap, ◌∙◌, subst, eq-eqb, append_assoc, append-nil}
use Rattle.std.specs.Prelude.{reverse}
use Rattle.std.proofs.lemmas.List.{reverse-reverse}
use Rattle.authenticators.specs.Ring.{Ring}
use Rattle.vote_journal.specs.Layout.{IsJournal, IsWhole}
use Rattle.vote_journal.specs.Saving.{KeepsRecords, KeepsEach}
use Rattle.vote_journal.specs.Kept.{IsOpened}
use Rattle.vote_journal.proofs.Stops.{one_journal, whole_is_journal}
use Rattle.protocol.specs.Tags.{Setting}
use Rattle.protocol.specs.Messages.{Bundle, Record}
use Rattle.protocol.specs.State.{Node, State}
use Rattle.protocol.specs.Restart.{opened}
use Rattle.protocol.specs.Rings.{IsRingOf}
use Rattle.protocol.specs.World.{Cut, cut_record}
use Rattle.protocol.specs.Calls.{NoMemory, JournalFailed, call_number}
use Rattle.protocol.specs.Effects.{bundles_in}
use Rattle.protocol.specs.History.{Settle}
use Rattle.protocol.specs.declared.records.OwnMessage.{OwnMessage}
use Rattle.round_states.specs.Seen.{delivered_by}
use Rattle.node_core.specs.Core.{Core, JournalSeen, Stands}
use Rattle.node_core.specs.Calls.{IsLeftBy}
use Rattle.world_schedule.specs.Health.{Health, Serving, Broken, Closed, doubt, HasHealth}
use Rattle.world_schedule.specs.Calls.{Reopened, moved}
use Rattle.world_schedule.specs.Cores.{AreOwn, StandsIn}
use Rattle.world_schedule.specs.Reports.{Made, validator_of, noted, told, told_of_call}
use Rattle.world_schedule.specs.Making.{Hands, Reopens, Scene, IsMetBy, IsOne, IsTurn, IsSettled, is_refused_memory, scene_next, scene_after}
use Rattle.world_schedule.specs.Standings.{Holds, Tells}
use Rattle.world_schedule.specs.Validators.{IsNumber, IsUp, IsStopped, HasMet, LeadsTo, HasTurned}
use Rattle.world_schedule.specs.Restarting.{HasStopped, IsBack, HasReopened, HasRestarted}
use Rattle.world_schedule.specs.declared.validator.Validator.{Validator}
use Rattle.world_schedule.specs.declared.restarting.Stopped.{Stopped}
use Rattle.world_schedule.specs.declared.seat.Seat.{Seat}
use Rattle.world_schedule.specs.declared.seat.Seat.TheVariants as seats
use Rattle.world_schedule.specs.declared.chronicle.Chronicle.{Chronicle}
use Rattle.world_schedule.specs.declared.report.What.TheVariants.{Answered}
use Rattle.world_schedule.proofs.Called.{idle, told_idly, holds_idly, node_idly, health_idly, owing_idly}
use Rattle.world_schedule.proofs.Staying.{stopped_at}
use Rattle.world_schedule.proofs.Turning.{leads_once, leads_on, moved_one, moved_turn}

-- ---- a store that is opened again

-- an opening finds the records that the store had, and no others
pub found_again : (powers : List ℕ) (p : ℕ) (bytes now : List ℕ) (decisions : List Bundle) (own : List OwnMessage) (rs : List Record) → IsOpened powers p (λ d. d ≡ bytes) now decisions own → IsJournal powers p bytes rs → IsWhole powers p now rs
found_again powers p bytes now decisions own rs o j = subst (IsWhole powers p now) (one_journal powers p bytes o.rs rs (subst (λ d. IsJournal powers p d o.rs) o.found.1 o.found.2) j) o.whole

pub kept_by_opening : (powers : List ℕ) (p : ℕ) (bytes now : List ℕ) (decisions : List Bundle) (own : List OwnMessage) → IsOpened powers p (λ d. d ≡ bytes) now decisions own → KeepsRecords powers p bytes now
kept_by_opening powers p bytes now decisions own o rs j = whole_is_journal powers p now rs (found_again powers p bytes now decisions own rs o j)

pub kept_by_refusal : (powers : List ℕ) (p : ℕ) (bytes now : List ℕ) → KeepsEach powers p (λ d. d ≡ bytes) (λ d. d ≡ now) → KeepsRecords powers p bytes now
kept_by_refusal powers p bytes now k rs j = let m = k now refl in m.2 rs (subst (λ d. IsJournal powers p d rs) (sym m.1) j)

-- over them the node stands as it stood
pub stands_again : (c : Setting) (p : ℕ) (journal : List Record) (ring : Ring) (core : Core) → IsRingOf c p ring → core.machine.powers ≡ c.powers → core.machine.me ≡ p → core.ring ≡ ring
    → Stands (opened p (reverse (reverse journal))) core → AreOwn p journal → StandsIn c p (opened p journal) core
stands_again c p journal ring core r powers me same s own = record {
  own = record { powers = powers; me = me; ring = subst (IsRingOf c p) (sym same) r };
  stands = subst (λ j. Stands (opened p j) core) (reverse-reverse journal) s;
  decided = own;
}

-- the journal of a core that serves
pub journal_of_core : (c : Setting) (p : ℕ) (n : Node) (core : Core) → StandsIn c p n core → core.journal.failed ≡ false → IsJournal c.powers p core.journal.bytes (reverse n.journal)
journal_of_core c p n core st serves =
    whole_is_journal c.powers p core.journal.bytes (reverse n.journal) (subst (λ me. IsWhole c.powers me core.journal.bytes (reverse n.journal)) st.own.me (subst (λ powers. IsWhole powers core.machine.me core.journal.bytes (reverse n.journal)) st.own.powers (st.stands.journal serves)))

-- ---- a validator ends

pub left_of : (c : Setting) (p : ℕ) (n : Node) (h : Health) (core : Core) → StandsIn c p n core → HasHealth c p n h core.journal → IsLeftBy c p n (doubt h) core.journal.bytes
left_of c p n Serving core st serves = (reverse n.journal, journal_of_core c p n core st serves, inl (reverse-reverse n.journal))
left_of c p n (Broken cut) core st health = health.1.0
left_of c p n (Closed cut) core st health = absurd health

left_kept : (c : Setting) (p : ℕ) (n : Node) (cut : Option Cut) (bytes now : List ℕ) → IsLeftBy c p n cut bytes → KeepsRecords c.powers p bytes now → IsLeftBy c p n cut now
left_kept c p n cut bytes now left kept = (left.0, kept left.0 left.1, left.2)

pub has_stopped : (c : Setting) (s : Scene) (v : Validator) (stopped : Stopped) → IsUp c s v → HasStopped c.powers v stopped → IsStopped c s stopped
has_stopped c s v stopped up h =
    let n : Node = s.standing.nodes v.number in
    let state : v.core.machine.state ≡ n.state = up.stands.stands.state in
    let here : stopped.number ≡ v.number = h.number in
    let left = left_kept c v.number n (doubt (s.health v.number)) v.core.journal.bytes stopped.store.store.bytes.items (left_of c v.number n (s.health v.number) v.core up.stands up.health) h.kept in record {
      number = subst (IsNumber c) (sym here) up.number;
      left = subst (λ i. IsLeftBy c i (s.standing.nodes i) (doubt (s.health i)) stopped.store.store.bytes.items) (sym here) left;
      own = subst (λ i. AreOwn i (s.standing.nodes i).journal) (sym here) up.stands.decided;
      told = h.told ∙ up.told ∙ ap (λ (l : List Bundle). length l) up.stands.stands.decisions ∙ ap (λ i. length (bundles_in (s.standing.nodes i).journal)) (sym here);
      height = h.height ∙ ap (λ (t : State). t.height) state ∙ ap (λ i. (s.standing.nodes i).state.height) (sym here);
      round = h.round ∙ ap (λ (t : State). t.round) state ∙ ap (λ i. (s.standing.nodes i).state.round) (sym here);
      delivered = h.delivered ∙ ap (λ (t : State). t.delivered) state ∙ ap (λ i. (s.standing.nodes i).state.delivered) (sym here);
    }

-- ---- what an opening finds

-- the journal that its store has, as the node saved it or with what was being saved as the device failed
pub record IsFound (c : Setting) (p : ℕ) (n : Node) (h : Health) (bytes : List ℕ) : Type 0 where
  pub cut : Option Cut
  pub found : (cut ≡ None) ⊎ (cut ≡ doubt h)
  pub journal : IsJournal c.powers p bytes (reverse (cut_record c p n cut ++ n.journal))

pub is_found : (c : Setting) (p : ℕ) (n : Node) (h : Health) (bytes : List ℕ) → IsLeftBy c p n (doubt h) bytes → IsFound c p n h bytes
is_found c p n h bytes left = elim left.2 [
  | inl e ↦ record { cut = None; found = inl refl; journal = subst (IsJournal c.powers p bytes) (sym (reverse-reverse left.0) ∙ ap (λ (l : List Record). reverse l) e) left.1 }
  | inr e ↦ record { cut = doubt h; found = inr refl; journal = subst (IsJournal c.powers p bytes) (sym (reverse-reverse left.0) ∙ ap (λ (l : List Record). reverse l) e) left.1 }
]

-- its store keeps its records also where it is not opened
pub stopped_again : (c : Setting) (s : Scene) (old new : Stopped) → IsStopped c s old → new ≡ record old { store = new.store } → KeepsRecords c.powers old.number old.store.store.bytes.items new.store.store.bytes.items → IsStopped c s new
stopped_again c s old new k e kept =
    let number : new.number ≡ old.number = ap (λ (v : Stopped). v.number) e in record {
      number = subst (IsNumber c) (sym number) k.number;
      left = subst (λ i. IsLeftBy c i (s.standing.nodes i) (doubt (s.health i)) new.store.store.bytes.items) (sym number) (left_kept c old.number (s.standing.nodes old.number) (doubt (s.health old.number)) old.store.store.bytes.items new.store.store.bytes.items k.left kept);
      own = subst (λ i. AreOwn i (s.standing.nodes i).journal) (sym number) k.own;
      told = ap (λ (v : Stopped). v.decisions_told) e ∙ k.told ∙ ap (λ i. length (bundles_in (s.standing.nodes i).journal)) (sym number);
      height = ap (λ (v : Stopped). v.height) e ∙ k.height ∙ ap (λ i. (s.standing.nodes i).state.height) (sym number);
      round = ap (λ (v : Stopped). v.round) e ∙ k.round ∙ ap (λ i. (s.standing.nodes i).state.round) (sym number);
      delivered = ap (λ (v : Stopped). delivered_by v.delivered.items) e ∙ k.delivered ∙ ap (λ i. (s.standing.nodes i).state.delivered) (sym number);
    }

-- ---- the validator is back

opened_node : (c : Setting) (p : ℕ) (n : Node) (cut : Option Cut) → opened p (cut_record c p n cut ++ n.journal) ≡ moved c p n (Reopened p cut)
opened_node c p n cut = rw (eq-eqb p p refl) refl

pub meets_reopening : (c : Setting) (s : Scene) (p : ℕ) (mid : Validator) → IsBack c s p mid → IsMetBy c p (s.standing.nodes p) (s.health p) Reopens (0, 0) [] mid.core
meets_reopening c s p mid back =
    let n : Node = s.standing.nodes p in record {
      call = Reopened p back.cut;
      new = Serving;
      by = refl;
      met = (refl, (back.cut, back.found, refl));
      stands = subst (λ m. StandsIn c p m mid.core) (opened_node c p n back.cut) back.stands;
      health = back.serves;
      outgoing = back.released;
      spelled = λ b i. absurd i;
    }

-- ---- it is not

-- the answer to an opening that failed, and what was told of it
pub record IsRefused (c : Setting) (s : Scene) (stopped : Stopped) (numbers : ℕ × ℕ) (before after : Chronicle) : Type 0 where
  pub which : (numbers ≡ call_number NoMemory) ⊎ (numbers ≡ call_number JournalFailed)
  pub stopped_is : IsStopped c s stopped
  pub tells : Tells (Some stopped.number) (Answered (record { number = numbers.0; inner = numbers.1 }) ∷ []) before after
  pub messages : after.messages ≡ before.messages
  pub holds : Holds c s.standing.numbered before.messages

module _ (c : Setting) (s : Scene) (stopped : Stopped) (numbers : ℕ × ℕ) (before after : Chronicle) (k : IsRefused c s stopped numbers before after) where
  abbrev p : ℕ
  p = stopped.number

  abbrev closed : Health
  closed = Closed (doubt (s.health p))

  abbrev pub refusal : Made
  refusal = idle c s p numbers closed before after k.tells k.messages k.holds

  pub refusal_one : IsOne c s before.event p Reopens refusal
  refusal_one = record { event = refl; by = refl; met = (k.which, refl, refl); spelled = λ b i. absurd i }

  pub refusal_stopped : IsStopped c (scene_next c s refusal) stopped
  refusal_stopped = stopped_at c s (scene_next c s refusal) stopped (node_idly c s p numbers closed before after k.tells k.messages k.holds p refl) (ap doubt (health_idly c s p numbers closed before after k.tells k.messages k.holds p refl)) k.stopped_is

  pub refusal_holds : Holds c (scene_next c s refusal).standing.numbered after.messages
  refusal_holds = holds_idly c s p numbers closed before after k.tells k.messages k.holds

  pub refusal_told : after.told.items ≡ before.told.items ++ noted refusal (told_of_call c s.standing refusal)
  refusal_told = told_idly c s p numbers closed before after k.tells k.messages k.holds

  -- the device failed
  pub has_closed : is_refused_memory numbers ≡ false → HasMet c s Reopens false p (seats.Closed stopped) before after
  has_closed e = record {
    made = refusal;
    one = refusal_one;
    starved_is = sym e;
    up = (
      refl,
      record {
        stopped = refusal_stopped;
        cut = doubt (s.health p);
        health = health_idly c s p numbers closed before after k.tells k.messages k.holds p refl;
        owes = owing_idly c s p numbers closed before after k.tells k.messages k.holds p refl ∙ e;
      },
    );
    holds = refusal_holds;
    told = refusal_told;
    event = k.tells.event;
  }

-- ---- all of it

pub reopened_once : (c : Setting) (s : Scene) (p : ℕ) (new : Seat) (before after : Chronicle) → HasMet c s Reopens false p new before after → HasReopened c s p new before after
reopened_once c s p new before after k = (k.made ∷ [], (k.one, sym k.starved_is), leads_once c s Reopens false p new before after k)

-- memory was refused to the first opening
pub reopened_again : (c : Setting) (s : Scene) (stopped : Stopped) (new : Seat) (before between after : Chronicle) → (k : IsRefused c s stopped (call_number NoMemory) before between) → HasMet c (scene_next c s (refusal c s stopped (call_number NoMemory) before between k)) Reopens false stopped.number new between after
    → HasReopened c s stopped.number new before after
reopened_again c s stopped new before between after k j =
    let first : Made = refusal c s stopped (call_number NoMemory) before between k in
    let next : Scene = scene_next c s first in
    let later : LeadsTo c next (j.made ∷ []) stopped.number new between after = leads_once c next Reopens false stopped.number new between after j in
    let one = refusal_told c s stopped (call_number NoMemory) before between k in (
      first ∷ j.made ∷ [],
      (refusal_one c s stopped (call_number NoMemory) before between k, refl, moved_one c next Reopens j.made _ _ _ _ k.tells.event refl j.one, sym j.starved_is),
      record {
        by = λ m i. elim i [ inl e ↦ ap (λ (x : Made). validator_of x.call) e | inr more ↦ later.by m more ];
        up = later.up;
        holds = later.holds;
        told = later.told ∙ ap (λ l. l ++ told c next.standing (j.made ∷ [])) one ∙ append_assoc before.told.items (noted first (told_of_call c s.standing first)) (told c next.standing (j.made ∷ []));
        event = later.event ∙ k.tells.event;
      },
    )

-- settled, where it has a node
serving_settled : (c : Setting) (s : Scene) (k p : ℕ) (h : Health) (core : JournalSeen) (n : Node) (ms : List Made) → HasHealth c p n h core → IsTurn c s k p (Hands Settle) ms → IsSettled c s k p h ms
serving_settled c s k p Serving core n ms health t = t
serving_settled c s k p (Broken cut) core n ms health t = t
serving_settled c s k p (Closed cut) core n ms health t = absurd health

pub has_restarted : (c : Setting) (s : Scene) (p : ℕ) (mid : Validator) (new : Seat) (before between after : Chronicle) → (k : HasReopened c s p (seats.Up mid) before between) → HasTurned c (scene_after c s k.0) (Hands Settle) mid.number new between after → HasRestarted c s p new before after
has_restarted c s p mid new before between after k j =
    let here : mid.number ≡ p = k.2.up.0 in
    let up = k.2.up.1 in
    let after_it : Scene = scene_after c s k.0 in
    let turn = moved_turn c after_it (Hands Settle) j.0 _ _ _ _ k.2.event here j.1 in (
      k.0 ++ j.0,
      (k.0, j.0, refl, k.1, subst (λ i. IsSettled c after_it before.event p (after_it.health i) j.0) here (serving_settled c after_it before.event p (after_it.health mid.number) mid.core.journal (after_it.standing.nodes mid.number) j.0 (subst (λ i. HasHealth c i (after_it.standing.nodes mid.number) (after_it.health mid.number) mid.core.journal) here up.health) turn)),
      leads_on c s k.0 j.0 p mid.number (seats.Up mid) new before between after here k.2 j.2,
    )

-- it has none
closed_restart : (c : Setting) (s : Scene) (p : ℕ) (stopped : Stopped) (before after : Chronicle) → HasReopened c s p (seats.Closed stopped) before after → HasRestarted c s p (seats.Closed stopped) before after
closed_restart c s p stopped before after k =
    let here : stopped.number ≡ p = k.2.up.0 in
    let closed : (scene_after c s k.0).health p ≡ Closed k.2.up.1.cut = subst (λ i. (scene_after c s k.0).health i ≡ Closed k.2.up.1.cut) here k.2.up.1.health in (
      k.0,
      (k.0, [], sym (append-nil k.0), k.1, subst (λ h. IsSettled c (scene_after c s k.0) before.event p h []) (sym closed) refl),
      k.2,
    )

pub has_not_restarted : (c : Setting) (s : Scene) (p : ℕ) (seat : Seat) (before after : Chronicle) → ((v : Validator) → seat ≡ seats.Up v → ⊥) → HasReopened c s p seat before after → HasRestarted c s p seat before after
has_not_restarted c s p seats.Liar before after none k = absurd k.2.up
has_not_restarted c s p (seats.Up v) before after none k = absurd (none v refl)
has_not_restarted c s p (seats.Closed stopped) before after none k = closed_restart c s p stopped before after k
