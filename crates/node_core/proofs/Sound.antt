-- What stays sound as a transaction is queued.
use Rattle.std.proofs.Common.{◌≡◌, ℕ, zero, suc, true, false, List, inl, inr, None, refl, sym, ap, subst, ◌∙◌}
use Rattle.std.specs.Prelude.{is_none}
use Rattle.std.proofs.lemmas.Bool.{not-false}
use Rattle.transactions.specs.Grammar.{IsTx}
use Rattle.protocol.specs.Values.{Tx, Item}
use Rattle.protocol.specs.Tags.{Setting, tx_is_right}
use Rattle.protocol.specs.State.{State, Queue}
use Rattle.protocol.specs.Messages.{Message}
use Rattle.protocol.specs.Lawful.{Tied, KeepsStamps}
use Rattle.protocol.proofs.Local.{kept_tied}
use Rattle.protocol.specs.Queues.{queued}
use Rattle.protocol.specs.Refusals.{tx_causes, first_cause}
use Rattle.protocol.proofs.Arrivals.{none_stand}
use Rattle.protocol.proofs.Waiting.{queued_in}
use Rattle.std.proofs.Common.{All, arith, Option, Some}
use Rattle.transactions.specs.Grammar.{AreTags}
use Rattle.protocol.specs.Values.{Id}
use Rattle.protocol.specs.declared.types.Step.{Step}
use Rattle.protocol.specs.declared.types.Step.TheVariants.{Propose, Prevote, Precommit}
use Rattle.protocol.specs.Arrivals.{stamp_of, kept_message}
use Rattle.round_states.specs.Machine.{Machine, Agrees}
use Rattle.node_core.proofs.Firings.{same_context}
use Rattle.node_core.specs.Core.{Core, IsSound, IsGood, IsStamp, IsSame, setting, setting_of, context_of}

right_where_none : (c : Setting) (p : ℕ) (d : List Item) (qs : List Queue) (t : Tx) → first_cause (tx_causes c p d qs t) ≡ None → tx_is_right c p t ≡ true
right_where_none c p d qs t e = not-false _ (none_stand (tx_causes c p d qs t) (ap is_none e)).1.1.0

pub sound_queued : (core : Core) (t : Tx) (d : List Item) → IsSound core → IsTx t → first_cause (tx_causes (setting_of core) core.machine.me d core.queues t) ≡ None → IsSound (record core { queues = queued t core.queues })
sound_queued core t d s lawful none = record {
  owner = s.owner;
  count = s.count;
  me = s.me;
  whole = s.whole;
  few = s.few;
  agrees = s.agrees;
  room = s.room;
  waiting = λ u i. elim (queued_in t u core.queues i) [
    | inl e ↦ subst (IsGood (setting_of core) core.machine.me) (sym e) (lawful, right_where_none (setting_of core) core.machine.me d core.queues t none)
    | inr k ↦ s.waiting u k
  ];
  stamps = s.stamps;
  decided = s.decided;
  joined = s.joined;
  spelled = s.spelled;
  own = s.own;
  said = s.said;
  journal = s.journal;
  kept = λ running. let k = s.kept running in record { records = k.records; decisions = k.decisions; said = k.said; whole = k.whole; lawful = record { tied = k.lawful.tied; keeps = k.lawful.keeps; follows = k.lawful.follows; made = k.lawful.made } };
}

pub stamps_kept : (step : Step) (round sender : ℕ) (content : Option Id) (tags : List (List ℕ)) → AreTags tags → All IsStamp (stamp_of step round sender content tags)
stamps_kept Precommit round sender (Some x) tags h zero d lt = h
stamps_kept Precommit round sender (Some x) tags h (suc i) d lt = absurd (omega (arith, lt))
stamps_kept Precommit round sender None tags h i d lt = absurd (omega (arith, lt))
stamps_kept Prevote round sender content tags h i d lt = absurd (omega (arith, lt))
stamps_kept Propose round sender content tags h i d lt = absurd (omega (arith, lt))

-- a machine without room is itself
pub roomless : (m : Machine) → m.room ≡ None → record m { room = None } ≡ m
roomless m e = λ i. record m { room = sym e i }

pub same_agreed : (core : Core) (m : Machine) → Agrees (context_of core) m → IsSame core (record core { machine = m })
unfolding setting
same_agreed core m a = record { powers = a.powers; me = a.me; ring = refl }

-- a message was kept, and the journal tells of the variables as before
pub sound_kept : (core : Core) (m : Machine) (message : Message) → IsSound core → Agrees (context_of core) m → m.room ≡ None → All IsStamp m.state.stamps → m.state ≡ kept_message core.machine.state message message.body
    → m.state.height ≡ core.machine.state.height → m.state.delivered ≡ core.machine.state.delivered
    → (core.journal.failed ≡ false → KeepsStamps (setting_of core) core.machine.me m.state.height m.state.votes m.state.stamps)
    → IsSound (record core { machine = m })
unfolding setting
sound_kept core m message s a room stamps state height delivered keeps = record {
  owner = rw a.me s.owner;
  count = rw a.powers s.count;
  me = rw (a.me, a.powers) s.me;
  whole = s.whole;
  few = rw a.powers s.few;
  agrees = subst (λ g. Agrees g m) (sym (same_context core (record core { machine = m }) (same_agreed core m a))) a;
  room = room;
  waiting = rw (a.powers, a.me) s.waiting;
  stamps = stamps;
  decided = rw height s.decided;
  joined = delivered ∙ s.joined;
  spelled = s.spelled;
  own = rw a.me s.own;
  said = rw a.me s.said;
  journal = s.journal ∙ sym a.me;
  kept = λ running.
      let k = s.kept running in
      record {
        records = k.records;
        decisions = k.decisions;
        said = rw a.me k.said;
        whole = rw (a.powers, a.me) k.whole;
        lawful = record { tied = subst (λ (x : State). Tied x k.records) (sym state) (kept_tied core.machine.state k.records message message.body k.lawful.tied); keeps = rw (a.powers, a.me) (keeps running); follows = rw a.powers k.lawful.follows; made = rw a.me k.lawful.made };
      };
}
