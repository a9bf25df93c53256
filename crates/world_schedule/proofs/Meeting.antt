-- A core meets what is asked of it.
use Rattle.std.proofs.Common.{◌≡◌, ◌≢◌, ℕ, ◌<◌, ◌^◌, ◌⊎◌, inl, inr, Bool, true, false, Option, None, List, [], ◌∷◌, ◌++◌, map, Result, Ok, Err, IfErr, OnOk, OnErr, refl, sym, ap, ◌∙◌, subst, eq-eqb, append-nil}
use Rattle.std.specs.Prelude.{reverse}
use Rattle.messages.specs.Grammar.{IsBody}
use Rattle.protocol.specs.Tags.{Setting}
use Rattle.protocol.specs.Messages.{◌∈◌, Body, OfAsk}
use Rattle.protocol.specs.State.{Node}
use Rattle.protocol.specs.Restart.{own_since}
use Rattle.protocol.specs.History.{Input, Settle, after}
use Rattle.protocol.specs.World.{Cut}
use Rattle.protocol.specs.Calls.{Halted, JournalFailed, call_number}
use Rattle.node_core.specs.Core.{Core, JournalSeen, frame_by}
use Rattle.protocol.specs.Answers.{Answers}
use Rattle.node_core.specs.Calls.{IsUnchanged, TellsJournal, IsLeftBy, LeavesBy}
use Rattle.protocol.specs.declared.refusal.Refusal.{Refusal as Answer}
use Rattle.protocol.specs.declared.refusal.Refusal.TheVariants as answers
use Rattle.vote_journal.specs.Order.{AreLawful}
use Rattle.vote_journal.proofs.Layouts.{lawful_records}
use Rattle.world_schedule.specs.Health.{Health, Serving, Broken, Closed, HasHealth}
use Rattle.world_schedule.specs.Calls.{Call, Handed, Asked, Resent, moved, bodies_by}
use Rattle.world_schedule.specs.Cores.{StandsIn}
use Rattle.world_schedule.specs.Handed.{told_numbers}
use Rattle.world_schedule.specs.Answered.{IsAnswered, IsByContract, IsAnsweredIn}
use Rattle.world_schedule.specs.Reports.{validator_of}
use Rattle.world_schedule.specs.Making.{Request, Hands, Asks, Resends, IsIdle, IsMet, IsMetBy}
use Rattle.world_schedule.proofs.Answered.{answered_law}
use Rattle.world_schedule.proofs.Cores.{kept_law}
use Rattle.world_schedule.proofs.Serving.{is_broken, not_halted}
use Rattle.world_schedule.proofs.Spelled.{AreSaved, handed_saved, since_saved, left_spelled, saved_spelled}

pub own_node : (c : Setting) (p : ℕ) (n : Node) (input : Input) (times : ℕ) → after c p n input times ≡ moved c p n (Handed p input times)
own_node c p n input times = rw (eq-eqb p p refl) refl

-- ---- a validator whose journal has failed

-- it does nothing
idle_by : (c : Setting) (p : ℕ) (n : Node) (cut : Option Cut) (request : Request) (old new : Core) (result : Result (Unit {0}) Answer) → (IsIdle p (Broken cut) (call_number Halted) (Handed p Settle 0) (Broken cut) → IsMet c p n (Broken cut) request (call_number Halted) (Handed p Settle 0) (Broken cut))
    → StandsIn c p n old → old.journal.failed ≡ true → LeavesBy c p n cut old.journal → result ≡ Err answers.Halted → IsUnchanged old new → IsMetBy c p n (Broken cut) request (told_numbers result) old.outgoing new
idle_by c p n cut request old new result met st failed left e same = subst (λ r. IsMetBy c p n (Broken cut) request (told_numbers r) old.outgoing new) (sym e) (record {
  call = Handed p Settle 0;
  new = Broken cut;
  by = refl;
  met = met (record { numbers_are = refl; call_is = refl; stays = refl });
  stands = subst (λ m. StandsIn c p m new) (own_node c p n Settle 0) ((kept_law c p).unchanged n old new st same);
  health = (ap (λ (k : Core). k.journal.failed) same ∙ failed, subst (λ m. LeavesBy c p m cut new.journal) (own_node c p n Settle 0) (subst (LeavesBy c p n cut) (sym (ap (λ (k : Core). k.journal) same)) left));
  outgoing = ap (λ (k : Core). k.outgoing) same ∙ sym (append-nil old.outgoing);
  spelled = λ b i. absurd i;
})

-- what a node that has halted answers
halts : (cause : _) (halted : Bool) (result : Result (Unit {0}) Answer) → halted ≡ true → Answers halted cause result → result ≡ Err answers.Halted
halts cause true result e a = a
halts cause false result e a = absurd (let f : false ≡ true = e in cc)

-- nothing was done, for want of memory
starved_by : (c : Setting) (p : ℕ) (n : Node) (request : Request) (old new : Core) → (IsMet c p n Serving request (16, 0) (Handed p Settle 0) Serving) → StandsIn c p n old → old.journal.failed ≡ false → IsUnchanged old new → IsMetBy c p n Serving request (16, 0) old.outgoing new
starved_by c p n request old new met st serves same = record {
  call = Handed p Settle 0;
  new = Serving;
  by = refl;
  met = met;
  stands = subst (λ m. StandsIn c p m new) (own_node c p n Settle 0) ((kept_law c p).unchanged n old new st same);
  health = ap (λ (k : Core). k.journal.failed) same ∙ serves;
  outgoing = ap (λ (k : Core). k.outgoing) same ∙ sym (append-nil old.outgoing);
  spelled = λ b i. absurd i;
}

-- ---- an ask

asked_for : ℕ → ℕ → Body
asked_for height p = OfAsk (record { height = height; sender = p })

asks_serving : (c : Setting) (p : ℕ) (n : Node) (old new : Core) (result : Result (Unit {0}) Answer) → StandsIn c p n old → old.journal.failed ≡ false → (told_numbers result).0 ≢ 15 → old.machine.state.height < 2 ^ 64 → p < 2 ^ 16
    → IfErr result (λ r. (r ≡ answers.Halted) ⊎ (r ≡ answers.OutOfMemory))
    → OnOk result (new ≡ record old { outgoing = old.outgoing ++ frame_by old (OfAsk (record { height = old.machine.state.height; sender = old.machine.me })) ∷ []; fired = 0 })
    → OnErr result (IsUnchanged old new) → IsMetBy c p n Serving Asks (told_numbers result) old.outgoing new
asks_serving c p n old new (Ok done) st serves runs high own refusal ok err = record {
  call = Asked p;
  new = Serving;
  by = refl;
  met = (inl (refl, refl), refl);
  stands = (kept_law c p).beside n old new st (record { machine = ap (λ (k : Core). k.machine) ok; ring = ap (λ (k : Core). k.ring) ok; queues = ap (λ (k : Core). k.queues) ok; decisions = ap (λ (k : Core). k.decisions) ok; said = ap (λ (k : Core). k.said) ok; journal = ap (λ (k : Core). k.journal) ok });
  health = ap (λ (k : Core). k.journal.failed) ok ∙ serves;
  outgoing = ap (λ (k : Core). k.outgoing) ok ∙ ap (λ f. old.outgoing ++ f ∷ []) ((kept_law c p).asked n old st);
  spelled = λ b i. elim i [
    | inl e ↦ subst IsBody (sym e) (record { height = subst (λ h. h < 2 ^ 64) (ap (λ t. t.height) st.stands.state) high; sender = own })
    | inr none ↦ absurd none
  ];
}
asks_serving c p n old new (Err r) st serves runs high own refusal ok err = elim refusal [
  | inl e ↦ absurd (runs (ap (λ x. (told_numbers (Err x)).0) e))
  | inr e ↦ subst (λ x. IsMetBy c p n Serving Asks (told_numbers (Err x)) old.outgoing new) (sym e) (starved_by c p n Asks old new (inr (refl, refl), refl) st serves err)
]

pub meets_ask : (c : Setting) (p : ℕ) (n : Node) (h : Health) (old new : Core) (result : Result (Unit {0}) Answer) → StandsIn c p n old → HasHealth c p n h old.journal → old.machine.state.height < 2 ^ 64 → p < 2 ^ 16 → Answers old.journal.failed None result
    → IfErr result (λ r. (r ≡ answers.Halted) ⊎ (r ≡ answers.OutOfMemory))
    → OnOk result (new ≡ record old { outgoing = old.outgoing ++ frame_by old (OfAsk (record { height = old.machine.state.height; sender = old.machine.me })) ∷ []; fired = 0 })
    → OnErr result (IsUnchanged old new) → IsMetBy c p n h Asks (told_numbers result) old.outgoing new
meets_ask c p n Serving old new result st health high own answer refusal ok err = asks_serving c p n old new result st health (not_halted old.journal.failed None result health answer) high own refusal ok err
meets_ask c p n (Broken cut) old new result st health high own answer refusal ok err =
    let e = halts None old.journal.failed result health.0 answer in idle_by c p n cut Asks old new result (λ k. k) st health.0 health.1 e (subst (λ r. OnErr r (IsUnchanged old new)) e err)
meets_ask c p n (Closed cut) old new result st health high own answer refusal ok err = absurd health

-- ---- the own messages, sent again

-- what is said of a node's journal can be spelled, where the journal stands whole
said_spelled : (c : Setting) (p : ℕ) (n : Node) (core : Core) (bodies : List Body) → StandsIn c p n core → core.journal.failed ≡ false → AreSaved p n.journal bodies → (b : Body) → b ∈ bodies → IsBody b
said_spelled c p n core bodies st serves = saved_spelled core.machine.powers p n.journal bodies (subst (λ me. AreLawful core.machine.powers me [] (reverse n.journal)) st.own.me (let j = st.stands.journal serves in subst (AreLawful core.machine.powers core.machine.me []) j.records (lawful_records core.machine.powers core.machine.me [] j.entries j.lawful)))

resends_serving : (c : Setting) (p : ℕ) (n : Node) (old new : Core) (result : Result (Unit {0}) Answer) → StandsIn c p n old → old.journal.failed ≡ false → (told_numbers result).0 ≢ 15
    → IfErr result (λ r. (r ≡ answers.Halted) ⊎ (r ≡ answers.OutOfMemory))
    → OnOk result (new ≡ record old { outgoing = old.outgoing ++ map (frame_by old) (own_since old.machine.me n.journal); fired = 0 })
    → OnErr result (IsUnchanged old new) → IsMetBy c p n Serving Resends (told_numbers result) old.outgoing new
resends_serving c p n old new (Ok done) st serves runs refusal ok err =
    let stays : StandsIn c p n new = (kept_law c p).beside n old new st (record { machine = ap (λ (k : Core). k.machine) ok; ring = ap (λ (k : Core). k.ring) ok; queues = ap (λ (k : Core). k.queues) ok; decisions = ap (λ (k : Core). k.decisions) ok; said = ap (λ (k : Core). k.said) ok; journal = ap (λ (k : Core). k.journal) ok }) in
    let still : new.journal.failed ≡ false = ap (λ (k : Core). k.journal.failed) ok ∙ serves in record {
      call = Resent p;
      new = Serving;
      by = refl;
      met = (inl (refl, refl), refl);
      stands = stays;
      health = still;
      outgoing = ap (λ (k : Core). k.outgoing) ok ∙ ap (λ f. old.outgoing ++ f) ((kept_law c p).resent n old st);
      spelled = said_spelled c p n new (own_since p n.journal) stays still (since_saved p n.journal);
    }
resends_serving c p n old new (Err r) st serves runs refusal ok err = elim refusal [
  | inl e ↦ absurd (runs (ap (λ x. (told_numbers (Err x)).0) e))
  | inr e ↦ subst (λ x. IsMetBy c p n Serving Resends (told_numbers (Err x)) old.outgoing new) (sym e) (starved_by c p n Resends old new (inr (refl, refl), refl) st serves err)
]

pub meets_resend : (c : Setting) (p : ℕ) (n : Node) (h : Health) (old new : Core) (result : Result (Unit {0}) Answer) → StandsIn c p n old → HasHealth c p n h old.journal → Answers old.journal.failed None result
    → IfErr result (λ r. (r ≡ answers.Halted) ⊎ (r ≡ answers.OutOfMemory))
    → OnOk result (new ≡ record old { outgoing = old.outgoing ++ map (frame_by old) (own_since old.machine.me n.journal); fired = 0 })
    → OnErr result (IsUnchanged old new) → IsMetBy c p n h Resends (told_numbers result) old.outgoing new
meets_resend c p n Serving old new result st health answer refusal ok err = resends_serving c p n old new result st health (not_halted old.journal.failed None result health answer) refusal ok err
meets_resend c p n (Broken cut) old new result st health answer refusal ok err =
    let e = halts None old.journal.failed result health.0 answer in idle_by c p n cut Resends old new result (λ k. k) st health.0 health.1 e (subst (λ r. OnErr r (IsUnchanged old new)) e err)
meets_resend c p n (Closed cut) old new result st health answer refusal ok err = absurd health

-- ---- what is handed in

handed_by : (c : Setting) (p : ℕ) (n : Node) (input : Input) (numbers : ℕ × ℕ) (call : Call) → IsAnswered c p n input numbers call → (given : Input) × (times : ℕ) × (call ≡ Handed p given times)
handed_by c p n input numbers call (inl k) = (input, k.times, k.call_is)
handed_by c p n input numbers call (inr (inl k)) = (input, 0, k.call_is)
handed_by c p n input numbers call (inr (inr (inl k))) = elim k.call_is [ inl e ↦ (input, k.times, e) | inr e ↦ (Settle, 0, e) ]
handed_by c p n input numbers call (inr (inr (inr k))) = (Settle, 0, k.call_is)

spelled_by : (c : Setting) (p : ℕ) (n : Node) (new : Core) (given : Input) (times : ℕ) → StandsIn c p (moved c p n (Handed p given times)) new → new.journal.failed ≡ false → (b : Body) → b ∈ bodies_by c (λ _. n) (Handed p given times) → IsBody b
spelled_by c p n new given times st serves =
    let at : StandsIn c p (after c p n given times) new = subst (λ m. StandsIn c p m new) (sym (own_node c p n given times)) st in
    said_spelled c p (after c p n given times) new (bodies_by c (λ _. n) (Handed p given times)) at serves (handed_saved c p n given times)

-- also where the device failed
left_by : (c : Setting) (p : ℕ) (n : Node) (given : Input) (times : ℕ) (cut : Option Cut) (bytes : List ℕ) → IsLeftBy c p (moved c p n (Handed p given times)) cut bytes → (b : Body) → b ∈ bodies_by c (λ _. n) (Handed p given times) → IsBody b
left_by c p n given times cut bytes left =
    left_spelled c p (after c p n given times) cut bytes (bodies_by c (λ _. n) (Handed p given times)) (subst (λ m. IsLeftBy c p m cut bytes) (sym (own_node c p n given times)) left) (handed_saved c p n given times)

-- the journal serves as before, but where the answer is that it failed
still_serves : (result : Result (Unit {0}) Answer) (old new : JournalSeen) → (told_numbers result).0 ≢ 17 → TellsJournal result old new → new.failed ≡ old.failed
still_serves (Ok done) old new served t = t.failed
still_serves (Err answers.Truncated) old new served t = t.failed
still_serves (Err answers.TooLong) old new served t = t.failed
still_serves (Err answers.BadKind) old new served t = t.failed
still_serves (Err answers.BadSpelling) old new served t = t.failed
still_serves (Err answers.UnknownSender) old new served t = t.failed
still_serves (Err answers.BadTag) old new served t = t.failed
still_serves (Err answers.OtherHeight) old new served t = t.failed
still_serves (Err answers.VoterFull) old new served t = t.failed
still_serves (Err answers.Repeat) old new served t = t.failed
still_serves (Err answers.RoundLimit) old new served t = t.failed
still_serves (Err answers.RoundAhead) old new served t = t.failed
still_serves (Err answers.WrongProposer) old new served t = t.failed
still_serves (Err answers.Halted) old new served t = t.failed
still_serves (Err answers.OutOfMemory) old new served t = t.failed
still_serves (Err (answers.Submit fault)) old new served t = t.failed
still_serves (Err (answers.Bundle fault)) old new served t = t.failed
still_serves (Err answers.JournalFailed) old new served t = absurd (served refl)

-- a node that serves
hands_serving : (c : Setting) (p : ℕ) (n : Node) (input : Input) (old new : Core) (result : Result (Unit {0}) Answer) → old.journal.failed ≡ false → (told_numbers result).0 ≢ 15 → TellsJournal result old.journal new.journal → IsAnsweredIn c p n input (told_numbers result) old new
    → IsMetBy c p n Serving (Hands input) (told_numbers result) old.outgoing new
hands_serving c p n input old new result serves runs told a =
    let k = handed_by c p n input (told_numbers result) a.call a.answered in
    let by = ap validator_of k.2 in
    elim (is_broken result) [
      | inl e ↦ (
          let numbers : told_numbers result ≡ call_number JournalFailed = ap told_numbers e in
          let failed : TellsJournal (Err answers.JournalFailed) old.journal new.journal = subst (λ r. TellsJournal r old.journal new.journal) e told in
          let cut = a.broken numbers in record {
            call = a.call;
            new = Broken cut.0;
            by = by;
            met = record { answered = a.answered; runs = runs; leaves = (numbers, cut.1) };
            stands = a.stands;
            health = (failed.now, cut.2);
            outgoing = a.outgoing;
            spelled = subst (λ x. (b : Body) → b ∈ bodies_by c (λ _. n) x → IsBody b) (sym k.2) (left_by c p n k.0 k.1 cut.0 new.journal.bytes (subst (λ x. IsLeftBy c p (moved c p n x) cut.0 new.journal.bytes) k.2 cut.2.0));
          })
      | inr other ↦ (
          let still : new.journal.failed ≡ false = still_serves result old.journal new.journal other told ∙ serves in record {
            call = a.call;
            new = Serving;
            by = by;
            met = record { answered = a.answered; runs = runs; leaves = other };
            stands = a.stands;
            health = still;
            outgoing = a.outgoing;
            spelled = subst (λ x. (b : Body) → b ∈ bodies_by c (λ _. n) x → IsBody b) (sym k.2) (spelled_by c p n new k.0 k.1 (subst (λ x. StandsIn c p (moved c p n x) new) k.2 a.stands) still);
          })
    ]

unchanged_by : (old new : Core) (result : Result (Unit {0}) Answer) → result ≡ Err answers.Halted → ((r : Answer) → result ≡ Err r → (r ≡ answers.OutOfMemory) ⊎ ((r ≡ answers.JournalFailed) ⊎ IsUnchanged old new)) → IsUnchanged old new
unchanged_by old new result e why = elim (why answers.Halted e) [
  | inl k ↦ absurd (cc)
  | inr (inl k) ↦ absurd (cc)
  | inr (inr u) ↦ u
]

pub meets_input : (c : Setting) (p : ℕ) (n : Node) (h : Health) (input : Input) (old new : Core) (result : Result (Unit {0}) Answer) → StandsIn c p n old → HasHealth c p n h old.journal → IsByContract n input result old new → IsMetBy c p n h (Hands input) (told_numbers result) old.outgoing new
meets_input c p n Serving input old new result st health b = hands_serving c p n input old new result health (not_halted old.journal.failed _ result health b.answer) b.journal (answered_law c p n old st input result new b)
meets_input c p n (Broken cut) input old new result st health b =
    let e = halts _ old.journal.failed result health.0 b.answer in idle_by c p n cut (Hands input) old new result (λ k. k) st health.0 health.1 e (unchanged_by old new result e b.refused)
meets_input c p n (Closed cut) input old new result st health b = absurd health
