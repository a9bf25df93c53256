-- A call that keeps a core's contract is a call of the world, answered by the world's cause.
use Rattle.std.proofs.Common.{Bool, true, false, ◌⊎◌, ◌≡◌, ◌≢◌, ℕ, ◌-◌, ◌^◌, option_map, inl, inr, Option, None, Result, Ok, Err, refl, sym, ap, ◌∙◌, subst, subst₂, arith, eq-eqb, append-nil}
use Rattle.std.specs.Prelude.{min}
use Rattle.protocol.specs.Tags.{Setting}
use Rattle.protocol.specs.State.{State, Node}
use Rattle.protocol.specs.Order.{enabled}
use Rattle.protocol.specs.Calls.{Halted, NoMemory, JournalFailed, call_number, timeout_answer}
use Rattle.protocol.specs.World.{Cut, InFiring}
use Rattle.protocol.specs.History.{Input, Settle, Given, Due, taken, after}
use Rattle.node_core.specs.Core.{Core, JournalSeen, setting_of}
use Rattle.protocol.specs.Answers.{Answers, IsRefusal}
use Rattle.node_core.specs.Calls.{TellsJournal, IsNotTaken, EachIsNamed, IsUnchanged, Leaves, LeavesBy, input_cut, next_cut}
use Rattle.protocol.specs.Answers.{numbers_of}
use Rattle.protocol.specs.declared.refusal.Refusal.{Refusal as Answer}
use Rattle.protocol.specs.declared.refusal.Refusal.TheVariants as answers
use Rattle.world_schedule.specs.Calls.{Call, Handed, moved}
use Rattle.world_schedule.specs.Seeing.{ActsAlike}
use Rattle.world_schedule.specs.Cores.{StandsIn, IsCalledIn}
use Rattle.world_schedule.specs.Handed.{told_numbers}
use Rattle.world_schedule.specs.Answered.{cause_of, IsAnswered, own_cause, LeavesCut, IsByContract, IsAnsweredIn, AnsweredLaw}
use Rattle.world_schedule.proofs.Seeing.{seeing_law}
use Rattle.world_schedule.proofs.Cores.{own_law, core_law, kept_law}
use Rattle.world_schedule.proofs.Handed.{HasNumbers, refusal_numbers}
use Rattle.world_schedule.proofs.Serving.{is_broken}

-- the own setting's cause is the world's
cause_at : (c : Setting) (n : Node) (core : Core) → StandsIn c core.machine.me n core → (input : Input) → own_cause core n input ≡ cause_of c core.machine.me n input
cause_at c n core s Settle = refl
cause_at c n core s (Given bytes) = (seeing_law core.machine.me (setting_of core) c (own_law c core.machine.me core s.own)).answering.answers n bytes
cause_at c n core s (Due t) = ap (λ (st : State). timeout_answer st t) s.stands.state

same_cause : (c : Setting) (p : ℕ) (n : Node) (core : Core) → StandsIn c p n core → (input : Input) → own_cause core n input ≡ cause_of c p n input
same_cause c p n core s input =
    let own : p ≡ core.machine.me = sym s.own.me in
    subst (λ q. own_cause core n input ≡ cause_of c q n input) (sym own) (cause_at c n core (subst (λ q. StandsIn c q n core) own s) input)

none_fired : (times counted : ℕ) → counted ≡ min times (2 ^ 64 - 1) → counted ≡ 0 → times ≡ 0
none_fired times counted e z = omega arith

-- ---- what stands in the store

left_alike : (c d : Setting) (p : ℕ) (n : Node) (cut : Option Cut) (journal : JournalSeen) → ActsAlike p d c → d.powers ≡ c.powers → LeavesBy d p n cut journal → LeavesBy c p n cut journal
left_alike c d p n cut journal a powers left = subst₂ (λ ps more. Leaves ps p n.journal more journal) powers (a.firing_rules.cuts n cut) left

next_alike : (c d : Setting) (p : ℕ) (n : Node) (input : Input) (times : ℕ) (journal : JournalSeen) → ActsAlike p d c → d.powers ≡ c.powers → LeavesBy d p (after d p n input times) (next_cut d (after d p n input times)) journal → LeavesBy c p (after c p n input times) (next_cut c (after c p n input times)) journal
next_alike c d p n input times journal a powers left =
    let there = subst (λ m. LeavesBy d p m (next_cut d m) journal) (a.called.calls n input times) left in
    let same : next_cut d (after c p n input times) ≡ next_cut c (after c p n input times) = ap (λ ps. option_map InFiring (enabled ps (after c p n input times).state)) powers in
    left_alike c d p (after c p n input times) (next_cut c (after c p n input times)) journal a powers (subst (λ cut. LeavesBy d p (after c p n input times) cut journal) same there)

-- by the core's own number
input_left : (c : Setting) (n : Node) (old : Core) → StandsIn c old.machine.me n old → (input : Input) (journal : JournalSeen) → LeavesBy (setting_of old) old.machine.me n (input_cut input) journal → LeavesBy c old.machine.me n (input_cut input) journal
input_left c n old s input journal left =
    let alike = own_law c old.machine.me old s.own in
    left_alike c (setting_of old) old.machine.me n (input_cut input) journal (seeing_law old.machine.me (setting_of old) c alike) alike.powers left

next_left : (c : Setting) (n : Node) (old : Core) → StandsIn c old.machine.me n old → (input : Input) (times : ℕ) (journal : JournalSeen) → LeavesBy (setting_of old) old.machine.me (after (setting_of old) old.machine.me n input times) (next_cut (setting_of old) (after (setting_of old) old.machine.me n input times)) journal
    → LeavesBy c old.machine.me (after c old.machine.me n input times) (next_cut c (after c old.machine.me n input times)) journal
next_left c n old s input times journal left =
    let alike = own_law c old.machine.me old s.own in
    next_alike c (setting_of old) old.machine.me n input times journal (seeing_law old.machine.me (setting_of old) c alike) alike.powers left

module _ (c : Setting) (p : ℕ) (n : Node) (old : Core) (s : StandsIn c p n old) (input : Input) (new : Core) where
  own_number : p ≡ old.machine.me
  own_number = sym s.own.me

  own_stands : StandsIn c old.machine.me n old
  own_stands = subst (λ q. StandsIn c q n old) own_number s

  handed_node : (given : Input) (times : ℕ) → after c p n given times ≡ moved c p n (Handed p given times)
  handed_node given times = rw (eq-eqb p p refl) refl

  -- a call that was made, however it was answered
  made_so : (numbers : ℕ × ℕ) (times : ℕ) → (numbers ≡ call_number JournalFailed → LeavesCut c p n input (Handed p input times) new.journal) → IsCalledIn c p n input times old new → IsAnswered c p n input numbers (Handed p input times) → IsAnsweredIn c p n input numbers old new
  made_so numbers times broken k a = record {
    call = Handed p input times;
    answered = a;
    stands = subst (λ m. StandsIn c p m new) (handed_node input times) k.stands;
    broken = broken;
    outgoing = k.outgoing;
    scheduled = k.scheduled;
  }

  made : (numbers : ℕ × ℕ) (times : ℕ) → numbers.0 ≢ 17 → IsCalledIn c p n input times old new → IsAnswered c p n input numbers (Handed p input times) → IsAnsweredIn c p n input numbers old new
  made numbers times other k a = made_so numbers times (λ e. absurd (other (ap (λ (x : ℕ × ℕ). x.0) e))) k a

  -- one that did nothing
  not_made : (numbers : ℕ × ℕ) → (numbers ≡ call_number JournalFailed → LeavesCut c p n input (Handed p Settle 0) new.journal) → StandsIn c p n new → new.outgoing ≡ old.outgoing → new.scheduled ≡ old.scheduled → IsAnswered c p n input numbers (Handed p Settle 0) → IsAnsweredIn c p n input numbers old new
  not_made numbers broken stands outgoing scheduled a = record {
    call = Handed p Settle 0;
    answered = a;
    stands = subst (λ m. StandsIn c p m new) (handed_node Settle 0) stands;
    broken = broken;
    outgoing = outgoing ∙ sym (append-nil old.outgoing);
    scheduled = scheduled ∙ sym (append-nil old.scheduled);
  }

  unchanged : (numbers : ℕ × ℕ) → numbers.0 ≢ 17 → IsUnchanged old new → IsAnswered c p n input numbers (Handed p Settle 0) → IsAnsweredIn c p n input numbers old new
  unchanged numbers other u a = not_made numbers (λ e. absurd (other (ap (λ (x : ℕ × ℕ). x.0) e))) ((kept_law c p).unchanged n old new s u) (ap (λ (k : Core). k.outgoing) u) (ap (λ (k : Core). k.scheduled) u) a

  -- for want of memory, or as the journal failed
  ended : (numbers : ℕ × ℕ) (times : ℕ) (call : Call) → (numbers ≡ call_number NoMemory) ⊎ (numbers ≡ call_number JournalFailed) → EachIsNamed c p times (taken c p n input) → (call ≡ Handed p input times) ⊎ (call ≡ Handed p Settle 0) → IsAnswered c p n input numbers call
  ended numbers times call which named is = inr (inr (inl (record { numbers_are = which; times = times; named = named; call_is = is })))

  none_named : EachIsNamed c p 0 (taken c p n input)
  none_named k l = absurd (omega arith)

  ran_out : (times : ℕ) → IsCalledIn c p n input times old new → IsAnsweredIn c p n input (call_number NoMemory) old new
  ran_out times k = made (call_number NoMemory) times starved k (ended (call_number NoMemory) times (Handed p input times) (inl refl) k.named (inl refl))
    where
      starved : (call_number NoMemory).0 ≢ 17
      starved e = let f : 16 ≡ 17 = e in omega (arith, f)

  had_halted : IsUnchanged old new → IsAnsweredIn c p n input (call_number Halted) old new
  had_halted u = unchanged (call_number Halted) other u (inr (inr (inr (record { numbers_are = refl; call_is = refl }))))
    where
      other : (call_number Halted).0 ≢ 17
      other e = let f : 15 ≡ 17 = e in omega (arith, f)

  found_no_memory : IsUnchanged old new → IsAnsweredIn c p n input (call_number NoMemory) old new
  found_no_memory u = unchanged (call_number NoMemory) other u (ended (call_number NoMemory) 0 (Handed p Settle 0) (inl refl) none_named (inr refl))
    where
      other : (call_number NoMemory).0 ≢ 17
      other e = let f : 16 ≡ 17 = e in omega (arith, f)

  -- the device failed as the input was taken in
  not_saved : new ≡ record old { journal = new.journal; fired = 0 } → new.journal.failed ≡ true → LeavesBy (setting_of old) old.machine.me n (input_cut input) new.journal → IsAnsweredIn c p n input (call_number JournalFailed) old new
  not_saved e failed left =
      let here : LeavesBy c p n (input_cut input) new.journal = subst (λ q. LeavesBy c q n (input_cut input) new.journal) (sym own_number) (input_left c n old own_stands input new.journal left) in
      not_made (call_number JournalFailed) (λ _. (input_cut input, inl (refl, refl), subst (λ m. LeavesBy c p m (input_cut input) new.journal) (handed_node Settle 0) here))
      ((kept_law c p).broken n old new s e failed) (ap (λ (k : Core). k.outgoing) e) (ap (λ (k : Core). k.scheduled) e) (ended (call_number JournalFailed) 0 (Handed p Settle 0) (inr refl) none_named (inr refl))

  -- as a rule was to fire
  cut_off : (times : ℕ) → IsCalledIn c p n input times old new → LeavesBy (setting_of old) old.machine.me (after (setting_of old) old.machine.me n input times) (next_cut (setting_of old) (after (setting_of old) old.machine.me n input times)) new.journal → IsAnsweredIn c p n input (call_number JournalFailed) old new
  cut_off times k left =
      let there = next_left c n old own_stands input times new.journal left in
      let here : LeavesBy c p (after c p n input times) (next_cut c (after c p n input times)) new.journal = subst (λ q. LeavesBy c q (after c q n input times) (next_cut c (after c q n input times)) new.journal) (sym own_number) there in
      made_so (call_number JournalFailed) times (λ _. (next_cut c (after c p n input times), inr (times, refl, refl), subst (λ m. LeavesBy c p m (next_cut c (after c p n input times)) new.journal) (handed_node input times) here))
      k (ended (call_number JournalFailed) times (Handed p input times) (inr refl) k.named (inl refl))

  went_well : (times : ℕ) → IsCalledIn c p n input times old new → own_cause old n input ≡ None → enabled new.machine.powers new.machine.state ≡ None → IsAnsweredIn c p n input (0, 0) old new
  went_well times k none quiet = made (0, 0) times well k (inl (record {
    cause = sym (same_cause c p n old s input) ∙ none;
    numbers_are = refl;
    times = times;
    named = k.named;
    quiet = (kept_law c p).quiet (after c p n input times) new k.stands quiet;
    call_is = refl;
  }))
    where
      well : ◌≢◌ {A = ℕ} 0 17
      well e = let f : 0 ≡ 17 = e in omega (arith, f)

  was_refused : (r : Answer) (times : ℕ) → (numbers_of r).0 ≢ 17 → IsCalledIn c p n input times old new → HasNumbers (own_cause old n input) (numbers_of r) → IsUnchanged old new → IsAnsweredIn c p n input (numbers_of r) old new
  was_refused r times other k h u =
      let zero_times : times ≡ 0 = none_fired times new.fired k.fired (ap (λ (x : Core). x.fired) u) in
      let none : IsCalledIn c p n input 0 old new = subst (λ m. IsCalledIn c p n input m old new) zero_times k in
      made (numbers_of r) 0 other none (inr (inl (record { cause = h.first; first = sym (same_cause c p n old s input) ∙ h.is; numbers_are = h.numbers_are; call_is = refl })))

  -- the call was made, and the node had not halted
  by_refusal : (r : Answer) (times : ℕ) → (numbers_of r).0 ≢ 17 → IsCalledIn c p n input times old new → IsRefusal (own_cause old n input) r → (r ≡ answers.OutOfMemory) ⊎ ((r ≡ answers.JournalFailed) ⊎ IsUnchanged old new) → IsAnsweredIn c p n input (numbers_of r) old new
  by_refusal r times other k refusal why = elim (refusal_numbers (own_cause old n input) r refusal) [
    | inl e ↦ no_memory e
    | inr (inl e) ↦ failed e
    | inr (inr h) ↦ (elim why [ inl e ↦ no_memory e | inr (inl e) ↦ failed e | inr (inr u) ↦ was_refused r times other k h u ])
  ]
    where
      no_memory : r ≡ answers.OutOfMemory → IsAnsweredIn c p n input (numbers_of r) old new
      no_memory e = subst (λ x. IsAnsweredIn c p n input (numbers_of x) old new) (sym e) (ran_out times k)

      failed : r ≡ answers.JournalFailed → IsAnsweredIn c p n input (numbers_of r) old new
      failed e = absurd (other (ap (λ x. (numbers_of x).0) e))

  -- it had halted
  by_halt : (result : Result (Unit {0}) Answer) → result ≡ Err answers.Halted → ((r : Answer) → result ≡ Err r → (r ≡ answers.OutOfMemory) ⊎ ((r ≡ answers.JournalFailed) ⊎ IsUnchanged old new)) → IsAnsweredIn c p n input (told_numbers result) old new
  by_halt result e why = subst (λ r. IsAnsweredIn c p n input (told_numbers r) old new) (sym e) (elim (why answers.Halted e) [
    | inl k ↦ absurd (cc)
    | inr (inl k) ↦ absurd (cc)
    | inr (inr u) ↦ had_halted u
  ])

  by_result : (halted : Bool) (result : Result (Unit {0}) Answer) (times : ℕ) → (told_numbers result).0 ≢ 17 → IsCalledIn c p n input times old new → Answers halted (own_cause old n input) result → IsByContract n input result old new → IsAnsweredIn c p n input (told_numbers result) old new
  by_result true result times other k a b = by_halt result a b.refused
  by_result false (Ok done) times other k a b = went_well times k a (b.quiet refl)
  by_result false (Err r) times other k a b = by_refusal r times other k a (b.refused r refl)

  -- the device failed
  by_broken : (result : Result (Unit {0}) Answer) → result ≡ Err answers.JournalFailed → IsByContract n input result old new → IsAnsweredIn c p n input (told_numbers result) old new
  by_broken result e b =
      let told : TellsJournal (Err answers.JournalFailed) old.journal new.journal = subst (λ r. TellsJournal r old.journal new.journal) e b.journal in
      subst (λ r. IsAnsweredIn c p n input (told_numbers r) old new) (sym e) (elim (b.broken e) [
        | inl k ↦ not_saved k.0 told.now k.1
        | inr k ↦ cut_off k.0 (core_law c p n old s input k.0 new k.1) k.2
      ])

  by_not_taken : (result : Result (Unit {0}) Answer) → (told_numbers result).0 ≢ 17 → IsNotTaken result old new → IsAnsweredIn c p n input (told_numbers result) old new
  by_not_taken (Err answers.Halted) other a = had_halted a.1
  by_not_taken (Err answers.OutOfMemory) other a = found_no_memory a
  by_not_taken (Err answers.JournalFailed) other a = absurd (other refl)
  by_not_taken (Ok done) other a = absurd a
  by_not_taken (Err answers.Truncated) other a = absurd a
  by_not_taken (Err answers.TooLong) other a = absurd a
  by_not_taken (Err answers.BadKind) other a = absurd a
  by_not_taken (Err answers.BadSpelling) other a = absurd a
  by_not_taken (Err answers.UnknownSender) other a = absurd a
  by_not_taken (Err answers.BadTag) other a = absurd a
  by_not_taken (Err answers.OtherHeight) other a = absurd a
  by_not_taken (Err answers.VoterFull) other a = absurd a
  by_not_taken (Err answers.Repeat) other a = absurd a
  by_not_taken (Err answers.RoundLimit) other a = absurd a
  by_not_taken (Err answers.RoundAhead) other a = absurd a
  by_not_taken (Err answers.WrongProposer) other a = absurd a
  by_not_taken (Err (answers.Submit fault)) other a = absurd a
  by_not_taken (Err (answers.Bundle fault)) other a = absurd a

pub answered_law : AnsweredLaw
answered_law c p n old s input result new b = elim (is_broken result) [
  | inl e ↦ by_broken c p n old s input new result e b
  | inr other ↦ (elim b.done [
    | inl k ↦ by_result c p n old s input new old.journal.failed result k.0 other (core_law c p n old s input k.0 new k.1) b.answer b
    | inr k ↦ by_not_taken c p n old s input new result other k
  ])
]
