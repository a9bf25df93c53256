-- A save that failed for the device: what stands in the store has the records so far, and at most the one that was being saved.
use Rattle.std.proofs.Common.{◌≡◌, ℕ, true, false, List, [], ◌∷◌, ◌++◌, All, IfSome, reverse, inl, inr, Option, Some, None, Result, Ok, Err, option_to_list, option_map, refl, sym, ap, subst, ◌∙◌}
use Rattle.std.specs.Prelude.{OnErr}
use Rattle.std.proofs.lemmas.List.{reverse-reverse}
use Rattle.messages.specs.Grammar.{IsBody, IsBundle}
use Rattle.messages.specs.Framing.{message_of}
use Rattle.protocol.specs.Messages.{Record, Own, Decided, Bundle, Message}
use Rattle.protocol.specs.Tags.{Setting}
use Rattle.protocol.specs.State.{State, Node, Rule, DecideByBundle}
use Rattle.protocol.specs.Rules.{holds, saved, released_by}
use Rattle.protocol.specs.Order.{enabled}
use Rattle.protocol.specs.Queues.{pick}
use Rattle.protocol.specs.Refusals.{answer}
use Rattle.protocol.specs.Arrivals.{Outcome, firing, arrival, received}
use Rattle.protocol.specs.World.{Cut, InFiring, tried, cut_record, is_bundles}
use Rattle.protocol.specs.History.{Input, Given, taken, firsts}
use Rattle.vote_journal.specs.Order.{may_follow}
use Rattle.vote_journal.specs.Laws.{EachFollows}
use Rattle.vote_journal.specs.Saving.{IsBeforeOrAfter, LeavesBeforeOrAfter, WhereSaved}
use Rattle.vote_journal.proofs.Stopping.{newest}
use Rattle.round_machine.specs.Naming.{rule_of}
use Rattle.round_machine.specs.declared.rule.Rule.{Rule as Name}
use Rattle.round_machine.specs.declared.rule.Rule.TheVariants as names
use Rattle.protocol.specs.declared.refusal.Refusal.{Refusal as Answer}
use Rattle.protocol.specs.declared.refusal.Refusal.TheVariants as answers
use Rattle.node_core.specs.Core.{Core, JournalSeen, MayLeave, IsSound, Stands, IsSame, context_of, setting, setting_of}
use Rattle.node_core.specs.Firing.{IsFit, IsNarrow, decision_in}
use Rattle.state_journal.specs.Saving.{HasBroken, IsUnwritten, of_unfired}
use Rattle.state_journal.specs.declared.journal.Unfired.{Unfired}
use Rattle.state_journal.specs.declared.journal.Unfired.TheVariants as unfired
use Rattle.node_core.specs.Calls.{HasFired, IsTaken, IsUnchanged, IsBroken, IsLeft, Leaves, LeavesBy, TellsJournal, input_cut, next_cut}
use Rattle.node_core.specs.Running.{HasRun, IsCutOff}
use Rattle.node_core.proofs.Arrivals.{comes_in, answers_by}
use Rattle.node_core.proofs.Firings.{MayFire, OptionRecord, decided_in, fired_journal, same_journal}
use Rattle.node_core.proofs.Recorded.{rule_may_fire, bundle_may_fire}
use Rattle.node_core.proofs.Spelled.{rule_decided, bundle_decided}
use Rattle.node_core.proofs.Stepwise.{called, taken_from, fired_failed, same_setting, stands_counted}

-- ---- one save

-- a record that was not saved for the device
pub unfired_broken : (wrote : Option Record) (e : Unfired) (old new : JournalSeen) → IsUnwritten e wrote old new → of_unfired e ≡ answers.JournalFailed → (r : Record) × (wrote ≡ Some r) × HasBroken r old new
unfired_broken wrote unfired.OutOfMemory old new u is = absurd cc
unfired_broken None unfired.JournalFailed old new u is = absurd u
unfired_broken (Some r) unfired.JournalFailed old new u is = (r, refl, u)

-- what stands then, where the record could be saved
broken_left : (k : Rule) (core : Core) (journal : JournalSeen) (r : Record) → MayFire k core → saved (context_of core) (pick core.queues) core.machine.state k ≡ Some r → HasBroken r core.journal journal
    → (n : Node) → Stands n core → Leaves core.machine.powers core.machine.me n.journal (option_to_list (firing (setting_of core) core.machine.me n k).wrote) journal
unfolding setting
broken_left k core journal r m is broken n s =
    let powers = core.machine.powers in
    let me = core.machine.me in
    let kept = m.sound.kept m.running in
    let j = kept.records in
    let fits = subst (OptionRecord me) is m.fits in
    let follows = subst (λ (o : Option Record). EachFollows powers (option_to_list o ++ j)) is (fired_journal k core m).follows in
    let left = subst (λ (i : ℕ). WhereSaved i core.journal.bytes r (λ powers rs. IsBeforeOrAfter powers i journal.bytes rs r × LeavesBeforeOrAfter powers i (MayLeave journal) rs r)) m.sound.journal (broken.left m.running) in
    let same = same_journal n core s m.running kept in
    let at : (firing (setting_of core) me n k).wrote ≡ Some r = rw (← s.state, ← s.queues) is in
    let wrote : option_to_list (firing (setting_of core) me n k).wrote ≡ r ∷ [] = ap option_to_list at in
    let both = left powers (reverse j) kept.whole fits (subst (λ (l : List Record). may_follow powers l r ≡ true) (sym (reverse-reverse j)) follows.0) in
    let of_node : (bytes : List ℕ) → IsBeforeOrAfter powers me bytes (reverse j) r → IsLeft powers me n.journal (option_to_list (firing (setting_of core) me n k).wrote) bytes = λ bytes either. elim either [
      | inl h ↦ (reverse j, h, inl (reverse-reverse j ∙ sym same))
      | inr h ↦ (reverse j ++ r ∷ [], h, inr (newest j r ∙ ap (λ (l : List Record). r ∷ l) (sym same) ∙ ap (λ (l : List Record). l ++ n.journal) (sym wrote)))
    ] in
    (of_node journal.bytes both.0, λ c may. of_node c (both.1 c may))

decision_is : (r : Record) → decision_in r ≡ decided_in (Some r)
decision_is (Own height round act) = refl
decision_is (Decided b) = refl

-- a rule's
pub rule_broken : (core : Core) (s : IsSound core) (running : core.journal.failed ≡ false) (rule : Name) → IsFit core.machine.state rule → holds (context_of core) core.machine.state (rule_of core.machine.state rule) ≡ true
    → IfSome (released_by core.machine.me (saved (context_of core) (pick core.queues) core.machine.state (rule_of core.machine.state rule))) IsBody
    → (journal : JournalSeen) (r : Record) → saved (context_of core) (pick core.queues) core.machine.state (rule_of core.machine.state rule) ≡ Some r → HasBroken r core.journal journal
    → (n : Node) → Stands n core → Leaves core.machine.powers core.machine.me n.journal (option_to_list (firing (setting_of core) core.machine.me n (rule_of core.machine.state rule)).wrote) journal
rule_broken core s running rule fit h body journal r is broken =
    let narrow = subst (λ (o : Option Record). All IsNarrow (decided_in o)) (sym is) (subst (All IsNarrow) (decision_is r) broken.narrow) in
    let decided = rule_decided core s (pick core.queues) rule fit narrow in
    broken_left (rule_of core.machine.state rule) core journal r (rule_may_fire core s running rule fit h body decided.spelled) is broken

-- and that of a bundle that came
pub bundle_broken : (core : Core) (s : IsSound core) (running : core.journal.failed ≡ false) (b : Bundle) → IsBundle b → holds (context_of core) core.machine.state (DecideByBundle b) ≡ true
    → (journal : JournalSeen) (r : Record) → saved (context_of core) (pick core.queues) core.machine.state (DecideByBundle b) ≡ Some r → HasBroken r core.journal journal
    → (n : Node) → Stands n core → Leaves core.machine.powers core.machine.me n.journal (option_to_list (firing (setting_of core) core.machine.me n (DecideByBundle b)).wrote) journal
bundle_broken core s running b spelled h journal r is broken =
    broken_left (DecideByBundle b) core journal r (bundle_may_fire core s running b h (bundle_decided core s (pick core.queues) b spelled).spelled) is broken

-- what changed nothing broke nothing
pub never_broken : (result : Result (Unit {0}) Answer) (old new : Core) → new ≡ old → TellsJournal result old.journal new.journal → result ≡ Err answers.JournalFailed → ⊥
never_broken result old new same tells is =
    let failed = subst (λ x. TellsJournal x old.journal new.journal) is tells in
    absurd (let e : true ≡ false = sym failed.now ∙ ap (λ (x : Core). x.journal.failed) same ∙ failed.before in cc)

pub err_same : (result : Result (Unit {0}) Answer) (old new : Core) → OnErr result (new ≡ old) → result ≡ Err answers.JournalFailed → new ≡ old
err_same result old new same is = subst (λ (x : Result (Unit {0}) Answer). OnErr x (new ≡ old)) is same

-- ---- what was being saved, as a cut

no_bundle : (s : State) (rule : Name) → is_bundles (rule_of s rule) ≡ false
no_bundle s names.Start = refl
no_bundle s (names.Decide i) = refl
no_bundle s (names.SkipRound r) = refl
no_bundle s (names.PrevoteFresh i) = refl
no_bundle s (names.PrevoteAgain i) = refl
no_bundle s (names.Lock i) = refl
no_bundle s names.PrecommitNil = refl
no_bundle s names.AwaitPrevotes = refl
no_bundle s names.AwaitPrecommits = refl
no_bundle s (names.TimedOut t) = refl

-- a rule that holds is tried by its firing
pub firing_cut : (core : Core) (n : Node) (k : Rule) → Stands n core → is_bundles k ≡ false → holds (context_of core) core.machine.state k ≡ true
    → cut_record (setting_of core) core.machine.me n (Some (InFiring k)) ≡ option_to_list (firing (setting_of core) core.machine.me n k).wrote
firing_cut core n k s plain h =
    let there : holds (context_of core) n.state k ≡ true = subst (λ (x : State). holds (context_of core) x k ≡ true) s.state h in
    let at : tried (setting_of core) core.machine.me n k ≡ firing (setting_of core) core.machine.me n k = rw (plain, there) refl in
    ap (λ (o : Outcome). option_to_list o.wrote) at

pub rule_cut : (core : Core) (n : Node) (rule : Name) → Stands n core → holds (context_of core) core.machine.state (rule_of core.machine.state rule) ≡ true
    → cut_record (setting_of core) core.machine.me n (Some (InFiring (rule_of core.machine.state rule))) ≡ option_to_list (firing (setting_of core) core.machine.me n (rule_of core.machine.state rule)).wrote
rule_cut core n rule s h = firing_cut core n (rule_of core.machine.state rule) s (no_bundle core.machine.state rule) h

-- ---- a run that broke off

moved_left : (old mid : Core) → IsSame old mid → (m : Node) (cut : Option Cut) (journal : JournalSeen) → LeavesBy (setting_of mid) mid.machine.me m cut journal → LeavesBy (setting_of old) old.machine.me m cut journal
moved_left old mid same m cut journal left =
    subst (λ (t : Setting × ℕ). LeavesBy t.0 t.1 m cut journal) (λ i. (same_setting old mid same i, same.me i)) left

pub cut_off : (start mid new : Core) (rule : Name) → HasRun start mid → enabled mid.machine.powers mid.machine.state ≡ Some (rule_of mid.machine.state rule) → holds (context_of mid) mid.machine.state (rule_of mid.machine.state rule) ≡ true
    → new ≡ record mid { journal = new.journal } → new.journal.failed ≡ true
    → ((n : Node) → Stands n mid → Leaves mid.machine.powers mid.machine.me n.journal (option_to_list (firing (setting_of mid) mid.machine.me n (rule_of mid.machine.state rule)).wrote) new.journal)
    → IsCutOff start new
unfolding setting
cut_off start mid new rule ran named h u failed left = subst (IsCutOff start) (sym u) (record {
  run = record { times = ran.times; count = ran.count; ran = λ n s. fired_failed n ran.times start mid new.journal failed (ran.ran n s) };
  left = λ n s.
      let c : Setting = setting_of start in
      let p : ℕ = start.machine.me in
      let fired = ran.ran n s in
      let m : Node = firsts c p ran.times n in
      let k : Rule = rule_of mid.machine.state rule in
      let there : enabled c.powers m.state ≡ Some k = ap (λ (x : State). enabled c.powers x) (sym fired.stands.state) ∙ ap (λ ps. enabled ps mid.machine.state) (sym fired.same.powers) ∙ named in
      let cut : next_cut c m ≡ Some (InFiring k) = ap (option_map InFiring) there in
      let at : LeavesBy (setting_of mid) mid.machine.me m (Some (InFiring k)) new.journal =
      subst (λ (l : List Record). Leaves mid.machine.powers mid.machine.me m.journal l new.journal) (sym (rule_cut mid m rule fired.stands h)) (left m fired.stands) in
      let here : LeavesBy c p m (Some (InFiring k)) new.journal = moved_left start mid fired.same m (Some (InFiring k)) new.journal at in
      subst (λ (o : Option Cut). LeavesBy c p m o new.journal) (sym cut) here;
})

pub cut_counted : (old new : Core) (count : ℕ) → IsCutOff (record old { fired = count }) new → IsCutOff old new
cut_counted old new count cut = record {
  run = record { times = cut.run.times; count = cut.run.count; ran = fired };
  left = λ n s. cut.left n (stands_counted n old count s);
}
  where
    fired : (n : Node) → Stands n old → HasFired n cut.run.times old new
    fired n s = let h = cut.run.ran n (stands_counted n old count s) in record { named = h.named; stands = h.stands; outgoing = h.outgoing; scheduled = h.scheduled; same = record { powers = h.same.powers; me = h.same.me; ring = h.same.ring } }

-- ---- whole calls

-- what was handed in was not taken in
pub input_broken : (n : Node) (input : Input) (old begun new : Core) → IsUnchanged old begun → new ≡ record begun { journal = new.journal } → LeavesBy (setting_of begun) begun.machine.me n (input_cut input) new.journal → IsBroken n input old new
input_broken n input old begun new b u left =
    inl (u ∙ ap (λ (x : Core). record x { journal = new.journal }) b, subst (λ (x : Core). LeavesBy (setting_of x) x.machine.me n (input_cut input) new.journal) b left)

-- it was, and a rule did not fire then
pub run_broken : (n : Node) (input : Input) (old begun mid new : Core) → IsUnchanged old begun → IsTaken n input begun mid → IsCutOff mid new → IsBroken n input old new
unfolding setting
run_broken n input old begun mid new b t cut =
    let taking = taken_from n input old mid 0 (subst (λ (x : Core). IsTaken n input x mid) b t) in
    let m = taken (setting_of old) old.machine.me n input in
    let left = cut.left m taking.stands in
    let here = subst (λ (t : Setting × ℕ). LeavesBy t.0 t.1 (firsts t.0 t.1 cut.run.times m) (next_cut t.0 (firsts t.0 t.1 cut.run.times m)) new.journal) (λ i. (same_setting old mid taking.same i, taking.same.me i)) left in
    inr (cut.run.times, called n input cut.run.times old mid new taking (cut.run.ran m taking.stands) cut.run.count, here)

-- what is cut as a message comes is what it would have saved
pub arrival_left : (core : Core) (n : Node) (frame : List ℕ) (m : Message) (journal : JournalSeen) → message_of frame ≡ Ok m → answer (setting_of core) core.machine.me n frame ≡ None
    → Leaves core.machine.powers core.machine.me n.journal (option_to_list (received (setting_of core) core.machine.me n m m.body).wrote) journal → LeavesBy (setting_of core) core.machine.me n (input_cut (Given frame)) journal
unfolding setting
arrival_left core n frame m journal read none left =
    let c = setting_of core in
    let at : arrival c core.machine.me n frame ≡ received c core.machine.me n m m.body = comes_in c core.machine.me n frame m read (sym (answers_by c core.machine.me n frame m read) ∙ none) in
    subst (λ (o : Outcome). Leaves core.machine.powers core.machine.me n.journal (option_to_list o.wrote) journal) (sym at) left
