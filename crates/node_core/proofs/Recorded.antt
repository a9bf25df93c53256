-- What a firing saves can be spelled as a record.
use Rattle.std.proofs.Common.{◌≡◌, ℕ, suc, ◌++◌, true, false, List, All, IfSome, Option, Some, None, option_to_list, refl, ap, subst, ◌∙◌, arith}
use Rattle.std.specs.Prelude.{◌==◌}
use Rattle.std.proofs.lemmas.Bool.{cond_both}
use Rattle.powers.specs.Power.{proposer}
use Rattle.messages.specs.Grammar.{IsBody, IsBundle}
use Rattle.protocol.specs.Values.{Value}
use Rattle.protocol.specs.Tags.{Validator}
use Rattle.protocol.specs.Messages.{Body, Record, Own, Decided, Bundle, step_eq, body_of, sender_of}
use Rattle.protocol.specs.Arrivals.{is_decision}
use Rattle.protocol.proofs.Asked.{asked}
use Rattle.protocol.specs.declared.types.Step.{Step}
use Rattle.protocol.specs.declared.types.Step.TheVariants.{Propose, Prevote, Precommit}
use Rattle.protocol.specs.declared.types.ValueAt.{ValueAt}
use Rattle.protocol.specs.State.{Context, State, Rule, Start, PrevoteFresh, PrevoteAgain, AwaitPrevotes, Lock, PrecommitNil, AwaitPrecommits, Decide, DecideByBundle, SkipRound, TimedOut}
use Rattle.protocol.specs.Rules.{holds, times_out, released_by, saved, starts, proposal_of}
use Rattle.protocol.specs.Queues.{pick}
use Rattle.round_machine.specs.Naming.{rule_of}
use Rattle.round_states.specs.Pending.{pending_of}
use Rattle.round_machine.specs.declared.rule.Rule.{Rule as Name}
use Rattle.round_machine.specs.declared.rule.Rule.TheVariants as names
use Rattle.vote_journal.specs.Grammar.{HasLock}
use Rattle.vote_journal.specs.Laws.{EachMade}
use Rattle.vote_journal.proofs.Following.{fired_lawful}
use Rattle.node_core.specs.Core.{Core, IsSound, setting_of, context_of}
use Rattle.node_core.specs.Firing.{IsFit}
use Rattle.node_core.proofs.Firings.{OptionRecord, MayFire, decided_in, decides, node_of, act_own, empty_nil, none_all, one_all}

-- ---- the value that is locked

abbrev OptionLock : Option Record → Type 0
OptionLock None = Unit {0}
OptionLock (Some (Own height round act)) = HasLock act
OptionLock (Some (Decided b)) = Unit {0}

starts_lock : (g : Context) (s : State) (r : ℕ) (v : Value) → OptionLock (starts g s r v)
starts_lock g s r v = cond_both (proposer g.powers s.height r == g.me) _ _ OptionLock (λ _. by_value s.valid_value) (λ _. tt)
  where
    by_value : (o : Option ValueAt) → OptionLock (Some (proposal_of s r v o))
    by_value None = tt
    by_value (Some l) = tt

timed_lock : (g : Context) (s : State) (v : Value) (kind : Step) → OptionLock ((times_out s kind).saves g v)
timed_lock g s v Propose = tt
timed_lock g s v Prevote = tt
timed_lock g s v Precommit = starts_lock g s (suc s.round) v

rule_lock : (g : Context) (v : Value) (s : State) (rule : Name) → IsFit s rule → OptionLock (saved g v s (rule_of s rule))
rule_lock g v s names.Start fit = starts_lock g s 0 v
rule_lock g v s (names.Decide i) fit = tt
rule_lock g v s (names.SkipRound r) fit = starts_lock g s r v
rule_lock g v s (names.PrevoteFresh i) fit = tt
rule_lock g v s (names.PrevoteAgain i) fit = tt
rule_lock g v s (names.Lock i) fit = cond_both (step_eq s.step Prevote) _ _ OptionLock (λ _. fit) (λ _. tt)
rule_lock g v s names.PrecommitNil fit = tt
rule_lock g v s names.AwaitPrevotes fit = tt
rule_lock g v s names.AwaitPrecommits fit = tt
rule_lock g v s (names.TimedOut t) fit = timed_lock g s v t.kind

-- ---- what is decided is of the present height

none_at : (g : Context) (v : Value) (s : State) (k : Rule) → is_decision k ≡ false → All (λ (b : Bundle). b.height ≡ s.height) (decided_in (saved g v s k))
none_at g v s k e = none_all (λ (b : Bundle). b.height ≡ s.height) _ (empty_nil _ (rw e at (decides g v s k).empty))

pub decided_height : (g : Context) (v : Value) (s : State) (k : Rule) → holds g s k ≡ true → All (λ (b : Bundle). b.height ≡ s.height) (decided_in (saved g v s k))
decided_height g v s (Decide r u) h = one_all (λ (b : Bundle). b.height ≡ s.height) _ refl
decided_height g v s (DecideByBundle b) h = one_all (λ (b : Bundle). b.height ≡ s.height) _ (asked g s (DecideByBundle b) h).height
decided_height g v s Start h = none_at g v s Start refl
decided_height g v s (PrevoteFresh u) h = none_at g v s (PrevoteFresh u) refl
decided_height g v s (PrevoteAgain r u) h = none_at g v s (PrevoteAgain r u) refl
decided_height g v s AwaitPrevotes h = none_at g v s AwaitPrevotes refl
decided_height g v s (Lock u) h = none_at g v s (Lock u) refl
decided_height g v s PrecommitNil h = none_at g v s PrecommitNil refl
decided_height g v s AwaitPrecommits h = none_at g v s AwaitPrecommits refl
decided_height g v s (SkipRound r) h = none_at g v s (SkipRound r) refl
decided_height g v s (TimedOut t) h = none_at g v s (TimedOut t) refl

-- ---- the sender of what is released

pub released_own : (me : ℕ) (o : Option Record) (b : Body) → Some b ≡ released_by me o → sender_of b ≡ Validator me
released_own me None b e = absurd cc
released_own me (Some (Decided x)) b e = absurd cc
released_own me (Some (Own h r act)) b e = let f : b ≡ body_of me h r act = cc in ap sender_of f ∙ act_own me h r act

-- what says nothing releases nothing
pub unsaid : (me : ℕ) (o : Option Record) → pending_of me o ≡ None → released_by me o ≡ None
unsaid me None e = refl
unsaid me (Some r) e = absurd cc

pub released_spelled : (me : ℕ) (o : Option Record) (b : Body) → Some b ≡ released_by me o → IsBody b → IfSome (released_by me o) IsBody
released_spelled me o b e h = subst (λ x. IfSome x IsBody) e h

-- ---- the record

recorded : (me : ℕ) (o : Option Record) (j : List Record) → IfSome (released_by me o) IsBody → OptionLock o → All IsBundle (decided_in o) → EachMade me (option_to_list o ++ j) → OptionRecord me o
recorded me None j b l d m = tt
recorded me (Some (Own h r act)) j b l d m = (b, l)
recorded me (Some (Decided x)) j b l d m = record { fits = d 0 x (omega arith); sender = m.0.sender; name = m.0.name; order = m.0.order }

may_save : (core : Core) (s : IsSound core) (running : core.journal.failed ≡ false) (k : Rule) → holds (context_of core) core.machine.state k ≡ true
    → IfSome (released_by core.machine.me (saved (context_of core) (pick core.queues) core.machine.state k)) IsBody → OptionLock (saved (context_of core) (pick core.queues) core.machine.state k)
    → All IsBundle (decided_in (saved (context_of core) (pick core.queues) core.machine.state k)) → MayFire k core
may_save core s running k h body lock decided =
    let kept = s.kept running in
    let made = (fired_lawful (setting_of core) core.machine.me (node_of core kept.records) k kept.lawful h).made in
    record { sound = s; running = running; holds = h; fits = recorded core.machine.me (saved (context_of core) (pick core.queues) core.machine.state k) kept.records body lock decided made }

pub rule_may_fire : (core : Core) (s : IsSound core) (running : core.journal.failed ≡ false) (rule : Name) → IsFit core.machine.state rule → holds (context_of core) core.machine.state (rule_of core.machine.state rule) ≡ true
    → IfSome (released_by core.machine.me (saved (context_of core) (pick core.queues) core.machine.state (rule_of core.machine.state rule))) IsBody
    → All IsBundle (decided_in (saved (context_of core) (pick core.queues) core.machine.state (rule_of core.machine.state rule))) → MayFire (rule_of core.machine.state rule) core
rule_may_fire core s running rule fit h body decided = may_save core s running (rule_of core.machine.state rule) h body (rule_lock (context_of core) (pick core.queues) core.machine.state rule fit) decided

pub bundle_may_fire : (core : Core) (s : IsSound core) (running : core.journal.failed ≡ false) (b : Bundle) → holds (context_of core) core.machine.state (DecideByBundle b) ≡ true
    → All IsBundle (decided_in (saved (context_of core) (pick core.queues) core.machine.state (DecideByBundle b))) → MayFire (DecideByBundle b) core
bundle_may_fire core s running b h decided = may_save core s running (DecideByBundle b) h tt tt decided
