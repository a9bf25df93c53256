-- What a firing leaves of a state.
use Rattle.std.proofs.Common.{◌≡◌, ℕ, zero, suc, ◌+◌, Bool, true, false, cond, not, List, [], ◌∷◌, ◌++◌, map, reverse, length, All, IfSome, Option, Some, None, refl, sym, ap, subst, ◌∙◌, option_to_list, length-append, arith}
use Rattle.std.specs.Prelude.{◌==◌}
use Rattle.std.proofs.lemmas.Bool.{cond_both}
use Rattle.std.proofs.lemmas.List.{append-nil, reverse-append, reverse-reverse}
use Rattle.std.proofs.lemmas.List.Concat.{flat_map-append}
use Rattle.std.proofs.lemmas.List.Elements.{All-append}
use Rattle.powers.specs.Power.{proposer}
use Rattle.messages.specs.declared.body.Body.{Body}
use Rattle.messages.specs.declared.body.Body.TheVariants.{Tx as OfTx, Proposal as OfProposal, Vote as OfVote, Ask as OfAsk, Bundle as OfBundle}
use Rattle.protocol.specs.Values.{Value, items}
use Rattle.protocol.specs.Tags.{Setting, Validator}
use Rattle.protocol.specs.Messages.{◌∈◌, Act, Proposing, Prevoting, Precommitting, Record, Own, Decided, Bundle, step_eq, body_of, sender_of}
use Rattle.protocol.specs.declared.types.Step.{Step}
use Rattle.protocol.specs.declared.types.Step.TheVariants.{Propose, Prevote, Precommit}
use Rattle.protocol.specs.declared.types.Stamp.{Stamp}
use Rattle.protocol.specs.declared.types.ValueAt.{ValueAt}
use Rattle.protocol.specs.declared.types.Timeout.{Timeout}
use Rattle.protocol.specs.State.{Context, State, Node, Queue, Rule, Start, PrevoteFresh, PrevoteAgain, AwaitPrevotes, Lock, PrecommitNil, AwaitPrecommits, Decide, DecideByBundle, SkipRound, TimedOut}
use Rattle.protocol.specs.Rules.{changed, times_out, fired, holds, keeping_own, released_by, saved, starts, proposal_of, scheduled}
use Rattle.protocol.specs.Restart.{own_since}
use Rattle.protocol.specs.Queues.{pick, drop_delivered, all_waiting}
use Rattle.protocol.specs.Arrivals.{is_decision, queues_after, firing}
use Rattle.protocol.proofs.Waiting.{dropped_in}
use Rattle.messages.specs.Grammar.{IsBody, IsBundle}
use Rattle.round_states.specs.Machine.{Machine, Agrees}
use Rattle.round_states.specs.Pending.{Pending, pending_of}
use Rattle.round_states.specs.Plans.{says, moved, applied}
use Rattle.round_states.specs.declared.plans.Plan.{Plan}
use Rattle.vote_journal.specs.Grammar.{IsRecord}
use Rattle.vote_journal.specs.Order.{may_follow}
use Rattle.vote_journal.specs.Layout.{IsWhole}
use Rattle.vote_journal.specs.Laws.{EachFollows, IsLawful}
use Rattle.vote_journal.specs.Saving.{WhereSaved}
use Rattle.vote_journal.proofs.Following.{fired_lawful}
use Rattle.vote_journal.proofs.Stops.{one_journal, whole_is_journal}
use Rattle.state_journal.specs.Saving.{IsWritten}
use Rattle.node_core.specs.Core.{Core, JournalSeen, Stands, IsSame, IsSaid, IsKept, IsSound, IsOf, IsStamp, delivered_in, setting, setting_of, context_of, frame_by}
use Rattle.node_core.specs.Calls.{HasFiredOnce, Serves}
use Rattle.node_core.specs.Firing.{decided_by, said_after, said_by, is_empty}
use Rattle.node_core.proofs.Stepwise.{same_setting}
use Rattle.protocol.specs.Effects.{bundles_in}

kept_stamps : (s : State) (b : Option Body) → (keeping_own s b).stamps ≡ s.stamps
kept_stamps s None = refl
kept_stamps s (Some (OfTx t)) = refl
kept_stamps s (Some (OfProposal q)) = refl
kept_stamps s (Some (OfVote v)) = refl
kept_stamps s (Some (OfAsk a)) = refl
kept_stamps s (Some (OfBundle b)) = refl

timed_stamps : (P : Stamp → Type 0) (s : State) (kind : Step) → All P s.stamps → All P (times_out s kind).next.stamps
timed_stamps P s Propose all = all
timed_stamps P s Prevote all = all
timed_stamps P s Precommit all = all

changed_stamps : (P : Stamp → Type 0) (s : State) (k : Rule) → All P s.stamps → All P (changed s k).stamps
changed_stamps P s Start all = all
changed_stamps P s (PrevoteFresh v) all = all
changed_stamps P s (PrevoteAgain r v) all = all
changed_stamps P s AwaitPrevotes all = all
changed_stamps P s (Lock v) all = all
changed_stamps P s PrecommitNil all = all
changed_stamps P s AwaitPrecommits all = all
changed_stamps P s (Decide r v) all = λ i d lt. absurd (omega arith)
changed_stamps P s (DecideByBundle b) all = λ i d lt. absurd (omega arith)
changed_stamps P s (SkipRound r) all = all
changed_stamps P s (TimedOut t) all = timed_stamps P s t.kind all

-- a firing keeps the stamps, or lets them all go
pub fired_stamps : (P : Stamp → Type 0) (g : Context) (v : Value) (s : State) (k : Rule) → All P s.stamps → All P (fired g v s k).stamps
fired_stamps P g v s k all = rw (kept_stamps (changed s k) (released_by g.me (saved g v s k))) (changed_stamps P s k all)

-- the decision in what was saved
abbrev pub decided_in : Option Record → List Bundle
decided_in None = []
decided_in (Some (Own h r act)) = []
decided_in (Some (Decided b)) = b ∷ []

pub saved_bundles : (wrote : Option Record) (journal : List Record) → bundles_in (option_to_list wrote ++ journal) ≡ bundles_in journal ++ decided_in wrote
saved_bundles None journal = sym (append-nil (bundles_in journal))
saved_bundles (Some (Own h r act)) journal = sym (append-nil (bundles_in journal))
saved_bundles (Some (Decided b)) journal = refl

-- ---- what is decided

IsPlain : Option Record → Type 0
IsPlain wrote = decided_in wrote ≡ []

starts_plain : (g : Context) (s : State) (r : ℕ) (v : Value) → decided_in (starts g s r v) ≡ []
starts_plain g s r v = cond_both (proposer g.powers s.height r == g.me) _ _ (λ (w : Option Record). decided_in w ≡ []) (λ _. by_value s.valid_value) (λ _. refl)
  where
    by_value : (o : Option ValueAt) → decided_in (Some (proposal_of s r v o)) ≡ []
    by_value None = refl
    by_value (Some l) = refl

timed_plain : (g : Context) (s : State) (v : Value) (kind : Step) → decided_in ((times_out s kind).saves g v) ≡ []
timed_plain g s v Propose = refl
timed_plain g s v Prevote = refl
timed_plain g s v Precommit = starts_plain g s (suc s.round) v

-- a firing decides, or its height and what is decided and delivered stay
pub record Decides (g : Context) (v : Value) (s : State) (k : Rule) : Type 0 where
  pub empty : is_empty (decided_in (saved g v s k)) ≡ not (is_decision k)
  pub height : (fired g v s k).height ≡ s.height + length (decided_in (saved g v s k))
  pub joined : (fired g v s k).delivered ≡ s.delivered ++ delivered_in (decided_in (saved g v s k))

kept_height : (s : State) (b : Option Body) → (keeping_own s b).height ≡ s.height
kept_height s None = refl
kept_height s (Some (OfTx t)) = refl
kept_height s (Some (OfProposal q)) = refl
kept_height s (Some (OfVote v)) = refl
kept_height s (Some (OfAsk a)) = refl
kept_height s (Some (OfBundle b)) = refl

kept_delivered : (s : State) (b : Option Body) → (keeping_own s b).delivered ≡ s.delivered
kept_delivered s None = refl
kept_delivered s (Some (OfTx t)) = refl
kept_delivered s (Some (OfProposal q)) = refl
kept_delivered s (Some (OfVote v)) = refl
kept_delivered s (Some (OfAsk a)) = refl
kept_delivered s (Some (OfBundle b)) = refl

timed_delivered : (s : State) (kind : Step) → (times_out s kind).next.delivered ≡ s.delivered
timed_delivered s Propose = refl
timed_delivered s Prevote = refl
timed_delivered s Precommit = refl

timed_height : (s : State) (kind : Step) → (times_out s kind).next.height ≡ s.height
timed_height s Propose = refl
timed_height s Prevote = refl
timed_height s Precommit = refl

plain : (g : Context) (v : Value) (s : State) (k : Rule) → decided_in (saved g v s k) ≡ [] → is_decision k ≡ false → (changed s k).height ≡ s.height → (changed s k).delivered ≡ s.delivered → Decides g v s k
plain g v s k none still same kept = record {
  empty = rw (none, still) refl;
  height = kept_height (changed s k) (released_by g.me (saved g v s k)) ∙ same ∙ (let e : length (decided_in (saved g v s k)) ≡ 0 = ap length none in omega (arith, e));
  joined = kept_delivered (changed s k) (released_by g.me (saved g v s k)) ∙ kept ∙ sym (ap (λ bs. s.delivered ++ delivered_in bs) none ∙ append-nil s.delivered);
}

pub decides : (g : Context) (v : Value) (s : State) (k : Rule) → Decides g v s k
decides g v s Start = plain g v s Start (starts_plain g s 0 v) refl refl refl
decides g v s (PrevoteFresh u) = plain g v s (PrevoteFresh u) refl refl refl refl
decides g v s (PrevoteAgain r u) = plain g v s (PrevoteAgain r u) refl refl refl refl
decides g v s AwaitPrevotes = plain g v s AwaitPrevotes refl refl refl refl
decides g v s (Lock u) = plain g v s (Lock u) (cond_both (step_eq s.step Prevote) _ _ (λ (w : Option Record). decided_in w ≡ []) (λ _. refl) (λ _. refl)) refl refl refl
decides g v s PrecommitNil = plain g v s PrecommitNil refl refl refl refl
decides g v s AwaitPrecommits = plain g v s AwaitPrecommits refl refl refl refl
decides g v s (Decide r u) = record { empty = refl; height = omega arith; joined = ap (λ l. s.delivered ++ l) (sym (append-nil (items u))) }
decides g v s (DecideByBundle b) = record { empty = refl; height = omega arith; joined = ap (λ l. s.delivered ++ l) (sym (append-nil (items b.value))) }
decides g v s (SkipRound r) = plain g v s (SkipRound r) (starts_plain g s r v) refl refl refl
decides g v s (TimedOut t) = plain g v s (TimedOut t) (timed_plain g s v t.kind) refl (timed_height s t.kind) (timed_delivered s t.kind)

pub pending_decided : (me : ℕ) (wrote : Option Record) → decided_by (pending_of me wrote) ≡ decided_in wrote
pending_decided me None = refl
pending_decided me (Some (Own h r act)) = refl
pending_decided me (Some (Decided b)) = refl

-- ---- what is saved

-- it has a spelling
abbrev pub OptionRecord : ℕ → Option Record → Type 0
OptionRecord me None = Unit {0}
OptionRecord me (Some r) = IsRecord me r

pub written_me : (wrote : Option Record) (old new : JournalSeen) → IsWritten wrote old new → new.me ≡ old.me
written_me None old new w = ap (λ (j : JournalSeen). j.me) w
written_me (Some r) old new w = w.me

pub written_serves : (wrote : Option Record) (old new : JournalSeen) → IsWritten wrote old new → Serves old new
written_serves None old new w = record { failed = ap (λ (j : JournalSeen). j.failed) w; failures = ap (λ (j : JournalSeen). j.failures) w }
written_serves (Some r) old new w = record { failed = w.failed; failures = w.failures }

written_whole : (powers : List ℕ) (me : ℕ) (wrote : Option Record) (j : List Record) (old new : JournalSeen) → old.me ≡ me → IsWhole powers me old.bytes (reverse j) → IsWritten wrote old new → OptionRecord me wrote → EachFollows powers (option_to_list wrote ++ j)
    → IsWhole powers me new.bytes (reverse (option_to_list wrote ++ j))
written_whole powers me None j old new em w written r f = subst (λ (x : JournalSeen). IsWhole powers me x.bytes (reverse j)) (sym written) w
written_whole powers me (Some r) j old new em w written fits f =
    let more = subst (λ i. WhereSaved i old.bytes r (λ powers rs. IsWhole powers i new.bytes (rs ++ r ∷ []))) em written.whole in
    subst (IsWhole powers me new.bytes) (sym (reverse-append (r ∷ []) j)) (more powers (reverse j) w fits (subst (λ (l : List Record). may_follow powers l r ≡ true) (sym (reverse-reverse j)) f.0))

-- the own messages of the height after it
abbrev pub said_of : ℕ → Option Record → List Body → List Body
said_of me None said = said
said_of me (Some r) said = said_after me r said

saved_said : (me : ℕ) (wrote : Option Record) (journal : List Record) → own_since me (option_to_list wrote ++ journal) ≡ said_of me wrote (own_since me journal)
saved_said me None journal = refl
saved_said me (Some (Own h r act)) journal = refl
saved_said me (Some (Decided b)) journal = refl

pub pending_said : (me : ℕ) (wrote : Option Record) (said : List Body) → said_by (pending_of me wrote) said ≡ said_of me wrote said
pending_said me None said = refl
pending_said me (Some r) said = refl

one_said : (P : Body → Type 0) (b : Body) → P b → All P (b ∷ [])
one_said P b h zero d lt = h
one_said P b h (suc i) d lt = absurd (omega (arith, lt))

pub act_own : (me h r : ℕ) (act : Act) → sender_of (body_of me h r act) ≡ Validator me
act_own me h r (Proposing x v) = refl
act_own me h r (Prevoting x) = refl
act_own me h r (Precommitting v) = refl

said_all : (me : ℕ) (wrote : Option Record) (said : List Body) → IfSome (released_by me wrote) IsBody → All (IsSaid me) said → All (IsSaid me) (said_of me wrote said)
said_all me None said b all = all
said_all me (Some (Own h r act)) said b all = All-append (IsSaid me) said (body_of me h r act ∷ []) all (one_said (IsSaid me) (body_of me h r act) (record { spelled = b; own = act_own me h r act }))
said_all me (Some (Decided x)) said b all = λ i d lt. absurd (omega arith)

-- ---- a core after a firing

-- what the firing of a rule makes of a core
pub record IsFiredTo (k : Rule) (old new : Core) : Type 0 where
  pub same : IsSame old new
  pub state : new.machine.state ≡ fired (context_of old) (pick old.queues) old.machine.state k
  pub agrees : Agrees (context_of old) new.machine
  pub room : new.machine.room ≡ None
  pub queues : new.queues ≡ cond (is_empty (decided_in (saved (context_of old) (pick old.queues) old.machine.state k))) old.queues (drop_delivered new.machine.state.delivered old.queues)
  pub decisions : new.decisions ≡ old.decisions ++ decided_in (saved (context_of old) (pick old.queues) old.machine.state k)
  pub outgoing : new.outgoing ≡ old.outgoing ++ map (frame_by old) (option_to_list (released_by old.machine.me (saved (context_of old) (pick old.queues) old.machine.state k)))
  pub scheduled : new.scheduled ≡ old.scheduled ++ option_to_list (scheduled (context_of old) old.machine.state k)
  pub said : new.said ≡ said_of old.machine.me (saved (context_of old) (pick old.queues) old.machine.state k) old.said
  pub journal : IsWritten (saved (context_of old) (pick old.queues) old.machine.state k) old.journal new.journal

-- what a core is before a rule fires that holds, whose record can be spelled
pub record MayFire (k : Rule) (core : Core) : Type 0 where
  pub sound : IsSound core
  pub running : core.journal.failed ≡ false
  pub holds : holds (context_of core) core.machine.state k ≡ true
  pub fits : OptionRecord core.machine.me (saved (context_of core) (pick core.queues) core.machine.state k)

-- ---- its journal

relawful : (c : Setting) (p : ℕ) (n m : Node) → m.state ≡ n.state → m.journal ≡ n.journal → IsLawful c p n → IsLawful c p m
relawful c p n m es ej l = record { tied = rw (es, ej) l.tied; keeps = rw es l.keeps; follows = rw ej l.follows; made = rw ej l.made }

-- the node that a core's journal makes it
abbrev pub node_of : Core → List Record → Node
node_of core records = record { state = core.machine.state; queues = core.queues; journal = records }

-- and the core stands for it
pub kept_stands : (core : Core) (k : IsKept core) → Stands (node_of core k.records) core
kept_stands core k = record { state = refl; queues = refl; decisions = k.decisions; said = k.said; journal = λ _. k.whole }

pub fired_journal : (k : Rule) (old : Core) (m : MayFire k old) → IsLawful (setting_of old) old.machine.me (firing (setting_of old) old.machine.me (node_of old (m.sound.kept m.running).records) k).node
fired_journal k old m = fired_lawful (setting_of old) old.machine.me (node_of old (m.sound.kept m.running).records) k (m.sound.kept m.running).lawful m.holds

pub same_context : (old new : Core) → IsSame old new → context_of new ≡ context_of old
same_context old new s = rw (s.powers, s.me, s.ring) refl

fired_whole : (k : Rule) (old new : Core) (f : IsFiredTo k old new) (m : MayFire k old) → IsWhole old.machine.powers old.machine.me new.journal.bytes (reverse (option_to_list (saved (context_of old) (pick old.queues) old.machine.state k) ++ (m.sound.kept m.running).records))
unfolding setting
fired_whole k old new f m =
    let kept = m.sound.kept m.running in
    written_whole old.machine.powers old.machine.me (saved (context_of old) (pick old.queues) old.machine.state k) kept.records old.journal new.journal m.sound.journal kept.whole f.journal m.fits (fired_journal k old m).follows

fired_kept : (k : Rule) (old new : Core) → IsFiredTo k old new → MayFire k old → IsKept new
fired_kept k old new f m =
    let kept = m.sound.kept m.running in
    let wrote : Option Record = saved (context_of old) (pick old.queues) old.machine.state k in
    let records : List Record = option_to_list wrote ++ kept.records in
    record {
      records = records;
      decisions = f.decisions ∙ ap (λ l. l ++ decided_in wrote) kept.decisions ∙ sym (saved_bundles wrote kept.records);
      said = f.said ∙ ap (said_of old.machine.me wrote) kept.said ∙ sym (saved_said old.machine.me wrote kept.records) ∙ (rw f.same.me refl);
      whole = rw (f.same.powers, f.same.me) (fired_whole k old new f m);
      lawful = rw (same_setting old new f.same, f.same.me) (relawful (setting_of old) old.machine.me _ (node_of new records) f.state refl (fired_journal k old m));
    }

-- the journal of a node that the core stands for
pub same_journal : (n : Node) (core : Core) → Stands n core → core.journal.failed ≡ false → (k : IsKept core) → n.journal ≡ k.records
same_journal n core s running k =
    let is = one_journal core.machine.powers core.machine.me core.journal.bytes (reverse n.journal) (reverse k.records)
    (whole_is_journal core.machine.powers core.machine.me core.journal.bytes (reverse n.journal) (s.journal running))
    (whole_is_journal core.machine.powers core.machine.me core.journal.bytes (reverse k.records) k.whole) in
    sym (reverse-reverse n.journal) ∙ ap reverse is ∙ reverse-reverse k.records

flipped : (b : Bool) (xs ys : List Queue) → cond (not b) xs ys ≡ cond b ys xs
flipped true xs ys = refl
flipped false xs ys = refl

pub fired_once : (n : Node) (k : Rule) (old new : Core) → IsFiredTo k old new → MayFire k old → Stands n old → HasFiredOnce n k old new
fired_once n k old new f m s =
    let wrote : Option Record = saved (context_of old) (pick old.queues) old.machine.state k in
    let d = decides (context_of old) (pick old.queues) old.machine.state k in
    let queues : new.queues ≡ queues_after (fired (context_of old) (pick old.queues) old.machine.state k) k old.queues =
    f.queues ∙ ap (λ b. cond b old.queues (drop_delivered new.machine.state.delivered old.queues)) d.empty ∙ flipped (is_decision k) old.queues _ ∙ ap (λ (t : State). cond (is_decision k) (drop_delivered t.delivered old.queues) old.queues) f.state in
    record {
      stands = record {
        state = rw (← s.state, ← s.queues) f.state;
        queues = rw (← s.state, ← s.queues) queues;
        decisions = f.decisions ∙ ap (λ l. l ++ decided_in wrote) s.decisions ∙ sym (saved_bundles wrote n.journal) ∙ (rw (← s.state, ← s.queues) refl);
        said = f.said ∙ ap (said_of old.machine.me wrote) s.said ∙ sym (saved_said old.machine.me wrote n.journal) ∙ (rw (f.same.me, ← s.state, ← s.queues) refl);
        journal = λ _. rw (f.same.powers, f.same.me, ← s.state, ← s.queues, same_journal n old s m.running (m.sound.kept m.running)) (fired_whole k old new f m);
      };
      outgoing = rw (← s.state, ← s.queues) f.outgoing;
      scheduled = rw (← s.state) f.scheduled;
      same = f.same;
    }

pub fired_sound : (k : Rule) (old new : Core) → IsFiredTo k old new → MayFire k old → All IsBundle (decided_in (saved (context_of old) (pick old.queues) old.machine.state k)) → All (IsOf old.machine.me) (decided_in (saved (context_of old) (pick old.queues) old.machine.state k))
    → IfSome (released_by old.machine.me (saved (context_of old) (pick old.queues) old.machine.state k)) IsBody → IsSound new
fired_sound k old new f m spelled own said =
    let s : IsSound old = m.sound in
    let wrote : Option Record = saved (context_of old) (pick old.queues) old.machine.state k in
    let d = decides (context_of old) (pick old.queues) old.machine.state k in
    let same : setting_of new ≡ setting_of old = same_setting old new f.same in
    record {
      owner = rw (f.same.ring, f.same.me) s.owner;
      count = rw (f.same.ring, f.same.powers) s.count;
      me = rw (f.same.powers, f.same.me) s.me;
      whole = rw f.same.ring s.whole;
      few = rw f.same.powers s.few;
      agrees = subst (λ g. Agrees g new.machine) (sym (same_context old new f.same)) f.agrees;
      room = f.room;
      waiting = λ t i. rw (same, f.same.me) (s.waiting t (cond_both (is_empty (decided_in wrote)) old.queues (drop_delivered new.machine.state.delivered old.queues) (λ qs. t ∈ all_waiting qs → t ∈ all_waiting old.queues)
          (λ _ j. j) (λ _ j. dropped_in new.machine.state.delivered t old.queues j) (subst (λ qs. t ∈ all_waiting qs) f.queues i)));
      stamps = rw f.state (fired_stamps IsStamp (context_of old) (pick old.queues) old.machine.state k s.stamps);
      joined = ap (λ (t : State). t.delivered) f.state ∙ d.joined ∙ ap (λ l. l ++ delivered_in (decided_in wrote)) s.joined ∙ sym (flat_map-append (λ (b : Bundle). items b.value) old.decisions (decided_in wrote)) ∙ ap delivered_in (sym f.decisions);
      decided = rw (f.decisions, f.state, d.height) (let e = length-append old.decisions (decided_in wrote) in omega (arith, e, s.decided));
      spelled = rw f.decisions (All-append IsBundle old.decisions (decided_in wrote) s.spelled spelled);
      own = rw (f.decisions, f.same.me) (All-append (IsOf old.machine.me) old.decisions (decided_in wrote) s.own own);
      said = rw (f.said, f.same.me) (said_all old.machine.me wrote old.said said s.said);
      journal = written_me wrote old.journal new.journal f.journal ∙ s.journal ∙ sym f.same.me;
      kept = λ _. fired_kept k old new f m;
    }

-- ---- from what the parts of a firing ensure

pub fired_to : (k : Rule) (old new : Core) (v : Value) (plan : Plan) (said : Option Pending) (timeout : Option Timeout)
    → saved (context_of old) v old.machine.state k ≡ saved (context_of old) (pick old.queues) old.machine.state k
    → says plan ≡ saved (context_of old) v old.machine.state k → moved old.machine.state plan.change ≡ changed old.machine.state k → plan.timeout ≡ scheduled (context_of old) old.machine.state k
    → Agrees (context_of old) (applied old.machine plan) → new.machine ≡ applied old.machine plan → new.ring ≡ old.ring
    → said ≡ pending_of old.machine.me (says plan) → timeout ≡ plan.timeout
    → new.queues ≡ cond (is_empty (decided_by said)) old.queues (drop_delivered new.machine.state.delivered old.queues) → new.decisions ≡ old.decisions ++ decided_by said
    → new.outgoing ≡ old.outgoing ++ map (frame_by old) (option_to_list (released_by old.machine.me (says plan))) → new.scheduled ≡ old.scheduled ++ option_to_list timeout
    → new.said ≡ said_by said old.said → IsWritten (says plan) old.journal new.journal
    → IsFiredTo k old new
unfolding setting
fired_to k old new v plan said timeout same says_it moves timed agrees is ring saying started queues decisions outgoing scheduling own wrote =
    let me = old.machine.me in
    let what : says plan ≡ saved (context_of old) (pick old.queues) old.machine.state k = says_it ∙ same in
    let agreed : Agrees (context_of old) new.machine = subst (Agrees (context_of old)) (sym is) agrees in
    let d : decided_by said ≡ decided_in (saved (context_of old) (pick old.queues) old.machine.state k) = ap decided_by saying ∙ pending_decided me (says plan) ∙ ap decided_in what in
    record {
      same = record { powers = agreed.powers; me = agreed.me; ring = ring };
      state = ap (λ (m : Machine). m.state) is ∙ ap (λ (s : State). keeping_own s (released_by me (says plan))) moves ∙ ap (λ w. keeping_own (changed old.machine.state k) (released_by me w)) what;
      agrees = agreed;
      room = ap (λ (m : Machine). m.room) is;
      queues = queues ∙ ap (λ (bs : List Bundle). cond (is_empty bs) old.queues (drop_delivered new.machine.state.delivered old.queues)) d;
      decisions = decisions ∙ ap (λ l. old.decisions ++ l) d;
      outgoing = outgoing ∙ ap (λ w. old.outgoing ++ map (frame_by old) (option_to_list (released_by me w))) what;
      scheduled = scheduling ∙ ap (λ o. old.scheduled ++ option_to_list o) (started ∙ timed);
      said = own ∙ ap (λ o. said_by o old.said) saying ∙ pending_said me (says plan) old.said ∙ ap (λ o. said_of me o old.said) what;
      journal = subst (λ o. IsWritten o old.journal new.journal) what wrote;
    }

pub empty_nil : (bs : List Bundle) → is_empty bs ≡ true → bs ≡ []
empty_nil [] e = refl
empty_nil (b ∷ bs) e = absurd (let f : false ≡ true = e in cc)

pub none_all : (P : Bundle → Type 0) (bs : List Bundle) → bs ≡ [] → All P bs
none_all P bs e = subst (λ l. All P l) (sym e) (λ i d lt. absurd (omega arith))

pub one_all : (P : Bundle → Type 0) (b : Bundle) → P b → All P (b ∷ [])
one_all P b h zero d lt = h
one_all P b h (suc i) d lt = absurd (omega (arith, lt))
