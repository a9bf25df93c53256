-- A timeout that is due: its rule fires, or nothing happens.
use Rattle.std.proofs.Common.{◌≡◌, ◌≢◌, true, false, cond, Option, Some, [], ◌++◌, map, sym, ap, subst}
use Rattle.std.proofs.lemmas.List.{append-nil}
use Rattle.protocol.specs.State.{State, Node, TimedOut}
use Rattle.protocol.specs.declared.types.Timeout.{Timeout}
use Rattle.protocol.specs.Rules.{holds}
use Rattle.protocol.specs.Refusals.{Refusal}
use Rattle.round_machine.specs.Timing.{IsRefusal as IsTimeoutRefusal}
use Rattle.protocol.specs.Arrivals.{Outcome, firing, nothing}
use Rattle.protocol.specs.World.{tried}
use Rattle.protocol.specs.History.{Due}
use Rattle.protocol.specs.Effects.{timeouts_taken, timeouts_of}
use Rattle.node_core.specs.Core.{Core, Stands, setting_of, context_of, frame_by}
use Rattle.protocol.specs.Answers.{IsRefusal, cause_of}
use Rattle.node_core.specs.Calls.{IsTaken, HasFiredOnce}
use Rattle.protocol.specs.declared.refusal.Refusal.{Refusal as Answer}
use Rattle.protocol.specs.declared.refusal.Refusal.TheVariants as answers
use Rattle.node_core.proofs.Answering.{cause_told, told_refused}
use Rattle.node_core.proofs.Stepwise.{same_itself}

pub due_fired : (n : Node) (t : Timeout) (old new : Core) → Stands n old → holds (context_of old) old.machine.state (TimedOut t) ≡ true → HasFiredOnce n (TimedOut t) old new → IsTaken n (Due t) old new
due_fired n t old new s h once =
    let there : holds (context_of old) n.state (TimedOut t) ≡ true = subst (λ (x : State). holds (context_of old) x (TimedOut t) ≡ true) s.state h in
    let at : tried (setting_of old) old.machine.me n (TimedOut t) ≡ firing (setting_of old) old.machine.me n (TimedOut t) = ap (λ b. cond b (firing (setting_of old) old.machine.me n (TimedOut t)) (nothing n)) there in
    let timeouts : timeouts_taken (setting_of old) old.machine.me n (Due t) ≡ timeouts_of (setting_of old) old.machine.me n (TimedOut t) = ap (λ b. cond b (timeouts_of (setting_of old) old.machine.me n (TimedOut t)) []) there in
    record {
      stands = subst (λ (o : Outcome). Stands o.node new) (sym at) once.stands;
      outgoing = subst (λ (o : Outcome). new.outgoing ≡ old.outgoing ++ map (frame_by old) o.out) (sym at) once.outgoing;
      scheduled = subst (λ l. new.scheduled ≡ old.scheduled ++ l) (sym timeouts) once.scheduled;
      same = once.same;
    }

pub due_passed : (n : Node) (t : Timeout) (old : Core) → Stands n old → holds (context_of old) old.machine.state (TimedOut t) ≡ false → IsTaken n (Due t) old old
due_passed n t old s h =
    let there : holds (context_of old) n.state (TimedOut t) ≡ false = subst (λ (x : State). holds (context_of old) x (TimedOut t) ≡ false) s.state h in
    let at : tried (setting_of old) old.machine.me n (TimedOut t) ≡ nothing n = ap (λ b. cond b (firing (setting_of old) old.machine.me n (TimedOut t)) (nothing n)) there in
    let timeouts : timeouts_taken (setting_of old) old.machine.me n (Due t) ≡ [] = ap (λ b. cond b (timeouts_of (setting_of old) old.machine.me n (TimedOut t)) []) there in
    record {
      stands = subst (λ (o : Outcome). Stands o.node old) (sym at) s;
      outgoing = subst (λ (o : Outcome). old.outgoing ≡ old.outgoing ++ map (frame_by old) o.out) (sym at) (sym (append-nil old.outgoing));
      scheduled = subst (λ l. old.scheduled ≡ old.scheduled ++ l) (sym timeouts) (sym (append-nil old.scheduled));
      same = same_itself old;
    }

-- a refused timeout has a cause
pub some_refused : (cause : Option Refusal) (r : Answer) → IsTimeoutRefusal cause (Some r) → (x : Refusal) × (cause ≡ Some x)
some_refused cause r h = cause_told cause (cause_of r) h

pub timeout_refused : (cause : Option Refusal) (r : Answer) → IsTimeoutRefusal cause (Some r) → IsRefusal cause r
timeout_refused cause r h = told_refused cause r h

pub timeout_other : (cause : Option Refusal) (r : Answer) → IsTimeoutRefusal cause (Some r) → r ≢ answers.JournalFailed
timeout_other cause r h is = subst (λ x. IsTimeoutRefusal cause (Some x)) is h
