-- Journals and sent lists only grow.
use Rattle.std.proofs.Common.{◌≡◌, ℕ, inr, cond, List, [], ◌∷◌, ◌++◌, refl, sym, ◌∙◌, ap, subst, eqb-true, append_assoc, option_to_list}
use Rattle.std.specs.Prelude.{◌==◌}
use Rattle.std.proofs.lemmas.Bool.{cond_both}
use Rattle.messages.specs.Framing.{message_of}
use Rattle.protocol.specs.Values.{Item}
use Rattle.protocol.specs.Tags.{Setting}
use Rattle.protocol.specs.Messages.{◌∈◌, Record, Own, Decided}
use Rattle.protocol.specs.State.{DecideByBundle, Rule, Node}
use Rattle.protocol.specs.Rules.{saved}
use Rattle.protocol.specs.Restart.{opened}
use Rattle.protocol.specs.Queues.{pick}
use Rattle.protocol.specs.Refusals.{context}
use Rattle.protocol.specs.Arrivals.{taken_in, firing}
use Rattle.protocol.specs.World.{World, Event, Sends, Comes, Fires, Asks, Resends, Restarts, happens, run, cut_record, next_item, moved}
use Rattle.protocol.proofs.Membership.{in_left, in_right}
use Rattle.protocol.proofs.Arrivals.{come_cases, try_cases}
use Rattle.protocol.proofs.Locking.{Mark}
use Rattle.protocol.proofs.Marks.{marks_of}

-- these records, and then what was there
pub record Longer (old new : List Record) : Type 0 where
  pub more : List Record
  pub is : new ≡ more ++ old

pub same_long : (j : List Record) → Longer j j
same_long j = record { more = []; is = refl }

pub longer_at : (p q : ℕ) (nodes : ℕ → Node) (n : Node) → Longer (nodes p).journal n.journal → Longer (nodes q).journal (cond (q == p) n (nodes q)).journal
longer_at p q nodes n b = cond_both (q == p) n (nodes q) (λ (o : Node). Longer (nodes q).journal o.journal)
    (λ e. subst (λ i. Longer (nodes i).journal n.journal) (sym (eqb-true q p e)) b) (λ _. same_long (nodes q).journal)

pub fired_longer : (c : Setting) (p : ℕ) (n : Node) (k : Rule) → Longer n.journal (firing c p n k).node.journal
fired_longer c p n k = record { more = option_to_list (saved (context c p) (pick n.queues) n.state k); is = refl }

pub happens_longer : (c : Setting) (w : World) (e : Event) (q : ℕ) → Longer (w.nodes q).journal ((happens c w e).nodes q).journal
happens_longer c w (Sends client op) q = same_long (w.nodes q).journal
happens_longer c w (Comes p bytes) q = come_cases c p (w.nodes p) (message_of bytes) (λ o. Longer (w.nodes q).journal ((moved w p o).nodes q).journal) (longer_at p q w.nodes (w.nodes p) (same_long (w.nodes p).journal))
    (λ m b _ _ _. longer_at p q w.nodes (taken_in (w.nodes p) m b).node (same_long (w.nodes p).journal))
    (λ m b _ _ _. longer_at p q w.nodes (firing c p (w.nodes p) (DecideByBundle b)).node (fired_longer c p (w.nodes p) (DecideByBundle b)))
happens_longer c w (Fires p k) q = try_cases c p (w.nodes p) k (λ o. Longer (w.nodes q).journal ((moved w p o).nodes q).journal) (longer_at p q w.nodes (w.nodes p) (same_long (w.nodes p).journal))
    (λ _ _. longer_at p q w.nodes (firing c p (w.nodes p) k).node (fired_longer c p (w.nodes p) k))
happens_longer c w (Asks p) q = longer_at p q w.nodes (w.nodes p) (same_long (w.nodes p).journal)
happens_longer c w (Resends p) q = longer_at p q w.nodes (w.nodes p) (same_long (w.nodes p).journal)
happens_longer c w (Restarts p cut) q = longer_at p q w.nodes (opened p (cut_record c p (w.nodes p) cut ++ (w.nodes p).journal)) (record { more = cut_record c p (w.nodes p) cut; is = refl })

pub run_longer : (c : Setting) (w : World) (es : List Event) (q : ℕ) → Longer (w.nodes q).journal ((run c w es).nodes q).journal
run_longer c w [] q = same_long (w.nodes q).journal
run_longer c w (e ∷ es) q =
    let a = happens_longer c w e q in
    let b = run_longer c (happens c w e) es q in
    record { more = b.more ++ a.more; is = b.is ∙ ap (λ j. b.more ++ j) a.is ∙ sym (append_assoc b.more a.more (w.nodes q).journal) }

pub run_append : (c : Setting) (w : World) (es fs : List Event) → run c w (es ++ fs) ≡ run c (run c w es) fs
run_append c w [] fs = refl
run_append c w (e ∷ es) fs = run_append c (happens c w e) es fs

-- ---- what stays

pub record_stays : (old new : List Record) → Longer old new → (r : Record) → r ∈ old → r ∈ new
record_stays old new l r k = subst (λ j. r ∈ j) (sym l.is) (in_right r l.more old k)

marks_stay_in : (more old : List Record) (m : Mark) → m ∈ marks_of old → m ∈ marks_of (more ++ old)
marks_stay_in [] old m k = k
marks_stay_in (Own h r act ∷ more) old m k = inr (marks_stay_in more old m k)
marks_stay_in (Decided b ∷ more) old m k = marks_stay_in more old m k

pub marks_stay : (old new : List Record) → Longer old new → (m : Mark) → m ∈ marks_of old → m ∈ marks_of new
marks_stay old new l m k = subst (λ j. m ∈ marks_of j) (sym l.is) (marks_stay_in l.more old m k)

-- a sent item stays sent
pub happens_sent : (c : Setting) (w : World) (e : Event) (client : ℕ) (t : Item) → t ∈ w.sent client → t ∈ (happens c w e).sent client
happens_sent c w (Sends k op) client t i = cond_both (client == k) (w.sent k ++ next_item k op (w.sent k) ∷ []) (w.sent client) (λ l. t ∈ l)
    (λ e. in_left t (w.sent k) _ (subst (λ n. t ∈ w.sent n) (eqb-true client k e) i)) (λ _. i)
happens_sent c w (Comes p bytes) client t i = i
happens_sent c w (Fires p k) client t i = i
happens_sent c w (Asks p) client t i = i
happens_sent c w (Resends p) client t i = i
happens_sent c w (Restarts p cut) client t i = i
