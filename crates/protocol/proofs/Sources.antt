-- What every event leaves known of the values in correct nodes: the transactions of a correct client were sent.
use Rattle.std.proofs.Common.{◌≡◌, ℕ, inl, inr, true, cond, List, [], ◌∷◌, ◌++◌, refl, sym, subst, Option, Some, None, Result, Ok, Err, eqb-true, option_to_list}
use Rattle.std.specs.Prelude.{◌==◌}
use Rattle.std.proofs.lemmas.Bool.{and_parts, cond_both}
use Rattle.transactions.specs.declared.fault.Fault.{Fault}
use Rattle.transactions.specs.Grammar.{tx_fields_spelling}
use Rattle.messages.specs.Grammar.{body_spelling}
use Rattle.messages.specs.Framing.{message_of}
use Rattle.protocol.specs.Values.{Tx, Value, item}
use Rattle.protocol.specs.Tags.{Setting, right, tx_is_right}
use Rattle.protocol.specs.Messages.{◌∈◌, Record, Own, Decided, Body, OfTx, OfProposal, OfVote, OfAsk, OfBundle, Message, Proposal, body_of, sender_of}
use Rattle.protocol.specs.State.{Node, Rule, DecideByBundle}
use Rattle.protocol.specs.Rules.{holds, saved}
use Rattle.protocol.specs.Restart.{restart, opened, own_since, proposals_in}
use Rattle.protocol.specs.Queues.{pick}
use Rattle.protocol.specs.Refusals.{context, tagged_tx}
use Rattle.protocol.specs.Arrivals.{arrival, firing, taken_in}
use Rattle.protocol.specs.World.{World, Event, Sends, Comes, Fires, Asks, Resends, Restarts, happens, run, beginning, cut_record, moved, tried}
use Rattle.protocol.specs.Premises.{Honesty, IsCorrect, AtCorrect, at_validator, EventUnforged, Genuine, FromSender, Unforged, EventHas, BodyHas, MessageHas, RecordHas, held, held_txs}
use Rattle.protocol.proofs.Membership.{in_append, map_in, in_flat_map, each_pushed}
use Rattle.protocol.proofs.Waiting.{queued_in}
use Rattle.protocol.proofs.Arrivals.{come_cases, try_cases, cut_cases, comes_genuine}
use Rattle.protocol.proofs.Backing.{Marks, Extends, marks_in}
use Rattle.protocol.proofs.Growth.{happens_longer, run_longer, record_stays, marks_stay, happens_sent}
use Rattle.protocol.proofs.Global.{Sound, at_itself, happens_sound}
use Rattle.protocol.proofs.Known.{Sent, Grown, Known, ValueKnown, RecordVouched, BodyKnown, NodeKnown, node_more, OptionSeen, own_body_known, fired_known}

module _ (c : Setting) (h : Honesty) (seen : Value → Type 0) where
  -- ---- a restart

  since_known : (p : ℕ) (marks : Marks c h) (sent : Sent c h seen) (j : List Record) → ((r : Record) → r ∈ j → RecordVouched c h seen p marks sent r) → (b : Body) → b ∈ own_since p j → BodyKnown c h seen p sent b
  since_known p marks sent [] k b i = absurd i
  since_known p marks sent (Decided d ∷ j) k b i = absurd i
  since_known p marks sent (Own height round act ∷ j) k b i = elim (in_append b (own_since p j) (body_of p height round act ∷ []) i) [
    | inl l ↦ since_known p marks sent j (λ r m. k r (inr m)) b l
    | inr (inl e) ↦ subst (BodyKnown c h seen p sent) (sym e) (own_body_known c h seen p marks sent height round act (k (Own height round act) (inl refl)))
    | inr (inr e) ↦ absurd e
  ]

  opened_known : (p : ℕ) (marks : Marks c h) (sent : Sent c h seen) (j : List Record) → ((r : Record) → r ∈ j → RecordVouched c h seen p marks sent r) → NodeKnown c h seen p marks sent (opened p j)
  unfolding restart
  opened_known p marks sent j k = record {
    vouched = k;
    proposals = λ q i. let f = in_flat_map proposals_in q (own_since p j) i in since_known p marks sent j k f.0 f.1 q f.2;
    found = tt;
    queues = λ t i r a. absurd i;
  }

  -- ---- an arrival

  held_known : (w : World) (p : ℕ) (v : Value) → ((m : Message) → m ∈ held_txs v → right c p (sender_of m.body) (body_spelling m.body) m.tags ≡ true → FromSender c h w m.body (sender_of m.body)) → Known c h seen p w.sent v.txs
  unfolding tx_is_right tx_fields_spelling
  held_known w p v g t i r a = g _ (map_in _ t v.txs i) (and_parts _ _ r).1 (and_parts _ _ r).0 a

  taken_known : (w : World) (p : ℕ) (marks : Marks c h) (n : Node) → NodeKnown c h seen p marks w.sent n → (m : Message) (b : Body) → Genuine c h w p (held b) → FromSender c h w b (sender_of b) → ((v : Value) → BodyHas v b → seen v)
      → NodeKnown c h seen p marks w.sent (taken_in n m b).node
  unfolding tx_is_right
  taken_known w p marks n k m (OfProposal q) g f sn = record {
    vouched = k.vouched;
    found = k.found;
    queues = k.queues;
    proposals = each_pushed (λ (a : Proposal). ValueKnown c h seen p w.sent a.value) n.state.proposals q k.proposals (held_known w p q.value g, sn q.value refl);
  }
  taken_known w p marks n k m (OfVote v) g f sn = record { vouched = k.vouched; found = k.found; queues = k.queues; proposals = k.proposals }
  taken_known w p marks n k m (OfTx t) g f sn =
      let u : Tx = tagged_tx t m in record {
        vouched = k.vouched;
        found = k.found;
        proposals = k.proposals;
        queues = λ t' i r a. elim (queued_in u t' n.queues i) [
          | inl l ↦ subst (λ (x : Tx). item x ∈ w.sent x.client) (sym l) (f (subst (λ (x : Tx). c.clients x.client ≡ true) l (and_parts _ _ r).0) (subst (λ (x : Tx). h.clients x.client ≡ true) l a))
          | inr l ↦ k.queues t' l r a
        ];
      }
  taken_known w p marks n k m (OfAsk a) g f sn = record { vouched = k.vouched; found = k.found; queues = k.queues; proposals = k.proposals }
  taken_known w p marks n k m (OfBundle b) g f sn = record { vouched = k.vouched; found = k.found; queues = k.queues; proposals = k.proposals }

  -- ---- each event

  abbrev pub AllKnown : World → Type 0
  AllKnown w = (p : ℕ) → IsCorrect c h p → NodeKnown c h seen p (marks_in c h w.nodes) w.sent (w.nodes p)

  -- the values of a journal
  abbrev pub JournalSeen : List Record → Type 0
  JournalSeen j = (r : Record) → r ∈ j → (v : Value) → RecordHas v r → seen v

  -- of every correct one
  abbrev pub JournalsSeen : World → Type 0
  JournalsSeen w = (p : ℕ) → IsCorrect c h p → JournalSeen (w.nodes p).journal

  option_seen : (o : Option Record) (j : List Record) → JournalSeen (option_to_list o ++ j) → OptionSeen c h seen o
  option_seen None j k = tt
  option_seen (Some r) j k = k r (inl refl)

  fired_seen : (w : World) → Sound c h w → (p : ℕ) → IsCorrect c h p → NodeKnown c h seen p (marks_in c h w.nodes) w.sent (w.nodes p) → (k : Rule) → holds (context c p) (w.nodes p).state k ≡ true
      → JournalSeen (firing c p (w.nodes p) k).node.journal → NodeKnown c h seen p (marks_in c h w.nodes) w.sent (firing c p (w.nodes p) k).node
  fired_seen w s p ok n k e js = fired_known c h seen w s p ok w.sent n k e (option_seen (saved (context c p) (pick (w.nodes p).queues) (w.nodes p).state k) (w.nodes p).journal js)

  comes_seen : (r : Result Message Fault) (m : Message) (b : Body) → r ≡ Ok m → m.body ≡ b → ((v : Value) → MessageHas v r → seen v) → (v : Value) → BodyHas v b → seen v
  comes_seen (Ok n) m b e eb k v i = let f : n ≡ m = cc in k v (subst (λ (a : Message). BodyHas v a.body) (sym f) (subst (BodyHas v) (sym eb) i))
  comes_seen (Err fault) m b e eb k v i = absurd (cc)

  at_moved : (marks : Marks c h) (sent : Sent c h seen) (nodes : ℕ → Node) (p : ℕ) (n : Node) (q : ℕ) → NodeKnown c h seen p marks sent n → NodeKnown c h seen q marks sent (nodes q) → NodeKnown c h seen q marks sent (cond (q == p) n (nodes q))
  at_moved marks sent nodes p n q k old = cond_both (q == p) n (nodes q) (λ (o : Node). NodeKnown c h seen q marks sent o) (λ e. subst (λ i. NodeKnown c h seen i marks sent n) (sym (eqb-true q p e)) k) (λ _. old)

  module _ (w : World) (s : Sound c h w) (known : AllKnown w) where
    grown_to : (e : Event) → Grown c h seen w.sent (happens c w e).sent
    grown_to e = happens_sent c w e

    extends_to : (e : Event) → Extends c h (marks_in c h w.nodes) (marks_in c h (happens c w e).nodes)
    extends_to e i m k = marks_stay (w.nodes i).journal ((happens c w e).nodes i).journal (happens_longer c w e i) m k

    carried : (e : Event) (p : ℕ) (n : Node) → NodeKnown c h seen p (marks_in c h w.nodes) w.sent n → NodeKnown c h seen p (marks_in c h (happens c w e).nodes) (happens c w e).sent n
    carried e p n k = node_more c h seen p (marks_in c h w.nodes) (marks_in c h (happens c w e).nodes) w.sent (happens c w e).sent (extends_to e) (grown_to e) n k

    moved_to : (e : Event) (p : ℕ) (n : Node) → NodeKnown c h seen p (marks_in c h w.nodes) w.sent n → (q : ℕ) → IsCorrect c h q → NodeKnown c h seen q (marks_in c h (happens c w e).nodes) (happens c w e).sent (cond (q == p) n (w.nodes q))
    moved_to e p n k q ok = at_moved (marks_in c h (happens c w e).nodes) (happens c w e).sent w.nodes p n q (carried e p n k) (carried e q (w.nodes q) (known q ok))

    pub happens_known : (e : Event) → AtCorrect c h (at_validator e) → EventUnforged c h w e → ((v : Value) → EventHas v e → seen v) → JournalsSeen (happens c w e) → AllKnown (happens c w e)
    happens_known (Sends client op) ok u sn js q okq = carried (Sends client op) q (w.nodes q) (known q okq)
    happens_known (Comes p bytes) ok u sn js q okq = come_cases c p (w.nodes p) (message_of bytes)
        (λ o. JournalSeen o.node.journal → NodeKnown c h seen q (marks_in c h (happens c w (Comes p bytes)).nodes) (happens c w (Comes p bytes)).sent ((moved w p o).nodes q))
        (λ _. moved_to (Comes p bytes) p (w.nodes p) (known p ok) q okq)
        (λ m b em eb t _.
        let g = comes_genuine c h w p (message_of bytes) m b em eb u in
        let f : FromSender c h w b (sender_of b) = subst (λ a. FromSender c h w a (sender_of a)) eb (g m (inl refl) (subst (λ a. right c p (sender_of a) (body_spelling a) m.tags ≡ true) (sym eb) t.tag)) in
        moved_to (Comes p bytes) p (taken_in (w.nodes p) m b).node
        (taken_known w p (marks_in c h w.nodes) (w.nodes p) (known p ok) m b (λ a i. g a (inr i)) f (comes_seen (message_of bytes) m b em eb sn)) q okq)
        (λ m b em eb e js'. moved_to (Comes p bytes) p (firing c p (w.nodes p) (DecideByBundle b)).node (fired_seen w s p ok (known p ok) (DecideByBundle b) e js') q okq)
        (subst (λ (n : Node). JournalSeen n.journal) (at_itself c h w.nodes p (arrival c p (w.nodes p) bytes).node) (js p ok))
    happens_known (Fires p k) ok u sn js q okq = try_cases c p (w.nodes p) k
        (λ o. JournalSeen o.node.journal → NodeKnown c h seen q (marks_in c h (happens c w (Fires p k)).nodes) (happens c w (Fires p k)).sent ((moved w p o).nodes q))
        (λ _. moved_to (Fires p k) p (w.nodes p) (known p ok) q okq)
        (λ _ e js'. moved_to (Fires p k) p (firing c p (w.nodes p) k).node (fired_seen w s p ok (known p ok) k e js') q okq)
        (subst (λ (n : Node). JournalSeen n.journal) (at_itself c h w.nodes p (tried c p (w.nodes p) k).node) (js p ok))
    happens_known (Asks p) ok u sn js q okq = moved_to (Asks p) p (w.nodes p) (known p ok) q okq
    happens_known (Resends p) ok u sn js q okq = moved_to (Resends p) p (w.nodes p) (known p ok) q okq
    happens_known (Restarts p cut) ok u sn js q okq = moved_to (Restarts p cut) p (opened p (cut_record c p (w.nodes p) cut ++ (w.nodes p).journal))
        (cut_cases c p (w.nodes p) cut (λ rs. JournalSeen (rs ++ (w.nodes p).journal) → NodeKnown c h seen p (marks_in c h w.nodes) w.sent (opened p (rs ++ (w.nodes p).journal)))
        (λ _. opened_known p (marks_in c h w.nodes) w.sent (w.nodes p).journal (known p ok).vouched)
        (λ k e _ js'. opened_known p (marks_in c h w.nodes) w.sent (firing c p (w.nodes p) k).node.journal (fired_seen w s p ok (known p ok) k e js').vouched)
        (subst (λ (n : Node). JournalSeen n.journal) (at_itself c h w.nodes p (opened p (cut_record c p (w.nodes p) cut ++ (w.nodes p).journal))) (js p ok))) q okq

  -- ---- a run

  journals_back : (w : World) (es : List Event) → JournalsSeen (run c w es) → JournalsSeen w
  journals_back w es js p ok r i = js p ok r (record_stays (w.nodes p).journal ((run c w es).nodes p).journal (run_longer c w es p) r i)

  pub run_known : (w : World) (es : List Event) → Sound c h w → AllKnown w → Unforged c h w es → ((e : Event) → e ∈ es → (v : Value) → EventHas v e → seen v) → JournalsSeen (run c w es) → AllKnown (run c w es)
  run_known w [] s k u sn js = k
  run_known w (e ∷ es) s k u sn js =
      run_known (happens c w e) es (happens_sound c h w e s u.0 u.1) (happens_known w s k e u.0 u.1 (sn e (inl refl)) (journals_back (happens c w e) es js)) u.2 (λ f i. sn f (inr i)) js

  pub beginning_known : AllKnown (beginning c)
  beginning_known p ok = opened_known p _ _ [] (λ r i. absurd i)
