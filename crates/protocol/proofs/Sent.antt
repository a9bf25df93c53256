-- A correct client's items in a correct validator's delivered list were sent: down to the round where the value was first prevoted.
use Rattle.std.proofs.Common.{◌≡◌, ℕ, zero, suc, ◌<◌, ◌⊎◌, inl, inr, true, List, [], ◌∷◌, refl, sym, ap, subst, arith, Some, None}
use Rattle.powers.specs.Power.{FewLie}
use Rattle.powers.proofs.Quorums.{quorums_share_honest}
use Rattle.protocol.specs.Values.{Id, Value, Item, item, items, id, fresh, of}
use Rattle.protocol.specs.Tags.{Setting}
use Rattle.protocol.specs.Messages.{◌∈◌, Propose, Prevote, Precommit, Act, Proposing, Prevoting, Precommitting, Record, Own, Decided, Bundle}
use Rattle.protocol.specs.Restart.{delivered_of}
use Rattle.protocol.specs.World.{World, run, beginning, delivered}
use Rattle.protocol.specs.Premises.{Honesty, IsCorrect, Occurs}
use Rattle.protocol.specs.Laws.{SentLaw}
use Rattle.protocol.proofs.Membership.{in_append, in_map}
use Rattle.protocol.proofs.Locking.{Mark, mark, Supported, precommit_quorum}
use Rattle.protocol.proofs.Marks.{mark_of, marks_of}
use Rattle.protocol.proofs.Backing.{Marks, history, marks_in, IsBacked}
use Rattle.protocol.proofs.Global.{Sound, run_sound, beginning_sound, lawful}
use Rattle.protocol.proofs.Known.{Sent, FromClients, Fresh, Before, IsVouched, RecordVouched}
use Rattle.protocol.proofs.Sources.{AllKnown, run_known, beginning_known}
use Rattle.protocol.proofs.Fifo.{fifo_law}
use Rattle.protocol.proofs.Numbers.{begins_sent, run_in_turn, in_of}

module _ (c : Setting) (h : Honesty) (seen : Value → Type 0) where
  vouched_mark : (i : ℕ) (marks : Marks c h) (sent : Sent c h seen) (height round : ℕ) (x : Id) (j : List Record) → ((r : Record) → r ∈ j → RecordVouched c h seen i marks sent r) → mark Prevote height round (Some x) ∈ marks_of j → Fresh c h seen sent x ⊎ Before c h seen marks height round x
  vouched_mark i marks sent height round x [] k m = absurd m
  vouched_mark i marks sent height round x (Decided b ∷ j) k m = vouched_mark i marks sent height round x j (λ r q. k r (inr q)) m
  vouched_mark i marks sent height round x (Own height' round' act ∷ j) k (inr m) = vouched_mark i marks sent height round x j (λ r q. k r (inr q)) m
  vouched_mark i marks sent height round x (Own height' round' act ∷ j) k (inl e) = by_act act (k (Own height' round' act) (inl refl)) e
    where
      by_act : (a : Act) → IsVouched c h seen i marks sent height' round' a → mark Prevote height round (Some x) ≡ mark_of height' round' a → Fresh c h seen sent x ⊎ Before c h seen marks height round x
      by_act (Proposing vr v) q e = absurd (let f : Prevote ≡ Propose = ap (λ (m : Mark). m.step) e in cc)
      by_act (Precommitting v) q e = absurd (let f : Prevote ≡ Precommit = ap (λ (m : Mark). m.step) e in cc)
      by_act (Prevoting None) q e = absurd (let f : Some x ≡ None = ap (λ (m : Mark). m.content) e in cc)
      by_act (Prevoting (Some y)) q e =
          let f : Some x ≡ Some y = ap (λ (m : Mark). m.content) e in
          let g : x ≡ y = cc in
          let same_height : height ≡ height' = ap (λ (m : Mark). m.height) e in
          let same_round : round ≡ round' = ap (λ (m : Mark). m.round) e in
          elim q [
            | inl a ↦ inl (subst (Fresh c h seen sent) (sym g) a)
            | inr a ↦ inr (subst (λ n. Before c h seen marks n round x) (sym same_height) (subst (λ n. Before c h seen marks height' n x) (sym same_round) (subst (Before c h seen marks height' round') (sym g) a)))
          ]

  -- down to the round where it was first prevoted
  first_prevoted : (few : FewLie c.powers h.liars) (w : World) → AllKnown c h seen w → (height : ℕ) (x : Id) (bound round : ℕ) → round < bound → Supported (history c h (marks_in c h w.nodes)) Prevote height round x → Fresh c h seen w.sent x
  first_prevoted few w k height x zero round b q = absurd (omega arith)
  first_prevoted few w k height x (suc bound) round b q =
      let s = quorums_share_honest c.powers h.liars q.members q.members few q.enough q.enough in
      elim (vouched_mark s.0 (marks_in c h w.nodes) w.sent height round x (w.nodes s.0).journal (k s.0 (s.1, s.2)).vouched (q.voted s.0 s.1 s.3 s.2)) [
        | inl f ↦ f
        | inr f ↦ (let below = f.below in first_prevoted few w k height x bound f.valid_round (omega arith) f.quorum)
      ]

  decided_backed : (w : World) (j : List Record) (b : Bundle) → IsBacked c h (history c h (marks_in c h w.nodes)) j → Decided b ∈ j → Supported (history c h (marks_in c h w.nodes)) Precommit b.height b.round (id b.value)
  decided_backed w [] b k i = absurd i
  decided_backed w (Own height round act ∷ j) b k (inl e) = absurd (let f : Decided b ≡ Own height round act = e in cc)
  decided_backed w (Own height round act ∷ j) b k (inr i) = decided_backed w j b k.1 i
  decided_backed w (Decided d ∷ j) b k (inl e) = let f : d ≡ b = cc in subst (λ (a : Bundle). Supported (history c h (marks_in c h w.nodes)) Precommit a.height a.round (id a.value)) f k.0
  decided_backed w (Decided d ∷ j) b k (inr i) = decided_backed w j b k.1 i

  pub decided_sent : (few : FewLie c.powers h.liars) (w : World) → Sound c h w → AllKnown c h seen w → ((v u : Value) → seen v → seen u → id v ≡ id u → v ≡ u) → (p : ℕ) → IsCorrect c h p → (b : Bundle) → Decided b ∈ (w.nodes p).journal → seen b.value → FromClients c h seen w.sent b.value.txs
  decided_sent few w s k apart p ok b i sn =
      let q = precommit_quorum (history c h (marks_in c h w.nodes)) few (lawful c h w s) b.height b.round (id b.value) (decided_backed w (w.nodes p).journal b (s.backed p ok) i) in
      let f = first_prevoted few w k b.height (id b.value) (suc b.round) b.round (omega arith) q in
      subst (λ (u : Value). FromClients c h seen w.sent u.txs) (apart f.value b.value f.was_seen sn f.is) f.from

  delivered_sent : (sent : Sent c h seen) (j : List Record) → ((b : Bundle) → Decided b ∈ j → FromClients c h seen sent b.value.txs) → (t : Item) → t ∈ delivered_of j → h.clients t.client ≡ true → t ∈ sent t.client
  delivered_sent sent [] k t i a = absurd i
  delivered_sent sent (Own height round act ∷ j) k t i a = delivered_sent sent j (λ b m. k b (inr m)) t i a
  delivered_sent sent (Decided b ∷ j) k t i a = elim (in_append t (delivered_of j) (items b.value) i) [
    | inl l ↦ delivered_sent sent j (λ d m. k d (inr m)) t l a
    | inr l ↦ (let f = in_map item t b.value.txs l in
        subst (λ (x : Item). x ∈ sent x.client) f.2 (k b (inl refl) f.0 f.1 (subst (λ (x : Item). h.clients x.client ≡ true) (sym f.2) a)))
  ]

pub sent_law : SentLaw
sent_law c h events few unforged distinct p ok client honest =
    let w = run c (beginning c) events in
    let seen : Value → Type 0 = Occurs c h events in
    let s : Sound c h w = run_sound c h (beginning c) events (beginning_sound c h) unforged in
    let k : AllKnown c h seen w = run_known c h seen (beginning c) events (beginning_sound c h) (beginning_known c h seen) unforged (λ e i v m. inl (e, i, m)) (λ q okq r i v m. inr (q, okq, (r, i, m))) in
    begins_sent fresh (of client (delivered w p)) (w.sent client) (fifo_law c events p client) (run_in_turn c (beginning c) events (λ k. refl) client)
    (λ t i. let f = in_of client t (delivered w p) i in
    subst (λ n. t ∈ w.sent n) f.1 (delivered_sent c h seen w.sent (w.nodes p).journal
    (λ b m. decided_sent c h seen few w s k distinct p ok b m (inr (p, ok, (Decided b, m, refl)))) t f.0 (subst (λ n. h.clients n ≡ true) (sym f.1) honest)))
