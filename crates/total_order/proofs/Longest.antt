-- Of finitely many lists of which each two begin one another, one has all others as its beginnings.
use Rattle.std.proofs.Common.{◌≡◌, ℕ, zero, suc, ◌<◌, ◌≤◌, ◌⊎◌, inl, inr, Bool, true, false, List, [], ◌++◌, length, refl, sym, ◌∙◌, ap, subst, arith, append_assoc, append-nil, eq-or-lt_of_le}
use Rattle.powers.specs.Power.{FewLie}
use Rattle.protocol.specs.Values.{Item, of, fresh, in_turn}
use Rattle.protocol.specs.Tags.{Setting}
use Rattle.protocol.specs.World.{Event, beginning, run, delivered}
use Rattle.protocol.specs.Premises.{Honesty, Unforged, Distinct, IsCorrect, Begins}
use Rattle.protocol.specs.Laws.{Comparable}
use Rattle.protocol.proofs.Agreement.{agree_law, lasts_law}
use Rattle.protocol.proofs.Fifo.{fifo_law}
use Rattle.protocol.proofs.Sent.{sent_law}
use Rattle.client_order.proofs.Sessions.{sessions_law}
use Rattle.total_order.specs.Laws.{OneListLaw}

begins_on : (a b d : List Item) → Begins a b → Begins b d → Begins a d
begins_on a b d m n = (m.0 ++ n.0, sym (append_assoc a m.0 n.0) ∙ ap (λ l. l ++ n.0) m.1 ∙ n.1)

module _ (c : Setting) (h : Honesty) (events : List Event) (few : FewLie c.powers h.liars) (unforged : Unforged c h (beginning c) events) (distinct : Distinct c h events) where
  -- what a validator has delivered in the end
  abbrev final : ℕ → List Item
  final p = delivered (run c (beginning c) events) p

  same_run : events ++ [] ≡ events
  same_run = append-nil events

  both : (p q : ℕ) → IsCorrect c h p → IsCorrect c h q → Comparable (final p) (final q)
  both p q ok okq = subst (λ (es : List Event). Comparable (final p) (delivered (run c (beginning c) es) q)) same_run
      (agree_law c h events [] few (subst (λ (es : List Event). Unforged c h (beginning c) es) (sym same_run) unforged) (subst (λ (es : List Event). Distinct c h es) (sym same_run) distinct) p q ok okq)

  -- a list that the lists of the first n validators, as far as these are correct, begin
  pub record Longest (n : ℕ) (list : List Item) : Type 0 where
    pub reached : (list ≡ []) ⊎ ((p : ℕ) × IsCorrect c h p × (final p ≡ list))
    pub all : (p : ℕ) → p < n → IsCorrect c h p → Begins (final p) list

  one_more : (n : ℕ) (list : List Item) → ((p : ℕ) → p < n → IsCorrect c h p → Begins (final p) list) → (IsCorrect c h n → Begins (final n) list) → (p : ℕ) → p < suc n → IsCorrect c h p → Begins (final p) list
  one_more n list all new p low ok = let low' : p ≤ n = omega arith in elim (eq-or-lt_of_le low') [
    | inl e ↦ subst (λ (i : ℕ). Begins (final i) list) (sym e) (new (subst (λ (i : ℕ). IsCorrect c h i) e ok))
    | inr l ↦ all p l ok
  ]

  -- the validator of this number beside the list of those before it
  longer : (n : ℕ) (list : List Item) → Longest n list → IsCorrect c h n → Comparable list (final n) → (longest : List Item) × Longest (suc n) longest
  longer n list l ok (inl m) = (
    final n,
    record {
      reached = inr (n, ok, refl);
      all = one_more n (final n) (λ p low okp. begins_on (final p) list (final n) (l.all p low okp) m) (λ _. ([], append-nil (final n)));
    },
  )
  longer n list l ok (inr m) = (list, record { reached = l.reached; all = one_more n list l.all (λ _. m) })

  beside : (n : ℕ) (list : List Item) → (list ≡ []) ⊎ ((p : ℕ) × IsCorrect c h p × (final p ≡ list)) → IsCorrect c h n → Comparable list (final n)
  beside n list (inl e) ok = inl (final n, ap (λ l. l ++ final n) e)
  beside n list (inr r) ok = subst (λ (l : List Item). Comparable l (final n)) r.2 (both r.0 n r.1 ok)

  with_next : (n : ℕ) → n < length c.powers → (list : List Item) → Longest n list → (lies : Bool) → h.liars n ≡ lies → (longest : List Item) × Longest (suc n) longest
  with_next n low list l false e = longer n list l (low, e) (beside n list l.reached (low, e))
  with_next n low list l true e = (list, record { reached = l.reached; all = one_more n list l.all (λ ok. absurd (let k : true ≡ false = sym e ∙ ok.1 in cc)) })

  longest : (n : ℕ) → n ≤ length c.powers → (list : List Item) × Longest n list
  longest zero low = ([], record { reached = inl refl; all = λ p k ok. absurd (omega arith) })
  longest (suc n) low = let l = longest n (omega arith) in with_next n (omega arith) l.0 l.1 (h.liars n) refl

  begins : (list : List Item) → Longest (length c.powers) list → (early late : List Event) → early ++ late ≡ events → (p : ℕ) → IsCorrect c h p → Begins (delivered (run c (beginning c) early) p) list
  begins list l early late e p ok = begins_on (delivered (run c (beginning c) early) p) (final p) list
      (subst (λ (es : List Event). Begins (delivered (run c (beginning c) early) p) (delivered (run c (beginning c) es) p)) e (lasts_law c early late p))
      (l.all p ok.0 ok)

  turns : (client : ℕ) (list : List Item) → (list ≡ []) ⊎ ((p : ℕ) × IsCorrect c h p × (final p ≡ list)) → in_turn fresh (of client list) ≡ true
  turns client list (inl e) = subst (λ (l : List Item). in_turn fresh (of client l) ≡ true) (sym e) refl
  turns client list (inr r) = subst (λ (l : List Item). in_turn fresh (of client l) ≡ true) r.2 (fifo_law c events r.0 client)

  sent : (client : ℕ) → h.clients client ≡ true → (list : List Item) → (list ≡ []) ⊎ ((p : ℕ) × IsCorrect c h p × (final p ≡ list)) → Begins (of client list) ((run c (beginning c) events).sent client)
  sent client honest list (inl e) = subst (λ (l : List Item). Begins (of client l) ((run c (beginning c) events).sent client)) (sym e) ((run c (beginning c) events).sent client, refl)
  sent client honest list (inr r) = subst (λ (l : List Item). Begins (of client l) ((run c (beginning c) events).sent client)) r.2 (sent_law c h events few unforged distinct r.0 r.1 client honest)

pub one_list_law : OneListLaw
one_list_law c h events few unforged distinct =
    let found = longest c h events few unforged distinct (length c.powers) (omega arith) in
    let list = found.0 in
    let reached = found.1.reached in (
      list,
      record {
        begins = begins c h events few unforged distinct list found.1;
        orders = λ client. (sessions_law list client).0 (turns c h events few unforged distinct client list reached);
        sent = λ client honest. sent c h events few unforged distinct client honest list reached;
        reached = reached;
      },
    )
