-- Of two correct validators' delivered lists one begins the other.
use Rattle.std.proofs.Common.{◌≡◌, ℕ, suc, ◌≤◌, inl, inr, List, [], ◌∷◌, ◌++◌, refl, sym, ◌∙◌, ap, ap₂, subst, arith, append_assoc, append-nil, eq-or-lt_of_le, Some}
use Rattle.std.proofs.lemmas.Bool.{cases_lt}
use Rattle.powers.specs.Power.{FewLie}
use Rattle.protocol.specs.Values.{Id, Value, id, Item, items}
use Rattle.protocol.specs.Tags.{Setting}
use Rattle.protocol.specs.Messages.{◌∈◌, Step, Prevote, Precommit, Vote, prevote, precommit, Bundle, Record, Own, Decided}
use Rattle.protocol.specs.Restart.{height_of, delivered_of}
use Rattle.protocol.specs.World.{World, run, beginning, delivered}
use Rattle.protocol.specs.Premises.{Honesty, Occurs, Begins}
use Rattle.protocol.specs.Laws.{Grows, Comparable, AgreeLaw, LastsLaw, QuorumSaved, NoLaterQuorumLaw}
use Rattle.protocol.proofs.Locking.{mark, Supported, Lawful, no_other, one_value}
use Rattle.protocol.proofs.Marks.{vote_mark, marks_of}
use Rattle.protocol.proofs.Covered.{saved_mark}
use Rattle.protocol.proofs.Growth.{Longer, run_longer, run_append}
use Rattle.protocol.proofs.Backing.{history, marks_in, IsBacked}
use Rattle.protocol.proofs.Global.{Sound, lawful, run_sound, beginning_sound}

-- ---- beginnings

begins_trans : (a b d : List Item) → Begins a b → Begins b d → Begins a d
begins_trans a b d m n = (m.0 ++ n.0, sym (append_assoc a m.0 n.0) ∙ ap (λ l. l ++ n.0) m.1 ∙ n.1)

begins_itself : (a : List Item) → Begins a a
begins_itself a = ([], append-nil a)

begins_longer : (a b more : List Item) → Begins a b → Begins a (b ++ more)
begins_longer a b more m = (m.0 ++ more, sym (append_assoc a m.0 more) ∙ ap (λ l. l ++ more) m.1)

begins_both : (a b r s : List Item) → a ++ r ≡ b ++ s → Comparable a b
begins_both [] b r s e = inl (b, refl)
begins_both (x ∷ a) [] r s e = inr (x ∷ a, refl)
begins_both (x ∷ a) (y ∷ b) r s e =
    let h : x ≡ y = cc in
    let t : a ++ r ≡ b ++ s = cc in
    elim (begins_both a b r s t) [ inl k ↦ inl (k.0, ap₂ (λ z l. z ∷ l) h k.1) | inr k ↦ inr (k.0, ap₂ (λ z l. z ∷ l) (sym h) k.1) ]

delivered_more : (rs j : List Record) → Begins (delivered_of j) (delivered_of (rs ++ j))
delivered_more [] j = ([], append-nil _)
delivered_more (Own h r act ∷ rs) j = delivered_more rs j
delivered_more (Decided b ∷ rs) j = begins_longer (delivered_of j) (delivered_of (rs ++ j)) (items b.value) (delivered_more rs j)

-- ---- two journals

module _ (c : Setting) (h : Honesty) where
  -- a journal of a sound world, whose decided values are told apart by their ids
  pub record Good (w : World) (j : List Record) : Type 0 where
    pub grows : Grows j
    pub backed : IsBacked c h (history c h (marks_in c h w.nodes)) j

  module _ (few : FewLie c.powers h.liars) (w : World) (law : Lawful (history c h (marks_in c h w.nodes))) (occurs : Value → Type 0) (apart : (v u : Value) → occurs v → occurs u → id v ≡ id u → v ≡ u) where
    abbrev AllOccur : List Record → Type 0
    AllOccur j = (b : Bundle) → Decided b ∈ j → occurs b.value

    abbrev IsSame : List Record → List Record → Type 0
    IsSame j k = height_of j ≡ height_of k → delivered_of j ≡ delivered_of k

    none_delivered : (k : List Record) → height_of k ≡ 0 → delivered_of k ≡ []
    none_delivered [] e = refl
    none_delivered (Own height round act ∷ k) e = none_delivered k e
    none_delivered (Decided b ∷ k) e = absurd (omega arith)

    -- the newest decision of one journal, and that of the other
    newest_same : (b : Bundle) (rest : List Record) → b.height ≡ height_of rest → Supported (history c h (marks_in c h w.nodes)) Precommit b.height b.round (id b.value) → occurs b.value
        → ((k : List Record) → Good w k → AllOccur k → IsSame rest k) → (k : List Record) → Good w k → AllOccur k → suc (height_of rest) ≡ height_of k → delivered_of rest ++ items b.value ≡ delivered_of k
    newest_same b rest bh q o ih [] g oc e = absurd (omega arith)
    newest_same b rest bh q o ih (Own height round act ∷ k) g oc e = newest_same b rest bh q o ih k (record { grows = g.grows.2; backed = g.backed.1 }) (λ d m. oc d (inr m)) e
    newest_same b rest bh q o ih (Decided d ∷ k) g oc e =
        let eh : height_of rest ≡ height_of k = omega arith in
        let same_height : d.height ≡ b.height = g.grows.0 ∙ sym eh ∙ sym bh in
        let q' : Supported (history c h (marks_in c h w.nodes)) Precommit b.height d.round (id d.value) = subst (λ n. Supported (history c h (marks_in c h w.nodes)) Precommit n d.round (id d.value)) same_height g.backed.0 in
        let same : b.value ≡ d.value = apart b.value d.value o (oc d (inl refl)) (one_value (history c h (marks_in c h w.nodes)) few law b.height b.round d.round (id b.value) (id d.value) q q') in
        ap₂ (λ l v. l ++ items v) (ih k (record { grows = g.grows.1; backed = g.backed.1 }) (λ f m. oc f (inr m)) eh) same

    pub same_delivered : (j : List Record) → Good w j → AllOccur j → (k : List Record) → Good w k → AllOccur k → IsSame j k
    same_delivered [] g oc k gk ok e = sym (none_delivered k (sym e))
    same_delivered (Own height round act ∷ rest) g oc k gk ok e = same_delivered rest (record { grows = g.grows.2; backed = g.backed.1 }) (λ d m. oc d (inr m)) k gk ok e
    same_delivered (Decided b ∷ rest) g oc k gk ok e =
        newest_same b rest g.grows.0 g.backed.0 (oc b (inl refl)) (same_delivered rest (record { grows = g.grows.1; backed = g.backed.1 }) (λ d m. oc d (inr m))) k gk ok e

    -- the journal of fewer decisions begins the other
    pub fewer_begins : (j : List Record) → Good w j → AllOccur j → (k : List Record) → Good w k → AllOccur k → height_of j ≤ height_of k → Begins (delivered_of j) (delivered_of k)
    fewer_begins j g oc [] gk ok e = let n : height_of j ≡ 0 = omega arith in ([], append-nil _ ∙ none_delivered j n)
    fewer_begins j g oc (Own height round act ∷ k) gk ok e = fewer_begins j g oc k (record { grows = gk.grows.2; backed = gk.backed.1 }) (λ d m. ok d (inr m)) e
    fewer_begins j g oc (Decided b ∷ k) gk ok e = elim (eq-or-lt_of_le e) [
      | inl n ↦ ([], append-nil _ ∙ same_delivered j g oc (Decided b ∷ k) gk ok n)
      | inr n ↦ (let less : height_of j ≤ height_of k = omega arith in
          begins_longer (delivered_of j) (delivered_of k) (items b.value) (fewer_begins j g oc k (record { grows = gk.grows.1; backed = gk.backed.1 }) (λ d f. ok d (inr f)) less))
    ]

    pub comparable : (j : List Record) → Good w j → AllOccur j → (k : List Record) → Good w k → AllOccur k → Comparable (delivered_of j) (delivered_of k)
    comparable j g oc k gk ok = elim (cases_lt (height_of j) (height_of k)) [ inl n ↦ inl (fewer_begins j g oc k gk ok (omega arith)) | inr n ↦ inr (fewer_begins k gk ok j g oc n) ]

-- ---- journals only grow

longer_begins : (j k : List Record) → Longer j k → Begins (delivered_of j) (delivered_of k)
longer_begins j k l = subst (λ i. Begins (delivered_of j) (delivered_of i)) (sym l.is) (delivered_more l.more j)

pub lasts_law : LastsLaw
lasts_law c early late p = subst (λ (v : World). Begins (delivered (run c (beginning c) early) p) (delivered v p)) (sym (run_append c (beginning c) early late)) (longer_begins _ _ (run_longer c (run c (beginning c) early) late p))

pub agree_law : AgreeLaw
agree_law c h early late few unforged distinct p q okp okq =
    let w = run c (beginning c) (early ++ late) in
    let s : Sound c h w = run_sound c h (beginning c) (early ++ late) (beginning_sound c h) unforged in
    let k : Comparable (delivered w p) (delivered w q) = comparable c h few w (lawful c h w s) (Occurs c h (early ++ late)) distinct
    (w.nodes p).journal (record { grows = (s.tied p).grows; backed = s.backed p okp }) (λ b m. inr (p, okp, (Decided b, m, refl)))
    (w.nodes q).journal (record { grows = (s.tied q).grows; backed = s.backed q okq }) (λ b m. inr (q, okq, (Decided b, m, refl))) in
    let first : Begins (delivered (run c (beginning c) early) p) (delivered w p) = lasts_law c early late p in
    elim k [
      | inl m ↦ inl (begins_trans (delivered (run c (beginning c) early) p) (delivered w p) (delivered w q) first m)
      | inr m ↦ begins_both (delivered (run c (beginning c) early) p) (delivered w q) first.0 m.0 (first.1 ∙ sym m.1)
    ]

-- ---- no later quorum for another id

saved_quorum : (c : Setting) (h : Honesty) (w : World) (vote : ℕ → Vote) (step : Step) (height round : ℕ) (x : Id) → ((i : ℕ) → vote_mark (vote i) ≡ mark step height round (Some x))
    → QuorumSaved c h w vote → Supported (history c h (marks_in c h w.nodes)) step height round x
saved_quorum c h w vote step height round x same q = record {
  members = q.members;
  enough = q.enough;
  voted = λ i a b d. let f = q.saved i (a, d) b in subst (λ m. m ∈ marks_of (w.nodes i).journal) (same i) (saved_mark i f.0 (w.nodes i).journal (vote i) f.1 f.2);
}

pub no_later_quorum_law : NoLaterQuorumLaw
no_later_quorum_law c h events few unforged height round later x y above precommits prevotes =
    let w = run c (beginning c) events in
    let law = lawful c h w (run_sound c h (beginning c) events (beginning_sound c h) unforged) in
    no_other (history c h (marks_in c h w.nodes)) few law height round x (saved_quorum c h w (λ i. precommit height round i (Some x)) Precommit height round x (λ i. refl) precommits) (suc later) later y (omega arith) above
    (saved_quorum c h w (λ i. prevote height later i (Some y)) Prevote height later y (λ i. refl) prevotes)
