-- Equality by cases says whether two things are the same, and so does the derived `==`.
use Rattle.std.proofs.Common.{◌≡◌, ℕ, Bool, ◌&&◌, List, [], ◌∷◌, refl, ap}
use Rattle.std.specs.Bool.{Decides}
use Rattle.std.specs.Str.{bytes_eq}
use Rattle.std.specs.Cmp.Lexicographic.{pointwise, pointwise_decides}
use Rattle.std.proofs.lemmas.Bool.Decides.{Decides-eqb, Decides-and, Decides-like, Decides-at, same_from_decides}
use Rattle.std.proofs.lemmas.Slice.Eq.{bytes_eq-Decides}
use Rattle.transactions.specs.declared.tx.Op.{Op}
use Rattle.transactions.specs.declared.tx.Op.TheVariants.{Bytes, Close}
use Rattle.transactions.specs.declared.tx.Tx.{Tx}
use Rattle.transactions.specs.declared.tx.Value.{Value}
use Rattle.transactions.specs.Equality.{lists_eq, op_eq, tx_eq, value_eq}
use Rattle.transactions.specs.contracts.tx.OpPartialEq.TheImpl as op_impl
use Rattle.transactions.specs.contracts.tx.TxPartialEq.TheImpl as tx_impl

-- ---- by cases

lists_eq_is : {X : Type 0} (same : X → X → Bool) (xs ys : List X) → lists_eq same xs ys ≡ pointwise same xs ys
lists_eq_is same [] [] = refl
lists_eq_is same (x ∷ xs) (y ∷ ys) = ap (λ (b : Bool). same x y && b) (lists_eq_is same xs ys)
lists_eq_is same [] (y ∷ ys) = refl
lists_eq_is same (x ∷ xs) [] = refl

pub lists_eq_decides : {X : Type 0} (same : X → X → Bool) → ((x y : X) → Decides (same x y) (x ≡ y)) → (xs ys : List X) → Decides (lists_eq same xs ys) (xs ≡ ys)
lists_eq_decides same each xs ys = Decides-at _ _ (lists_eq_is same xs ys) (pointwise_decides each xs ys)

pub op_eq_decides : (a b : Op) → Decides (op_eq a b) (a ≡ b)
op_eq_decides (Bytes x) (Bytes y) = Decides-like _ (λ e. ap (λ (w : List ℕ). Bytes w) e) (λ e. cc) (bytes_eq-Decides x y)
op_eq_decides (Bytes x) Close = (λ e. absurd cc, λ e. absurd cc)
op_eq_decides Close (Bytes y) = (λ e. absurd cc, λ e. absurd cc)
op_eq_decides Close Close = (λ e. refl, λ e. refl)

tx_same : (a b : Tx) → a.client ≡ b.client → a.session ≡ b.session → a.number ≡ b.number → a.op ≡ b.op → a.tags ≡ b.tags → a ≡ b
tx_same a b ec es en eo et = rw (ec, es, en, eo, et) refl

pub tx_eq_decides : (a b : Tx) → Decides (tx_eq a b) (a ≡ b)
tx_eq_decides a b = Decides-like _ (λ h. tx_same a b h.0.0.0.0 h.0.0.0.1 h.0.0.1 h.0.1 h.1) (λ e. ((((ap (λ (t : Tx). t.client) e, ap (λ (t : Tx). t.session) e), ap (λ (t : Tx). t.number) e), ap (λ (t : Tx). t.op) e), ap (λ (t : Tx). t.tags) e))
    (Decides-and _ _ (Decides-and _ _ (Decides-and _ _ (Decides-and _ _ (Decides-eqb a.client b.client) (Decides-eqb a.session b.session)) (Decides-eqb a.number b.number)) (op_eq_decides a.op b.op)) (lists_eq_decides bytes_eq bytes_eq-Decides a.tags b.tags))

pub value_eq_decides : (a b : Value) → Decides (value_eq a b) (a ≡ b)
value_eq_decides a b = Decides-like _ (λ h. rw h refl) (λ e. ap (λ (v : Value). v.txs) e) (lists_eq_decides tx_eq tx_eq_decides a.txs b.txs)

-- ---- by the derived `==`

derived_op : (a b : Op) → Decides (op_impl.eq-value.it a b) (a ≡ b)
derived_op (Bytes x) (Bytes y) = Decides-like _ (λ e. ap (λ (w : List ℕ). Bytes w) e) (λ e. cc) (pointwise_decides Decides-eqb x y)
derived_op (Bytes x) Close = (λ e. absurd cc, λ e. absurd cc)
derived_op Close (Bytes y) = (λ e. absurd cc, λ e. absurd cc)
derived_op Close Close = (λ e. refl, λ e. refl)

derived_tx : (a b : Tx) → Decides (tx_impl.eq-value.it a b) (a ≡ b)
derived_tx a b = Decides-like _ (λ h. tx_same a b h.0 h.1.0 h.1.1.0 h.1.1.1.0 h.1.1.1.1) (λ e. (ap (λ (t : Tx). t.client) e, (ap (λ (t : Tx). t.session) e, (ap (λ (t : Tx). t.number) e, (ap (λ (t : Tx). t.op) e, ap (λ (t : Tx). t.tags) e)))))
    (Decides-and _ _ (Decides-eqb a.client b.client) (Decides-and _ _ (Decides-eqb a.session b.session) (Decides-and _ _ (Decides-eqb a.number b.number) (Decides-and _ _ (derived_op a.op b.op) (pointwise_decides (pointwise_decides Decides-eqb) a.tags b.tags)))))

derived_value : (a b : Value) → Decides (pointwise (λ x y. tx_impl.eq-value.it x y) a.txs b.txs) (a ≡ b)
derived_value a b = Decides-like _ (λ h. rw h refl) (λ e. ap (λ (v : Value). v.txs) e) (pointwise_decides derived_tx a.txs b.txs)

-- the derived `==` computes equality by cases
pub derived_is_value_eq : (a b : Value) → pointwise (λ x y. tx_impl.eq-value.it x y) a.txs b.txs ≡ value_eq a b
derived_is_value_eq a b = same_from_decides _ _ (derived_value a b) (value_eq_decides a b)
