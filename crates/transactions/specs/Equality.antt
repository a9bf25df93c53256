-- When two operations, transactions or values are equal: case by case, field by field.
use Rattle.std.specs.Prelude.{Bool, true, false, ◌&&◌, List, [], ◌∷◌, ◌==◌}
use Rattle.std.specs.Str.{bytes_eq}
use Rattle.transactions.specs.declared.tx.Op.{Op}
use Rattle.transactions.specs.declared.tx.Op.TheVariants.{Bytes, Close}
use Rattle.transactions.specs.declared.tx.Tx.{Tx}
use Rattle.transactions.specs.declared.tx.Value.{Value}

abbrev pub lists_eq : {X : Type 0} → (X → X → Bool) → List X → List X → Bool
lists_eq same [] [] = true
lists_eq same (x ∷ xs) (y ∷ ys) = same x y && lists_eq same xs ys
lists_eq same [] (y ∷ ys) = false
lists_eq same (x ∷ xs) [] = false

abbrev pub op_eq : Op → Op → Bool
op_eq (Bytes a) (Bytes b) = bytes_eq a b
op_eq Close Close = true
op_eq (Bytes a) Close = false
op_eq Close (Bytes b) = false

abbrev pub tx_eq : Tx → Tx → Bool
tx_eq t u = (t.client == u.client) && (t.session == u.session) && (t.number == u.number) && op_eq t.op u.op && lists_eq bytes_eq t.tags u.tags

abbrev pub value_eq : Value → Value → Bool
value_eq v w = lists_eq tx_eq v.txs w.txs
