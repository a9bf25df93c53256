-- The clauses of a core's calls are those that the world asks for.
use Rattle.std.proofs.Common.{◌≡◌, Result, Ok, Err, subst}
use Rattle.std.specs.Prelude.{IfErr, OnOk}

pub at_err : {T E : Type 0} (P : E → Type 0) (result : Result T E) → IfErr result P → (r : E) → result ≡ Err r → P r
at_err P (Ok x) i r e = absurd (cc)
at_err P (Err x) i r e = let same : x ≡ r = cc in subst P same i

pub at_ok : {E : Type 0} (Q : Type 0) (result : Result (Unit {0}) E) → OnOk result Q → result ≡ Ok tt → Q
at_ok Q (Ok x) o e = o
at_ok Q (Err x) o e = absurd (cc)
