-- The first cause in a list of causes that goes on.
use Rattle.std.proofs.Common.{◌≡◌, Bool, true, false, cond, List, [], ◌∷◌, ◌++◌, Option, Some, None, Result, Err, refl, sym, ap, ◌∙◌, subst}
use Rattle.protocol.specs.Refusals.{TxRefusal, Cause, first_cause}
use Rattle.protocol.specs.declared.refusal.SubmitFault.{SubmitFault}
use Rattle.protocol.specs.Answers.{IsCause, submit_cause}
use Rattle.mempool.specs.Answers.{IsVerdict}

abbrev either : Option TxRefusal → Option TxRefusal → Option TxRefusal
either None later = later
either (Some cause) later = Some cause

step : (stands : Bool) (answer : TxRefusal) (rest : Option TxRefusal) (later : Option TxRefusal) → cond stands (Some answer) (either rest later) ≡ either (cond stands (Some answer) rest) later
step true answer rest later = refl
step false answer rest later = refl

joined : (xs ys : List (Cause TxRefusal)) → first_cause (xs ++ ys) ≡ either (first_cause xs) (first_cause ys)
joined [] ys = refl
joined (x ∷ xs) ys = ap (λ (o : Option TxRefusal). cond x.stands (Some x.answer) o) (joined xs ys) ∙ step x.stands x.answer (first_cause xs) (first_cause ys)

told : (first later told : Option TxRefusal) → IsCause first told → IsCause (either first later) told
told first later None h = absurd h
told None later (Some cause) h = absurd (cc)
told (Some other) later (Some cause) h = h

pub told_first : (xs ys : List (Cause TxRefusal)) (e : SubmitFault) → IsVerdict (first_cause xs) (Err e) → IsVerdict (first_cause (xs ++ ys)) (Err e)
told_first xs ys e h = subst (λ (o : Option TxRefusal). IsCause o (submit_cause e)) (sym (joined xs ys)) (told (first_cause xs) (first_cause ys) (submit_cause e) h)

pub told_later : (xs ys : List (Cause TxRefusal)) (r : Result (Unit {0}) SubmitFault) → first_cause xs ≡ None → IsVerdict (first_cause ys) r → IsVerdict (first_cause (xs ++ ys)) r
told_later xs ys r none h = subst (λ (o : Option TxRefusal). IsVerdict o r) (sym (joined xs ys ∙ ap (λ (o : Option TxRefusal). either o (first_cause ys)) none)) h
