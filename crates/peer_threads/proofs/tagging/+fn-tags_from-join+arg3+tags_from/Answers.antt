use Rattle.std.proofs.Common.{◌≡◌, ◌+◌, ◌<◌, ℕ, List, IfOk, drop, ◌∷◌, length, suc, sym, ap, subst, ◌∙◌, arith}
use Rattle.std.proofs.lemmas.List.{length-map}
use Rattle.std.proofs.Math.Seq.{drop-cons}
use Rattle.authenticators.specs.Tags.{hmac}
use Rattle.authenticators.specs.Ring.{tags_of}
use Rattle.peer_threads.proofs.tagging.+fn-tags_from-join+arg3+tags_from.Goals as goal

pub returns : goal.returns
returns g t c =
    let from = c.args.from in
    let all : List (List ℕ) = tags_of c.args.ring.now c.args.body.now in
    let first = c.join-rest.result.0 in
    let within : from < length all = omega (arith, c.if-from-count.false, c.count.ensures.whole.all, c.count.ensures.count, length-map c.args.ring.now.to_validators (λ key. hmac key c.args.body.now)) in
    let next : from + 1 ≡ suc from = omega arith in
    let front : drop from all ≡ first ∷ drop (from + 1) all = drop-cons all from first within ∙ ap (λ x. x ∷ drop (suc from) all) (c.join-rest.ensures.first first) ∙ ap (λ j. first ∷ drop j all) (sym next) in
    subst (λ l. IfOk c.in_front.result (λ tags. tags.items ≡ l)) (sym front) (c.in_front.ensures (drop (from + 1) all) c.join-rest.ensures.second)
