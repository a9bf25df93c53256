-- What is handed to a rule that begins a round.
use Rattle.std.proofs.Common.{◌≡◌, ℕ, zero, suc, Bool, true, List, [], ◌∷◌, All, inl, inr, refl, arith}
use Rattle.std.specs.List.{list_all}
use Rattle.std.proofs.lemmas.Bool.{and_from}
use Rattle.transactions.specs.Grammar.{IsTx}
use Rattle.protocol.specs.Values.{Tx}
use Rattle.protocol.specs.Tags.{Setting, tx_is_right, genuine}
use Rattle.protocol.specs.Messages.{◌∈◌}
use Rattle.protocol.specs.State.{Queue}
use Rattle.protocol.specs.Queues.{pick, all_waiting}
use Rattle.protocol.proofs.Waiting.{picked_waits}
use Rattle.node_core.specs.Core.{IsGood}

pub all_of : {X : Type 0} (P : X → Type 0) (xs : List X) → ((x : X) → x ∈ xs → P x) → All P xs
all_of P [] h i d lt = absurd (omega (arith, lt))
all_of P (x ∷ xs) h zero d lt = h x (inl refl)
all_of P (x ∷ xs) h (suc i) d lt = all_of P xs (λ y k. h y (inr k)) i d (omega (arith, lt))

passes_all : {X : Type 0} (test : X → Bool) (xs : List X) → ((x : X) → x ∈ xs → test x ≡ true) → list_all test xs ≡ true
passes_all test [] h = refl
passes_all test (x ∷ xs) h = and_from _ _ (h x (inl refl)) (passes_all test xs (λ y k. h y (inr k)))

pub waiting_spelled : (c : Setting) (p : ℕ) (qs : List Queue) → ((t : Tx) → t ∈ all_waiting qs → IsGood c p t) → All IsTx (all_waiting qs)
waiting_spelled c p qs h = all_of IsTx (all_waiting qs) (λ t k. (h t k).0)

-- the own pick's transactions have right own tags
pub pick_genuine : (c : Setting) (p : ℕ) (qs : List Queue) → ((t : Tx) → t ∈ all_waiting qs → IsGood c p t) → genuine c p (pick qs) ≡ true
unfolding genuine
pick_genuine c p qs h = passes_all (tx_is_right c p) (pick qs).txs (λ t k. (h t (picked_waits qs t k)).1)
