-- Standings that grow by fresh ones, and are written one after the other.
use Rattle.std.proofs.Common.{◌≡◌, ℕ, zero, suc, ◌+◌, ◌<◌, ◌≤◌, inl, inr, List, [], ◌∷◌, ◌++◌, length, get_or, set, take, drop, replicate, refl, sym, ◌∙◌}
use Rattle.std.specs.Prelude.{◌==◌}
use Rattle.std.proofs.lemmas.Bool.{cases_Bool, eqb-true, eqb-false}
use Rattle.std.proofs.lemmas.List.{take_all, get_or-set_same, get_or-set_other}
use Rattle.std.proofs.Math.Seq.{take-append_seam}
use Rattle.protocol.specs.declared.standing.Standing.{Standing}
use Rattle.protocol.specs.Values.{Tx, fresh, item, left_by}
use Rattle.proposal_validity.specs.Standing.{Standings, standing}
use Rattle.proposal_validity.specs.Course.{after, items_of}
use Rattle.proposal_validity.proofs.Follows.{after_more}

more_fresh : (f : Standings) (k i : ℕ) → get_or (f ++ replicate k fresh) i fresh ≡ get_or f i fresh
more_fresh [] zero i = refl
more_fresh [] (suc k) zero = refl
more_fresh [] (suc k) (suc i) = more_fresh [] k i
more_fresh (s ∷ f) k zero = refl
more_fresh (s ∷ f) k (suc i) = more_fresh f k i

pub grown : (f : Standings) (n k client : ℕ) → length f ≤ n → standing (take n f ++ replicate k fresh) client ≡ standing f client
unfolding standing
grown f n k client h = rw (take_all n f h) (more_fresh f k client)

written : (f : Standings) (at client : ℕ) (s : Standing) → at ≡ client → at < length f → standing (set f at s) client ≡ s
unfolding standing
written f at client s e h = rw (← e) (get_or-set_same f at s fresh h)

beside : (f : Standings) (at client : ℕ) (s : Standing) → (client ≡ at → ⊥) → standing (set f at s) client ≡ standing f client
unfolding standing
beside f at client s n = get_or-set_other f at client s fresh n

pub passed : (txs : List Tx) (i : ℕ) (t : Tx) → i < length txs → t ≡ get_or txs i t → (f g : Standings) (s : Standing) → s ≡ left_by (item t) → t.client < length f
    → ((client : ℕ) → standing f client ≡ after client (items_of (take i txs)) (standing g client))
    → (client : ℕ) → standing (set f t.client s) client ≡ after client (items_of (take (i + 1) txs)) (standing g client)
passed txs i t lt is f g s e room same client = rw (after_more txs i t lt is client (standing g client)) (elim (cases_Bool (t.client == client)) [
  | inl y ↦ rw y (written f t.client client s (eqb-true _ _ y) room ∙ e)
  | inr n ↦ rw n (beside f t.client client s (λ h. eqb-false _ _ n (sym h)) ∙ same client)
])

-- a vector whose elements were written as a slice
pub written_back : (f g : Standings) (n : ℕ) → n ≡ length g → take n (g ++ drop (length g) f) ≡ g
written_back f g n e = rw e (take-append_seam g (drop (length g) f))
