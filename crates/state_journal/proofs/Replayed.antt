-- What is read back can be replayed.
use Rattle.std.proofs.Common.{◌≡◌, ℕ, zero, suc, ◌<◌, List, [], ◌∷◌, All, get_or, inl, inr, refl, arith}
use Rattle.transactions.specs.Grammar.{IsValue}
use Rattle.protocol.specs.Messages.{◌∈◌, Act, Proposing, Prevoting, Precommitting, Bundle, Own}
use Rattle.protocol.specs.Records.{act_of}
use Rattle.protocol.specs.declared.records.OwnMessage.{OwnMessage}
use Rattle.round_states.specs.Replaying.{HasProposedValue}
use Rattle.vote_journal.specs.Grammar.{IsDecision, IsRecord}
use Rattle.vote_journal.specs.Kept.{said}

pub all_of_members : {X : Type 0} (P : X → Type 0) (xs : List X) → ((x : X) → x ∈ xs → P x) → All P xs
all_of_members P [] each k d lt = absurd (omega (arith, lt))
all_of_members P (x ∷ xs) each zero d lt = each x (inl refl)
all_of_members P (x ∷ xs) each (suc k) d lt = all_of_members P xs (λ y i. each y (inr i)) k d (omega (arith, lt))

proposed : (me h r : ℕ) (act : Act) → IsRecord me (Own h r act) → HasProposedValue act
proposed me h r (Proposing valid_round value) is = is.0.value
proposed me h r (Prevoting content) is = tt
proposed me h r (Precommitting choice) is = tt

pub own_fit : (me : ℕ) (own : List OwnMessage) → All (λ (m : OwnMessage). IsRecord me (said m)) own → All (λ (m : OwnMessage). HasProposedValue (act_of m.act)) own
own_fit me own all k d lt = let m = get_or own k d in proposed me m.height m.round (act_of m.act) (all k d lt)

pub decisions_fit : (me : ℕ) (decisions : List Bundle) → All (IsDecision me) decisions → All (λ (b : Bundle). IsValue b.value) decisions
decisions_fit me decisions all k d lt = (all k d lt).fits.value
