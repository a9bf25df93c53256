-- Equality field by field says whether two votes or two proposals are the same.
use Rattle.std.proofs.Common.{◌≡◌, ℕ, List, Option, Some, None, refl, ap}
use Rattle.std.specs.Bool.{Decides}
use Rattle.std.proofs.lemmas.Bool.Decides.{Decides-eqb, Decides-and, Decides-like}
use Rattle.std.proofs.lemmas.Slice.Eq.{bytes_eq-Decides}
use Rattle.transactions.proofs.Equality.{value_eq_decides}
use Rattle.messages.specs.declared.body.Step.{Step}
use Rattle.messages.specs.declared.body.Step.TheVariants.{Prevote, Precommit}
use Rattle.messages.specs.declared.body.Proposal.{Proposal}
use Rattle.messages.specs.declared.body.Vote.{Vote}
use Rattle.messages.specs.Equality.{content_eq, round_eq, step_eq, vote_eq, proposal_eq}

pub content_eq_decides : (a b : Option (List ℕ)) → Decides (content_eq a b) (a ≡ b)
content_eq_decides None None = (λ e. refl, λ e. refl)
content_eq_decides (Some x) (Some y) = Decides-like _ (λ e. ap (λ (w : List ℕ). Some w) e) (λ e. cc) (bytes_eq-Decides x y)
content_eq_decides None (Some y) = (λ e. absurd cc, λ e. absurd cc)
content_eq_decides (Some x) None = (λ e. absurd cc, λ e. absurd cc)

pub round_eq_decides : (a b : Option ℕ) → Decides (round_eq a b) (a ≡ b)
round_eq_decides None None = (λ e. refl, λ e. refl)
round_eq_decides (Some r) (Some s) = Decides-like _ (λ e. ap (λ (n : ℕ). Some n) e) (λ e. cc) (Decides-eqb r s)
round_eq_decides None (Some s) = (λ e. absurd cc, λ e. absurd cc)
round_eq_decides (Some r) None = (λ e. absurd cc, λ e. absurd cc)

pub step_eq_decides : (a b : Step) → Decides (step_eq a b) (a ≡ b)
step_eq_decides Prevote Prevote = (λ e. refl, λ e. refl)
step_eq_decides Precommit Precommit = (λ e. refl, λ e. refl)
step_eq_decides Prevote Precommit = (λ e. absurd cc, λ e. absurd cc)
step_eq_decides Precommit Prevote = (λ e. absurd cc, λ e. absurd cc)

vote_same : (a b : Vote) → a.step ≡ b.step → a.height ≡ b.height → a.round ≡ b.round → a.sender ≡ b.sender → a.content ≡ b.content → a ≡ b
vote_same a b et eh er es ec = rw (et, eh, er, es, ec) refl

pub vote_eq_decides : (a b : Vote) → Decides (vote_eq a b) (a ≡ b)
vote_eq_decides a b =
    Decides-like _ (λ h. vote_same a b h.0.0.0.0 h.0.0.0.1 h.0.0.1 h.0.1 h.1)
    (λ e. ((((ap (λ (v : Vote). v.step) e, ap (λ (v : Vote). v.height) e), ap (λ (v : Vote). v.round) e), ap (λ (v : Vote). v.sender) e), ap (λ (v : Vote). v.content) e))
    (Decides-and _ _ (Decides-and _ _ (Decides-and _ _ (Decides-and _ _ (step_eq_decides a.step b.step) (Decides-eqb a.height b.height)) (Decides-eqb a.round b.round)) (Decides-eqb a.sender b.sender)) (content_eq_decides a.content b.content))

proposal_same : (a b : Proposal) → a.height ≡ b.height → a.round ≡ b.round → a.sender ≡ b.sender → a.valid_round ≡ b.valid_round → a.value ≡ b.value → a ≡ b
proposal_same a b eh er es et ev = rw (eh, er, es, et, ev) refl

pub proposal_eq_decides : (a b : Proposal) → Decides (proposal_eq a b) (a ≡ b)
proposal_eq_decides a b =
    Decides-like _ (λ h. proposal_same a b h.0.0.0.0 h.0.0.0.1 h.0.0.1 h.0.1 h.1)
    (λ e. ((((ap (λ (p : Proposal). p.height) e, ap (λ (p : Proposal). p.round) e), ap (λ (p : Proposal). p.sender) e), ap (λ (p : Proposal). p.valid_round) e), ap (λ (p : Proposal). p.value) e))
    (Decides-and _ _ (Decides-and _ _ (Decides-and _ _ (Decides-and _ _ (Decides-eqb a.height b.height) (Decides-eqb a.round b.round)) (Decides-eqb a.sender b.sender)) (round_eq_decides a.valid_round b.valid_round)) (value_eq_decides a.value b.value))
