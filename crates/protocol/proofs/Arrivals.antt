-- What it says of a message that it isn't refused, and the ways in which bytes that come move a node.
use Rattle.std.proofs.Common.{◌≡◌, ℕ, ◌^◌, inl, inr, true, false, cond, not, ◌&&◌, Option, Some, None, List, [], ◌∷◌, Result, Ok, Err, refl, ap, ◌∙◌, subst, eqb-true, option_to_list}
use Rattle.std.specs.Prelude.{is_none, nat_lt}
use Rattle.std.proofs.lemmas.Bool.{and_parts, and_from, cases_Bool, cond_both, not-false, not-true}
use Rattle.transactions.specs.declared.fault.Fault.{Fault}
use Rattle.transactions.specs.Grammar.{tx_fields_spelling}
use Rattle.messages.specs.Grammar.{body_spelling}
use Rattle.messages.specs.Framing.{message_of}
use Rattle.protocol.specs.Tags.{Setting, right, tx_is_right}
use Rattle.protocol.specs.Messages.{◌∈◌, Record, Vote, Bundle, Body, OfTx, OfProposal, OfVote, OfAsk, OfBundle, Message, sender_of}
use Rattle.protocol.specs.State.{Rule, Start, PrevoteFresh, PrevoteAgain, AwaitPrevotes, Lock, PrecommitNil, AwaitPrecommits, Decide, SkipRound, TimedOut, DecideByBundle, State, Node}
use Rattle.protocol.specs.Rules.{saved, holds}
use Rattle.protocol.specs.Restart.{votes_in}
use Rattle.protocol.specs.Queues.{pick}
use Rattle.protocol.specs.Refusals.{context, Refusal, refusal_of, Cause, first_cause, causes, accepts}
use Rattle.protocol.specs.Arrivals.{Outcome, arrival_of, received, taken_in, firing, nothing}
use Rattle.protocol.specs.World.{World, Cut, InArrival, InFiring, Restarts, cut_record, is_bundles, tried}
use Rattle.protocol.specs.Premises.{Honesty, Genuine, MessageUnforged, EventUnforged, held}
use Rattle.protocol.specs.Laws.{RefusedLaw}

abbrev pub NoneStand : {R : Type 0} → List (Cause R) → Type 0
NoneStand [] = Unit {0}
NoneStand (x ∷ xs) = (x.stands ≡ false) × NoneStand xs

pub none_stand : {R : Type 0} (xs : List (Cause R)) → is_none (first_cause xs) ≡ true → NoneStand xs
none_stand [] e = tt
none_stand (x ∷ xs) e = elim (cases_Bool x.stands) [
  | inl t ↦ absurd (let f : is_none (cond x.stands (Some x.answer) (first_cause xs)) ≡ true = e in let g : false ≡ true = rw t at f in cc)
  | inr t ↦ (let f : is_none (cond x.stands (Some x.answer) (first_cause xs)) ≡ true = e in (t, none_stand xs (rw t at f)))
]

-- a message that is taken in: its tag is right, and its vote is of the present height
pub record IsTaken (c : Setting) (p : ℕ) (s : State) (m : Message) (b : Body) : Type 0 where
  pub tag : right c p (sender_of b) (body_spelling b) m.tags ≡ true
  pub height : (v : Vote) → v ∈ votes_in b → v.height ≡ s.height

module _ (c : Setting) (p : ℕ) (n : Node) where
  pub come_cases : (r : Result Message Fault) (P : Outcome → Type 0) → P (nothing n)
      → ((m : Message) (b : Body) → r ≡ Ok m → m.body ≡ b → IsTaken c p n.state m b → P (taken_in n m b))
      → ((m : Message) (b : Bundle) → r ≡ Ok m → m.body ≡ OfBundle b → holds (context c p) n.state (DecideByBundle b) ≡ true → P (firing c p n (DecideByBundle b)))
      → P (arrival_of c p n r)
  unfolding tx_is_right tx_fields_spelling
  come_cases (Err fault) P none taken bundle = none
  come_cases (Ok m) P none taken bundle = cond_both (accepts c p n m) (received c p n m m.body) (nothing n) P (by_body m.body refl) (λ _. none)
    where
      by_body : (b : Body) → m.body ≡ b → is_none (first_cause (causes c p n m b)) ≡ true → P (received c p n m b)
      by_body (OfTx t) eb e =
          let k = none_stand (causes c p n m (OfTx t)) e in
          taken m (OfTx t) refl eb (record { tag = (and_parts _ _ (not-false _ k.1.1.0)).1; height = λ v i. absurd i })
      by_body (OfProposal q) eb e =
          let k = none_stand (causes c p n m (OfProposal q)) e in
          taken m (OfProposal q) refl eb (record { tag = not-false _ k.1.0; height = λ v i. absurd i })
      by_body (OfVote v) eb e =
          let k = none_stand (causes c p n m (OfVote v)) e in
          taken m (OfVote v) refl eb (record { tag = not-false _ k.1.0; height = λ u i. elim i [ inl same ↦ ap (λ (x : Vote). x.height) same ∙ eqb-true _ _ (not-false _ k.1.1.0) | inr none ↦ absurd none ] })
      by_body (OfAsk a) eb e =
          let k = none_stand (causes c p n m (OfAsk a)) e in
          taken m (OfAsk a) refl eb (record { tag = not-false _ k.1.0; height = λ v i. absurd i })
      by_body (OfBundle b) eb e =
          let k = none_stand (causes c p n m (OfBundle b)) e in
          let h = and_parts _ _ (not-false _ k.1.1.0) in
          let room : nat_lt n.state.height (2 ^ 48) ≡ true = subst (λ x. nat_lt x (2 ^ 48) ≡ true) (eqb-true _ _ h.0) h.1 in
          bundle m b refl eb (and_from _ _ (and_from _ _ (and_from _ _ (and_from _ _ room h.0) (not-false _ k.1.1.1.0)) (not-false _ k.1.1.1.1.1.0)) (not-false _ k.1.1.1.1.1.1.0))

pub try_cases : (c : Setting) (p : ℕ) (n : Node) (k : Rule) (P : Outcome → Type 0) → P (nothing n) → (is_bundles k ≡ false → holds (context c p) n.state k ≡ true → P (firing c p n k)) → P (tried c p n k)
try_cases c p n k P none fire = cond_both (not (is_bundles k) && holds (context c p) n.state k) (firing c p n k) (nothing n) P (λ e. let a = and_parts _ _ e in fire (not-true _ a.0) a.1) (λ _. none)

-- ---- what is unforged

-- what comes is genuine, also where it is named by its body
pub comes_genuine : (c : Setting) (h : Honesty) (w : World) (p : ℕ) (r : Result Message Fault) (m : Message) (b : Body) → r ≡ Ok m → m.body ≡ b → MessageUnforged c h w p r → Genuine c h w p (m ∷ held b)
comes_genuine c h w p (Ok n) m b e eb u = let f : n ≡ m = cc in subst (λ a. Genuine c h w p (m ∷ held a)) eb (subst (λ (a : Message). Genuine c h w p (a ∷ held a.body)) f u)
comes_genuine c h w p (Err fault) m b e eb u = absurd (cc)

-- what a bundle's rule rests on is genuine
abbrev pub RuleUnforged : Setting → Honesty → World → ℕ → Rule → Type 0
RuleUnforged c h w p (DecideByBundle b) = Genuine c h w p (held (OfBundle b))
RuleUnforged c h w p _ = Unit {0}

pub others_unforged : (c : Setting) (h : Honesty) (w : World) (p : ℕ) (k : Rule) → is_bundles k ≡ false → RuleUnforged c h w p k
others_unforged c h w p (DecideByBundle b) e = absurd (let f : true ≡ false = e in cc)
others_unforged c h w p Start e = tt
others_unforged c h w p (PrevoteFresh v) e = tt
others_unforged c h w p (PrevoteAgain r v) e = tt
others_unforged c h w p AwaitPrevotes e = tt
others_unforged c h w p (Lock v) e = tt
others_unforged c h w p PrecommitNil e = tt
others_unforged c h w p AwaitPrecommits e = tt
others_unforged c h w p (Decide r v) e = tt
others_unforged c h w p (SkipRound r) e = tt
others_unforged c h w p (TimedOut t) e = tt

-- the record of a cut, if any, is that of a rule that holds
pub cut_cases : (c : Setting) (p : ℕ) (n : Node) (cut : Option Cut) (P : List Record → Type 0) → P []
    → ((k : Rule) → holds (context c p) n.state k ≡ true → ((h : Honesty) (w : World) → EventUnforged c h w (Restarts p cut) → RuleUnforged c h w p k) → P (option_to_list (saved (context c p) (pick n.queues) n.state k)))
    → P (cut_record c p n cut)
cut_cases c p n None P none fire = none
cut_cases c p n (Some (InArrival bytes)) P none fire = come_cases c p n (message_of bytes) (λ o. P (option_to_list o.wrote)) none (λ m b _ _ _. none)
    (λ m b em eb e. fire (DecideByBundle b) e (λ h w u a i. comes_genuine c h w p (message_of bytes) m (OfBundle b) em eb u a (inr i)))
cut_cases c p n (Some (InFiring k)) P none fire = try_cases c p n k (λ o. P (option_to_list o.wrote)) none (λ nb e. fire k e (λ h w u. others_unforged c h w p k nb))

-- ---- what is refused

refused : (c : Setting) (p : ℕ) (n : Node) (read : Result Message Fault) (r : Refusal) → refusal_of c p n read ≡ Some r → arrival_of c p n read ≡ nothing n
refused c p n (Err fault) r e = refl
refused c p n (Ok m) r e = rw e refl

pub refused_law : RefusedLaw
refused_law c p n bytes r e = refused c p n (message_of bytes) r e
