-- What a validator released, and what it keeps of its own, is in its journal, once for each round and step, and each of its precommits for a value followed a quorum.
use Rattle.std.proofs.Common.{◌≡◌, ℕ, inl, inr, Bool, true, false, cond, List, [], ◌∷◌, ◌++◌, refl, sym, ◌∙◌, ap, subst, arith, Option, Some, None, eq-eqb, option_to_list}
use Rattle.std.specs.Prelude.{◌==◌}
use Rattle.std.proofs.lemmas.Bool.{cond_both}
use Rattle.messages.specs.Framing.{message_of}
use Rattle.protocol.specs.Values.{Id, Value, id}
use Rattle.protocol.specs.Tags.{Setting}
use Rattle.protocol.specs.Messages.{◌∈◌, Prevote, step_number, step_of, step_of_vote, prevote, Ask, Bundle, Vote, Body, OfTx, OfProposal, OfVote, OfAsk, OfBundle, Act, Proposing, Prevoting, Precommitting, Record, Own, Decided, body_of, own_body}
use Rattle.protocol.specs.State.{Node, Rule, DecideByBundle}
use Rattle.protocol.specs.Rules.{saved, released_by}
use Rattle.protocol.specs.Restart.{opened, own_since, votes_in}
use Rattle.protocol.specs.Queues.{pick}
use Rattle.protocol.specs.Refusals.{context}
use Rattle.protocol.specs.Arrivals.{taken_in, firing, bundles_of, replies}
use Rattle.protocol.specs.World.{World, Event, Sends, Comes, Fires, Asks, Resends, Restarts, happens, run, beginning, with_node, cut_record, moved}
use Rattle.protocol.specs.Premises.{Honesty, IsCorrect, IsSaved}
use Rattle.protocol.specs.Laws.{Grows, QuorumSaved, VotesStand, OneVoteLaw}
use Rattle.protocol.proofs.Membership.{in_append}
use Rattle.protocol.proofs.Arrivals.{come_cases, try_cases}
use Rattle.protocol.proofs.Locking.{History, Mark, Reason, Supported, two_places}
use Rattle.protocol.proofs.Marks.{not_proposing, is_prevote, is_precommit, same_vote, vote_mark, mark_of, marks_of, marks_grow, content_of}
use Rattle.protocol.proofs.Growth.{Longer, same_long, longer_at, fired_longer, record_stays}
use Rattle.protocol.proofs.Local.{always_tied}
use Rattle.protocol.proofs.Backing.{history, marks_in, IsBacked}
use Rattle.protocol.proofs.Covered.{saved_mark}
use Rattle.protocol.proofs.Certificates.{own_sender}
use Rattle.protocol.proofs.Global.{Sound, run_sound, beginning_sound}

-- ---- the vote of a mark

newest_saved : (p h r : ℕ) (act : Act) (v : Vote) → v.sender ≡ p → vote_mark v ≡ mark_of h r act → own_body p (Own h r act) ≡ Some (OfVote v)
newest_saved p h r (Proposing vr u) v e k = absurd (not_proposing v.step (ap (λ (m : Mark). m.step) k))
newest_saved p h r (Prevoting x) v e k = ap (λ (u : Vote). Some (OfVote u)) (sym (same_vote v _ (is_prevote v.step (ap (λ (m : Mark). m.step) k)) (ap (λ (m : Mark). m.height) k) (ap (λ (m : Mark). m.round) k) e (ap (λ (m : Mark). m.content) k)))
newest_saved p h r (Precommitting x) v e k = ap (λ (u : Vote). Some (OfVote u)) (sym (same_vote v _ (is_precommit v.step (ap (λ (m : Mark). m.step) k)) (ap (λ (m : Mark). m.height) k) (ap (λ (m : Mark). m.round) k) e (ap (λ (m : Mark). m.content) k)))

mark_saved : (p : ℕ) (j : List Record) (v : Vote) → v.sender ≡ p → vote_mark v ∈ marks_of j → IsSaved p (OfVote v) j
mark_saved p [] v e k = absurd k
mark_saved p (Decided b ∷ j) v e k = let f = mark_saved p j v e k in (f.0, inr f.1, f.2)
mark_saved p (Own h r act ∷ j) v e (inl k) = (Own h r act, inl refl, newest_saved p h r act v e k)
mark_saved p (Own h r act ∷ j) v e (inr k) = let f = mark_saved p j v e k in (f.0, inr f.1, f.2)

-- ---- one vote for each round and step

-- marks of one place of a height are one
same_mark : (j : List Record) → Grows j → (a b : Mark) → a ∈ marks_of j → b ∈ marks_of j → a.step ≡ b.step → a.height ≡ b.height → a.round ≡ b.round → a ≡ b
same_mark j g a b i k step height round = elim (two_places (marks_of j) a b i k) [
  | inl e ↦ e
  | inr (inl t) ↦ absurd (let l = marks_grow j g a t.0 t.1 b t.2 (sym height) in let e = ap step_number step in omega arith)
  | inr (inr t) ↦ absurd (let l = marks_grow j g b t.0 t.1 a t.2 height in let e = ap step_number step in omega arith)
]

same_saved : (p : ℕ) (j : List Record) → Grows j → (v u : Vote) → v.sender ≡ p → u.sender ≡ p → IsSaved p (OfVote v) j → IsSaved p (OfVote u) j → v.height ≡ u.height → v.round ≡ u.round → v.step ≡ u.step → v ≡ u
same_saved p j g v u ev eu a b height round step =
    let one : vote_mark v ≡ vote_mark u = same_mark j g (vote_mark v) (vote_mark u) (saved_mark p a.0 j v a.1 a.2) (saved_mark p b.0 j u b.1 b.2) (ap step_of_vote step) height round in
    same_vote v u step height round (ev ∙ sym eu) (ap (λ (m : Mark). m.content) one)

-- ---- what is released is in journals

abbrev IsHeld : ℕ → List Record → Vote → Type 0
IsHeld p j v = (v.sender ≡ p) × IsSaved p (OfVote v) j

abbrev AllHeld : ℕ → List Record → List Body → Type 0
AllHeld p j bodies = (v : Vote) → OfVote v ∈ bodies → IsHeld p j v

older_held : (p : ℕ) (r : Record) (j : List Record) (v : Vote) → IsHeld p j v → IsHeld p (r ∷ j) v
older_held p r j v k = (k.0, (k.1.0, inr k.1.1, k.1.2))

own_held : (p h r : ℕ) (act : Act) (j : List Record) (v : Vote) → OfVote v ≡ body_of p h r act → IsHeld p (Own h r act ∷ j) v
own_held p h r act j v e = (own_sender p h r act v (subst (λ a. v ∈ votes_in a) e (inl refl)), (Own h r act, inl refl, ap (λ b. Some b) (sym e)))

fired_held : (p : ℕ) (o : Option Record) (j : List Record) → AllHeld p (option_to_list o ++ j) (option_to_list (released_by p o))
fired_held p None j v i = absurd i
fired_held p (Some (Decided b)) j v i = absurd i
fired_held p (Some (Own h r act)) j v (inl e) = own_held p h r act j v e
fired_held p (Some (Own h r act)) j v (inr i) = absurd i

since_held : (p : ℕ) (j : List Record) → AllHeld p j (own_since p j)
since_held p [] v i = absurd i
since_held p (Decided b ∷ j) v i = absurd i
since_held p (Own h r act ∷ j) v i = elim (in_append (OfVote v) (own_since p j) (body_of p h r act ∷ []) i) [
  | inl l ↦ older_held p (Own h r act) j v (since_held p j v l)
  | inr (inl e) ↦ own_held p h r act j v e
  | inr (inr e) ↦ absurd e
]

no_bundle : (b : Bundle) (v : Vote) → OfVote v ≡ OfBundle b → ⊥
no_bundle b v e = cc

first_bundle : (t : Bool) (b : Bundle) (rest : List Body) (v : Vote) → (OfVote v ∈ rest → ⊥) → OfVote v ∈ cond t (OfBundle b ∷ rest) rest → ⊥
first_bundle true b rest v later (inl e) = no_bundle b v e
first_bundle true b rest v later (inr i) = later i
first_bundle false b rest v later i = later i

in_bundles : (height : ℕ) (j : List Record) (v : Vote) → OfVote v ∈ bundles_of height j → ⊥
in_bundles height [] v i = i
in_bundles height (Own h r act ∷ j) v i = in_bundles height j v i
in_bundles height (Decided b ∷ j) v i = first_bundle (b.height == height) b (bundles_of height j) v (in_bundles height j v) i

replies_held : (p : ℕ) (n : Node) (b : Body) → AllHeld p n.journal (replies n b)
replies_held p n (OfAsk a) v i = absurd (in_bundles a.height n.journal v i)
replies_held p n (OfTx t) v i = absurd i
replies_held p n (OfProposal q) v i = absurd i
replies_held p n (OfVote u) v i = absurd i
replies_held p n (OfBundle b) v i = absurd i

ask_held : (p : ℕ) (j : List Record) (a : Ask) → AllHeld p j (OfAsk a ∷ [])
ask_held p j a v (inl e) = absurd (let k : OfVote v ≡ OfAsk a = e in cc)
ask_held p j a v (inr i) = absurd i

abbrev ReleasedSaved : World → Type 0
ReleasedSaved w = (v : Vote) → OfVote v ∈ w.released → IsSaved v.sender (OfVote v) (w.nodes v.sender).journal

saved_longer : (p : ℕ) (b : Body) (old new : List Record) → Longer old new → IsSaved p b old → IsSaved p b new
saved_longer p b old new l k = (k.0, record_stays old new l k.0 k.1, k.2)

with_released : (w : World) (p : ℕ) (n : Node) (bodies : List Body) → Longer (w.nodes p).journal n.journal → AllHeld p n.journal bodies → ReleasedSaved w → ReleasedSaved (with_node w p n bodies)
with_released w p n bodies l own s v i = elim (in_append (OfVote v) bodies w.released i) [
  | inl k ↦ (let f = own v k in subst (λ q. IsSaved q (OfVote v) ((with_node w p n bodies).nodes q).journal) (sym f.0) (subst (λ (o : Node). IsSaved p (OfVote v) o.journal) (sym itself) f.1))
  | inr k ↦ saved_longer v.sender (OfVote v) (w.nodes v.sender).journal ((with_node w p n bodies).nodes v.sender).journal (longer_at p v.sender w.nodes n l) (s v k)
]
  where
    itself : (with_node w p n bodies).nodes p ≡ n
    itself = rw (eq-eqb p p refl) refl

fires_released : (c : Setting) (w : World) (p : ℕ) (k : Rule) → ReleasedSaved w → ReleasedSaved (moved w p (firing c p (w.nodes p) k))
fires_released c w p k s = with_released w p (firing c p (w.nodes p) k).node (firing c p (w.nodes p) k).out (fired_longer c p (w.nodes p) k) (fired_held p (saved (context c p) (pick (w.nodes p).queues) (w.nodes p).state k) (w.nodes p).journal) s

happens_released : (c : Setting) (w : World) (e : Event) → ReleasedSaved w → ReleasedSaved (happens c w e)
happens_released c w (Sends client op) s = s
happens_released c w (Comes p bytes) s = come_cases c p (w.nodes p) (message_of bytes) (λ o. ReleasedSaved (moved w p o)) (with_released w p (w.nodes p) [] (same_long (w.nodes p).journal) (λ v i. absurd i) s)
    (λ m b _ _ _. with_released w p (taken_in (w.nodes p) m b).node (replies (w.nodes p) b) (same_long (w.nodes p).journal) (replies_held p (w.nodes p) b) s)
    (λ m b _ _ _. fires_released c w p (DecideByBundle b) s)
happens_released c w (Fires p k) s = try_cases c p (w.nodes p) k (λ o. ReleasedSaved (moved w p o)) (with_released w p (w.nodes p) [] (same_long (w.nodes p).journal) (λ v i. absurd i) s)
    (λ _ _. fires_released c w p k s)
happens_released c w (Asks p) s = with_released w p (w.nodes p) (OfAsk (record { height = (w.nodes p).state.height; sender = p }) ∷ []) (same_long (w.nodes p).journal) (ask_held p (w.nodes p).journal (record { height = (w.nodes p).state.height; sender = p })) s
happens_released c w (Resends p) s = with_released w p (w.nodes p) (own_since p (w.nodes p).journal) (same_long (w.nodes p).journal) (since_held p (w.nodes p).journal) s
happens_released c w (Restarts p cut) s = with_released w p (opened p (cut_record c p (w.nodes p) cut ++ (w.nodes p).journal)) [] (record { more = cut_record c p (w.nodes p) cut; is = refl }) (λ v i. absurd i) s

run_released : (c : Setting) (w : World) (es : List Event) → ReleasedSaved w → ReleasedSaved (run c w es)
run_released c w [] s = s
run_released c w (e ∷ es) s = run_released c (happens c w e) es (happens_released c w e s)

-- ---- the quorum that a precommit followed

abbrev HasQuorum : History → Record → List Record → Type 0
HasQuorum hs (Own h r act) rest = Reason hs (step_of act) h r (content_of act) (marks_of rest)
HasQuorum hs (Decided b) rest = Unit {0}

module _ (c : Setting) (h : Honesty) where
  reason_of : (hs : History) (j : List Record) (height round : ℕ) (v : Value) → IsBacked c h hs j → Own height round (Precommitting (Some v)) ∈ j → Supported hs Prevote height round (id v)
  reason_of hs [] height round v b i = absurd i
  reason_of hs (Decided d ∷ j) height round v b (inl e) = absurd (let k : Own height round (Precommitting (Some v)) ≡ Decided d = e in cc)
  reason_of hs (Decided d ∷ j) height round v b (inr i) = reason_of hs j height round v b.1 i
  reason_of hs (Own k r act ∷ j) height round v b (inl e) = subst (λ (x : Record). HasQuorum hs x j) (sym e) b.0
  reason_of hs (Own k r act ∷ j) height round v b (inr i) = reason_of hs j height round v b.1 i

  quorum_saved : (w : World) (height round : ℕ) (x : Id) → Supported (history c h (marks_in c h w.nodes)) Prevote height round x → QuorumSaved c h w (λ i. prevote height round i (Some x))
  quorum_saved w height round x s = record {
    members = s.members;
    enough = s.enough;
    saved = λ i ok m. mark_saved i (w.nodes i).journal (prevote height round i (Some x)) refl (s.voted i ok.0 m ok.1);
  }

  votes_stand : (w : World) → Sound c h w → (p : ℕ) → IsCorrect c h p → VotesStand c h w p
  votes_stand w s p ok = record {
    kept = λ v i e. mark_saved p (w.nodes p).journal v e (subst (λ q. vote_mark v ∈ marks_of (w.nodes q).journal) e ((s.kept p ok).covered v i (subst (IsCorrect c h) (sym e) ok)));
    followed = λ height round v i. quorum_saved w height round (id v) (reason_of (history c h (marks_in c h w.nodes)) (w.nodes p).journal height round v (s.backed p ok) i);
  }

pub one_vote_law : OneVoteLaw
one_vote_law c events =
    let w : World = run c (beginning c) events in
    let grows : (p : ℕ) → Grows (w.nodes p).journal = λ p. (always_tied c events p).grows in
    let saved : ReleasedSaved w = run_released c (beginning c) events (λ v i. absurd i) in (
      grows,
      saved,
      λ v u i k sender height round step. same_saved v.sender (w.nodes v.sender).journal (grows v.sender) v u refl (sym sender) (saved v i) (subst (λ p. IsSaved p (OfVote u) (w.nodes p).journal) (sym sender) (saved u k)) height round step,
      λ h unforged p ok. votes_stand c h w (run_sound c h (beginning c) events (beginning_sound c h) unforged) p ok,
    )
