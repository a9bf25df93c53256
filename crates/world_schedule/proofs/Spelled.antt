-- What a node releases stands in its journal, so it can be spelled.
use Rattle.std.proofs.Common.{◌≡◌, ℕ, zero, suc, ◌≤◌, inl, inr, List, [], ◌∷◌, ◌++◌, length, Option, Some, None, refl, sym, subst, option_map, option_to_list}
use Rattle.std.specs.Prelude.{◌==◌, unwrap_or, reverse}
use Rattle.std.proofs.lemmas.Bool.{cond_both}
use Rattle.messages.specs.Grammar.{IsBody}
use Rattle.messages.specs.Framing.{message_of}
use Rattle.protocol.specs.Tags.{Setting}
use Rattle.protocol.specs.Messages.{◌∈◌, Body, OfTx, OfProposal, OfVote, OfAsk, OfBundle, Bundle, Record, Own, Decided, body_of}
use Rattle.protocol.specs.State.{Node, Rule, DecideByBundle, TimedOut}
use Rattle.protocol.specs.Rules.{saved, released_by}
use Rattle.protocol.specs.Order.{enabled}
use Rattle.protocol.specs.Restart.{own_since}
use Rattle.protocol.specs.Queues.{pick}
use Rattle.protocol.specs.Refusals.{context}
use Rattle.protocol.specs.Arrivals.{firing, replies, bundles_of}
use Rattle.protocol.specs.World.{Cut, cut_record}
use Rattle.protocol.specs.History.{Input, Settle, Given, Due, first, firsts, taken, after}
use Rattle.protocol.specs.Effects.{bodies_of, bodies_taken, along, bodies_after}
use Rattle.protocol.proofs.Arrivals.{come_cases, try_cases}
use Rattle.protocol.proofs.Membership.{in_append, in_left, in_right}
use Rattle.protocol.proofs.Tagging.{tagged_law}
use Rattle.std.proofs.lemmas.List.{reverse-append, reverse-reverse}
use Rattle.vote_journal.specs.Grammar.{IsRecord}
use Rattle.vote_journal.specs.Order.{AreLawful}
use Rattle.vote_journal.specs.Layout.{IsJournal}
use Rattle.vote_journal.proofs.Layouts.{lawful_records}
use Rattle.node_core.specs.Calls.{IsLeftBy}
use Rattle.world_schedule.specs.Standings.{AreReadable}

-- the record lets the body be said: an own message, or a decision
abbrev says : ℕ → Record → Body → Type 0
says p (Own h r act) b = b ≡ body_of p h r act
says p (Decided d) b = b ≡ OfBundle d

abbrev pub IsSaved : ℕ → List Record → Body → Type 0
IsSaved p j b = (r : Record) × (r ∈ j) × says p r b

abbrev pub AreSaved : ℕ → List Record → List Body → Type 0
AreSaved p j bodies = (b : Body) → b ∈ bodies → IsSaved p j b

none_saved : (p : ℕ) (j : List Record) → AreSaved p j []
none_saved p j b i = absurd i

both_saved : (p : ℕ) (j : List Record) (xs ys : List Body) → AreSaved p j xs → AreSaved p j ys → AreSaved p j (xs ++ ys)
both_saved p j xs ys a b body i = elim (in_append body xs ys i) [ inl k ↦ a body k | inr k ↦ b body k ]

more_saved : (p : ℕ) (more j : List Record) (bodies : List Body) → AreSaved p j bodies → AreSaved p (more ++ j) bodies
more_saved p more j bodies a b i = let k = a b i in (k.0, in_right k.0 more j k.1, k.2)

-- ---- one firing

wrote_saved : (p : ℕ) (wrote : Option Record) (j : List Record) → AreSaved p (option_to_list wrote ++ j) (option_to_list (released_by p wrote))
wrote_saved p None j b i = absurd i
wrote_saved p (Some (Decided d)) j b i = absurd i
wrote_saved p (Some (Own h r act)) j b (inl e) = (Own h r act, inl refl, e)
wrote_saved p (Some (Own h r act)) j b (inr e) = absurd e

firing_saved : (c : Setting) (p : ℕ) (n : Node) (k : Rule) → AreSaved p (firing c p n k).node.journal (bodies_of c p n k)
firing_saved c p n k = wrote_saved p (saved (context c p) (pick n.queues) n.state k) n.journal

abbrev Later : ℕ → Node → Node → Type 0
Later p n m = (bodies : List Body) → AreSaved p n.journal bodies → AreSaved p m.journal bodies

firing_later : (c : Setting) (p : ℕ) (n : Node) (k : Rule) → Later p n (firing c p n k).node
firing_later c p n k bodies a = more_saved p (option_to_list (saved (context c p) (pick n.queues) n.state k)) n.journal bodies a

first_later : (c : Setting) (p : ℕ) (n : Node) → Later p n (first c p n)
first_later c p n = by_rule (enabled c.powers n.state)
  where
    by_rule : (o : Option Rule) → Later p n (unwrap_or (option_map (λ k. (firing c p n k).node) o) n)
    by_rule None bodies a = a
    by_rule (Some k) bodies a = firing_later c p n k bodies a

firsts_later : (c : Setting) (p times : ℕ) (n : Node) → Later p n (firsts c p times n)
firsts_later c p zero n bodies a = a
firsts_later c p (suc times) n bodies a = firsts_later c p times (first c p n) bodies (first_later c p n bodies a)

along_saved : (c : Setting) (p times : ℕ) (n : Node) → AreSaved p (firsts c p times n).journal (along (bodies_of c p) c p times n)
along_saved c p zero n = none_saved p n.journal
along_saved c p (suc times) n = both_saved p _ _ _ (firsts_later c p times (first c p n) _ (by_rule (enabled c.powers n.state))) (along_saved c p times (first c p n))
  where
    by_rule : (o : Option Rule) → AreSaved p (unwrap_or (option_map (λ k. (firing c p n k).node) o) n).journal (unwrap_or (option_map (bodies_of c p n) o) [])
    by_rule None = none_saved p n.journal
    by_rule (Some k) = firing_saved c p n k

-- ---- a call

one_bundle : (p : ℕ) (d : Bundle) (j : List Record) (bodies : List Body) → AreSaved p (Decided d ∷ j) bodies → AreSaved p (Decided d ∷ j) (OfBundle d ∷ bodies)
one_bundle p d j bodies later b (inl e) = (Decided d, inl refl, e)
one_bundle p d j bodies later b (inr i) = later b i

bundles_saved : (p height : ℕ) (j : List Record) → AreSaved p j (bundles_of height j)
bundles_saved p height [] = none_saved p []
bundles_saved p height (Own h r act ∷ j) = more_saved p (Own h r act ∷ []) j (bundles_of height j) (bundles_saved p height j)
bundles_saved p height (Decided d ∷ j) =
    let later : AreSaved p (Decided d ∷ j) (bundles_of height j) = more_saved p (Decided d ∷ []) j (bundles_of height j) (bundles_saved p height j) in
    cond_both (d.height == height) (OfBundle d ∷ bundles_of height j) (bundles_of height j) (AreSaved p (Decided d ∷ j)) (λ _. one_bundle p d j (bundles_of height j) later) (λ _. later)

replies_saved : (p : ℕ) (n : Node) (b : Body) → AreSaved p n.journal (replies n b)
replies_saved p n (OfAsk q) = bundles_saved p q.height n.journal
replies_saved p n (OfTx t) = none_saved p n.journal
replies_saved p n (OfProposal q) = none_saved p n.journal
replies_saved p n (OfVote v) = none_saved p n.journal
replies_saved p n (OfBundle d) = none_saved p n.journal

taken_saved : (c : Setting) (p : ℕ) (n : Node) (input : Input) → AreSaved p (taken c p n input).journal (bodies_taken c p n input)
taken_saved c p n Settle = none_saved p n.journal
taken_saved c p n (Given bytes) = come_cases c p n (message_of bytes) (λ o. AreSaved p o.node.journal o.out) (none_saved p n.journal) (λ m b _ _ _. replies_saved p n b) (λ m b _ _ _. firing_saved c p n (DecideByBundle b))
taken_saved c p n (Due t) = try_cases c p n (TimedOut t) (λ o. AreSaved p o.node.journal o.out) (none_saved p n.journal) (λ _ _. firing_saved c p n (TimedOut t))

pub handed_saved : (c : Setting) (p : ℕ) (n : Node) (input : Input) (times : ℕ) → AreSaved p (after c p n input times).journal (bodies_after c p n input times)
handed_saved c p n input times = both_saved p _ _ _ (firsts_later c p times (taken c p n input) _ (taken_saved c p n input)) (along_saved c p times (taken c p n input))

-- the own messages of the height
pub since_saved : (p : ℕ) (j : List Record) → AreSaved p j (own_since p j)
since_saved p [] = none_saved p []
since_saved p (Decided d ∷ j) = none_saved p (Decided d ∷ j)
since_saved p (Own h r act ∷ j) = both_saved p (Own h r act ∷ j) (own_since p j) (body_of p h r act ∷ []) (more_saved p (Own h r act ∷ []) j (own_since p j) (since_saved p j)) one
  where
    one : AreSaved p (Own h r act ∷ j) (body_of p h r act ∷ [])
    one b (inl e) = (Own h r act, inl refl, e)
    one b (inr none) = absurd none

-- ---- spelled

lawful_each : (powers : List ℕ) (p : ℕ) (before rs : List Record) → AreLawful powers p before rs → (r : Record) → r ∈ rs → IsRecord p r
lawful_each powers p before [] l r i = absurd i
lawful_each powers p before (x ∷ rs) l r (inl e) = subst (IsRecord p) (sym e) l.0
lawful_each powers p before (x ∷ rs) l r (inr i) = lawful_each powers p (x ∷ before) rs l.2 r i

said_spelled : (p : ℕ) (r : Record) (b : Body) → IsRecord p r → says p r b → IsBody b
said_spelled p (Own h r act) b is e = subst IsBody (sym e) is.0
said_spelled p (Decided d) b is e = subst IsBody (sym e) is.fits

in_reverse : {X : Type 0} (x : X) (xs : List X) → x ∈ xs → x ∈ reverse xs
in_reverse x [] i = absurd i
in_reverse x (y ∷ ys) (inl e) = subst (λ l. x ∈ l) (sym (reverse-append (y ∷ []) ys)) (in_right x (reverse ys) (y ∷ []) (inl e))
in_reverse x (y ∷ ys) (inr i) = subst (λ l. x ∈ l) (sym (reverse-append (y ∷ []) ys)) (in_left x (reverse ys) (y ∷ []) (in_reverse x ys i))

in_back : {X : Type 0} (x : X) (xs : List X) → x ∈ reverse xs → x ∈ xs
in_back x xs i = subst (λ l. x ∈ l) (reverse-reverse xs) (in_reverse x (reverse xs) i)

lawful_of : {powers : List ℕ} {p : ℕ} {bytes : List ℕ} {rs : List Record} → IsJournal powers p bytes rs → AreLawful powers p [] rs
lawful_of {powers} {p} (inl k) = subst (AreLawful powers p []) (sym k.1) tt
lawful_of {powers} {p} (inr k) = subst (AreLawful powers p []) k.2.records (lawful_records powers p [] k.2.entries k.2.lawful)

-- What is said of a journal that stands whole can be spelled.
pub saved_spelled : (powers : List ℕ) (p : ℕ) (j : List Record) (bodies : List Body) → AreLawful powers p [] (reverse j) → AreSaved p j bodies → (b : Body) → b ∈ bodies → IsBody b
saved_spelled powers p j bodies lawful saved b i = let k = saved b i in said_spelled p k.0 b (lawful_each powers p [] (reverse j) lawful k.0 (in_reverse k.0 j k.1)) k.2

-- and so where the bytes in the store are a journal of it, or of it and more
pub left_spelled : (c : Setting) (p : ℕ) (n : Node) (cut : Option Cut) (bytes : List ℕ) (bodies : List Body) → IsLeftBy c p n cut bytes → AreSaved p n.journal bodies → (b : Body) → b ∈ bodies → IsBody b
left_spelled c p n cut bytes bodies left saved b i =
    let k = saved b i in
    let within : k.0 ∈ left.0 = elim left.2 [
      | inl e ↦ in_back k.0 left.0 (subst (λ j. k.0 ∈ j) (sym e) k.1)
      | inr e ↦ in_back k.0 left.0 (subst (λ j. k.0 ∈ j) (sym e) (in_right k.0 (cut_record c p n cut) n.journal k.1))
    ] in
    said_spelled p k.0 b (lawful_each c.powers p [] left.0 (lawful_of left.1) k.0 within) k.2

-- and its frame is read again
pub spelled_readable : (c : Setting) (bodies : List Body) → 1 ≤ length c.powers → length c.powers ≤ 128 → ((b : Body) → b ∈ bodies → IsBody b) → AreReadable c bodies
spelled_readable c bodies one few spelled b i = (tagged_law c b one few (spelled b i)).1
