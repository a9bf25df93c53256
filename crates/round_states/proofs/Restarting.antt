-- The restart of a journal with one record more.
use Rattle.std.proofs.Common.{◌≡◌, ℕ, ◌+◌, add-one, None, List, map, [], ◌∷◌, ◌++◌, refl, sym, ap, ◌∙◌}
use Rattle.std.specs.List.{flat_map}
use Rattle.std.proofs.lemmas.Grind.{flat_map-append}
use Rattle.std.proofs.lemmas.List.{append-nil}
use Rattle.protocol.specs.Values.{Value, Item, items}
use Rattle.protocol.specs.State.{State, fresh}
use Rattle.protocol.specs.Messages.{Proposal, Vote, Bundle, Act, Record, Own, Decided, body_of}
use Rattle.protocol.specs.Restart.{restart, height_of, delivered_of, own_since, proposals_in, votes_in}
use Rattle.protocol.specs.Rules.{decided}
use Rattle.round_states.specs.Replaying.{replayed}

proposals_more : (p h r : ℕ) (act : Act) (before : List Record) → flat_map proposals_in (own_since p (Own h r act ∷ before)) ≡ flat_map proposals_in (own_since p before) ++ proposals_in (body_of p h r act)
proposals_more p h r act before = flat_map-append proposals_in (own_since p before) (body_of p h r act ∷ []) ∙ ap (λ (qs : List Proposal). flat_map proposals_in (own_since p before) ++ qs) (append-nil (proposals_in (body_of p h r act)))

votes_more : (p h r : ℕ) (act : Act) (before : List Record) → flat_map votes_in (own_since p (Own h r act ∷ before)) ≡ flat_map votes_in (own_since p before) ++ votes_in (body_of p h r act)
votes_more p h r act before = flat_map-append votes_in (own_since p before) (body_of p h r act ∷ []) ∙ ap (λ (vs : List Vote). flat_map votes_in (own_since p before) ++ vs) (append-nil (votes_in (body_of p h r act)))

-- an own message of the height that the others leave
pub restart_own : (p r : ℕ) (act : Act) (before : List Record) → restart p (Own (height_of before) r act ∷ before) ≡ replayed p (restart p before) r act
unfolding restart
restart_own p r act before = rw (proposals_more p (height_of before) r act before, votes_more p (height_of before) r act before) refl

-- a decision
pub restart_decided : (p : ℕ) (b : Bundle) (before : List Record) → restart p (Decided b ∷ before) ≡ decided (restart p before) b.value
unfolding restart
restart_decided p b before = refl

-- ---- what a restart has

pub restart_height : (p : ℕ) (before : List Record) → (restart p before).height ≡ height_of before
unfolding restart
restart_height p before = refl

pub restart_delivered : (p : ℕ) (before : List Record) → (restart p before).delivered ≡ delivered_of before
unfolding restart
restart_delivered p before = refl

pub restart_without_valid_value : (p : ℕ) (before : List Record) → (restart p before).valid_value ≡ None
unfolding restart
restart_without_valid_value p before = refl

-- behind decisions alone nothing has come
pub restart_of_decisions : (p : ℕ) (bs : List Bundle) → restart p (map Decided bs) ≡ fresh (restart p (map Decided bs)).delivered (restart p (map Decided bs)).height
unfolding restart
restart_of_decisions p [] = refl
restart_of_decisions p (b ∷ bs) = refl

-- ---- behind a state that is the restart of the others

pub own_restarts : (p h r : ℕ) (act : Act) (before : List Record) (s : State) → s ≡ restart p before → h ≡ s.height → replayed p s r act ≡ restart p (Own h r act ∷ before)
own_restarts p h r act before s is at =
    let height : h ≡ height_of before = at ∙ ap (λ (w : State). w.height) is ∙ restart_height p before in
    rw (height, is) (sym (restart_own p r act before))

pub decision_restarts : (p : ℕ) (b : Bundle) (v : Value) (before : List Record) (s : State) → b.value ≡ v → s ≡ restart p before → decided s v ≡ restart p (Decided b ∷ before)
decision_restarts p b v before s same is = rw (← same, is) (sym (restart_decided p b before))

-- the height behind one at which nothing has come
pub next_height : (s : State) (d : List Item) (v : Value) → s ≡ fresh s.delivered s.height → d ≡ s.delivered ++ items v → record s { delivered = d; height = s.height + 1 } ≡ decided s v
next_height s d v e is = ap (λ (w : State). record w { delivered = d; height = s.height + 1 }) e ∙ rw (is, add-one) refl
