-- A kept proposal that may be decided, and the height after its decision.
use Rattle.std.proofs.Common.{◌≡◌, ℕ, ◌<◌, true, List, [], ◌∷◌, ◌++◌, length, get_or, map, All, sym, ap, subst, ◌∙◌, arith}
use Rattle.std.proofs.lemmas.Grind.{flat_map-append}
use Rattle.std.proofs.lemmas.List.{append-nil, get_or-map, length-map}
use Rattle.transactions.specs.Grammar.{IsValue}
use Rattle.proposal_validity.specs.Standing.{Standings, IsFrontierOf}
use Rattle.proposal_validity.proofs.Follows.{valid_all}
use Rattle.protocol.specs.Messages.{Proposal}
use Rattle.protocol.specs.Values.{Value, Item, items, valid}
use Rattle.round_states.specs.Found.{proposal_in, IsFound}
use Rattle.round_states.specs.Seen.{delivered_by}
use Rattle.round_states.specs.declared.state.KeptProposal.{KeptProposal}

-- a value that is valid after one list is valid after each with the same frontier
pub valid_after : (f : Standings) (v : Value) (d e : List Item) → IsValue v → IsFrontierOf d f → IsFrontierOf e f → valid d v ≡ true → valid e v ≡ true
valid_after f v d e fits a b h = valid_all f v fits e b ∙ sym (valid_all f v fits d a) ∙ h

pub delivered_more : (values : List Value) (v : Value) → delivered_by (values ++ v ∷ []) ≡ delivered_by values ++ items v
delivered_more values v = flat_map-append items values (v ∷ []) ∙ ap (λ (w : List Item). delivered_by values ++ w) (append-nil (items v))

pub none_found : (d : List Item) (ks : List KeptProposal) → ks ≡ [] → All (IsFound d) ks
none_found d ks e = rw e (λ k x lt. absurd (omega arith))

-- the kept proposal at a place, as the definitions see it
pub placed : (ks : List KeptProposal) (place : ℕ) (k : KeptProposal) (e : Proposal) → place < length (map proposal_in ks) → k ≡ get_or ks place k → get_or (map proposal_in ks) place e ≡ k.proposal
placed ks place k e lt same =
    let within : place < length ks = rw length-map at lt in
    get_or-map proposal_in ks place k e within ∙ ap (λ (x : KeptProposal). x.proposal) (sym same)

pub found_at : (d : List Item) (ks : List KeptProposal) (place : ℕ) (k : KeptProposal) → All (IsFound d) ks → place < length (map proposal_in ks) → k ≡ get_or ks place k → IsFound d k
found_at d ks place k all lt same =
    let within : place < length ks = rw length-map at lt in
    subst (λ (x : KeptProposal). IsFound d x) (sym same) (all place k within)
