-- Each stage of the order of firing, by places.
use Rattle.std.proofs.Common.{◌≡◌, ℕ, ◌<◌, Bool, true, false, ◌&&◌, List, [], length, get_or, map, All, Option, Some, None, option_map, find, is_none, refl, sym, ap, subst, ◌∙◌}
use Rattle.std.specs.Prelude.{IsSome, ◌==◌}
use Rattle.std.specs.List.{position_from}
use Rattle.std.proofs.lemmas.List.{length-map, get_or-map}
use Rattle.std.proofs.lemmas.Bool.{and_parts}
use Rattle.protocol.specs.Messages.{Proposal, step_eq}
use Rattle.protocol.specs.declared.types.Step.TheVariants.{Propose}
use Rattle.protocol.specs.Values.{Value, id, valid}
use Rattle.protocol.specs.State.{Context, State, PrevoteFresh, Lock}
use Rattle.protocol.specs.Rules.{lock_is, stands_at}
use Rattle.round_states.specs.Machine.{Machine, Agrees, genuine_of}
use Rattle.protocol.specs.Order.{prevoting, is_backed, is_again, again, again_of, prevoting_again, locking, is_fresh, is_lockable, is_decidable}
use Rattle.protocol.proofs.Membership.{found_in}
use Rattle.round_states.specs.Found.{proposal_in, IsFound}
use Rattle.round_states.specs.Steps.{nowhere, proposal_at}
use Rattle.round_states.specs.declared.state.KeptProposal.{KeptProposal}
use Rattle.round_machine.specs.Naming.{prevote_again}
use Rattle.round_machine.specs.Judging.{can_lock, can_decide, can_prevote_again, has_backing}
use Rattle.round_machine.specs.Judging.{first_sought}
use Rattle.round_machine.specs.declared.seeking.Sought.TheVariants as soughts
use Rattle.round_machine.proofs.InRound.{named, there}

-- a kept proposal is some one
abbrev pub some_kept : KeptProposal
some_kept = record { proposal = nowhere; id = []; is_valid = false; is_genuine = false }

none_of : (o : Option ℕ) → is_none o ≡ true → o ≡ None
none_of None e = refl
none_of (Some r) e = absurd cc

-- a proposal that stands in a round is of it
of_round : (powers : List ℕ) (s : State) (q : Proposal) → stands_at powers s s.round q ≡ true → (q.round == s.round) ≡ true
of_round powers s q t = (and_parts _ _ t).0

pub prevoting_is : (powers : List ℕ) (s : State) (o : Option ℕ) → o ≡ first_sought powers s s.round soughts.Fresh → step_eq s.step Propose ≡ true
    → option_map (λ i. PrevoteFresh (proposal_at s i).value) o ≡ prevoting powers s
prevoting_is powers s o e step = rw (e, step) (named (is_fresh powers s) s.round (λ (q : Proposal). PrevoteFresh q.value) s.proposals (λ q t. of_round powers s q (and_parts _ _ t).0))

pub fresh_there : (powers : List ℕ) (s : State) (i : ℕ) → first_sought powers s s.round soughts.Fresh ≡ Some i
    → (i < length s.proposals) × ((proposal_at s i).valid_round ≡ None)
fresh_there powers s i e =
    let t = there (is_fresh powers s) s.round s.proposals i e in
    (t.within, none_of _ (and_parts _ _ t.passes).1)

backing_is : (powers : List ℕ) (s : State) (v : Value) (r : Option ℕ) → has_backing powers s (id v) r ≡ is_backed powers s v r
backing_is powers s v None = refl
backing_is powers s v (Some r) = refl

backed : (powers : List ℕ) (s : State) (q : Proposal) (r : Option ℕ) → q.valid_round ≡ r → is_backed powers s q.value r ≡ true → Some (prevote_again q) ≡ again q r
backed powers s q None e b = absurd (let f : false ≡ true = b in cc)
backed powers s q (Some r) e b = rw e refl

found_again : (powers : List ℕ) (s : State) (qs : List Proposal) (o : Option Proposal) → find (is_again powers s) qs ≡ o → option_map prevote_again o ≡ again_of o
found_again powers s qs None e = refl
found_again powers s qs (Some q) e = backed powers s q q.valid_round refl (and_parts _ _ (found_in (is_again powers s) qs q e).passes).1

pub prevoting_again_is : (powers : List ℕ) (s : State) (o : Option ℕ) → o ≡ first_sought powers s s.round soughts.Backed → step_eq s.step Propose ≡ true
    → option_map (λ i. prevote_again (proposal_at s i)) o ≡ prevoting_again powers s
prevoting_again_is powers s o e step =
    rw (e, step) (named (is_again powers s) s.round prevote_again s.proposals (λ q t. of_round powers s q (and_parts _ _ t).0) ∙ found_again powers s s.proposals (find (is_again powers s) s.proposals) refl)

some_round : (powers : List ℕ) (s : State) (v : Value) (r : Option ℕ) → is_backed powers s v r ≡ true → IsSome r
some_round powers s v None e = absurd (let f : false ≡ true = e in cc)
some_round powers s v (Some r) e = refl

pub again_there : (powers : List ℕ) (s : State) (i : ℕ) → first_sought powers s s.round soughts.Backed ≡ Some i
    → (i < length s.proposals) × IsSome (proposal_at s i).valid_round
again_there powers s i e =
    let t = there (is_again powers s) s.round s.proposals i e in
    (t.within, some_round powers s _ _ (and_parts _ _ t.passes).1)

pub locking_is : (powers : List ℕ) (s : State) (o : Option ℕ) → o ≡ first_sought powers s s.round soughts.Lockable → step_eq s.step Propose ≡ false → s.value_found ≡ false
    → option_map (λ i. Lock (proposal_at s i).value) o ≡ locking powers s
locking_is powers s o e step first =
    rw (e, step, first) (named (is_lockable powers s) s.round (λ (q : Proposal). Lock q.value) s.proposals (λ q t. of_round powers s q (and_parts _ _ (and_parts _ _ t).0).0))

pub lockable_there : (powers : List ℕ) (s : State) (i : ℕ) → first_sought powers s s.round soughts.Lockable ≡ Some i → i < length s.proposals
lockable_there powers s i e = (there (is_lockable powers s) s.round s.proposals i e).within

-- ---- the tests of the code

-- the test at a place
at_place : (s : State) (ks : List KeptProposal) (i : ℕ) (k : KeptProposal) (passes : KeptProposal → Bool) (test : Proposal → Bool) → map proposal_in ks ≡ s.proposals → All (IsFound s.delivered) ks → i < length s.proposals → k ≡ get_or ks i k
    → ((x : KeptProposal) → IsFound s.delivered x → passes x ≡ test x.proposal) → passes k ≡ test (proposal_at s i)
at_place s ks i k passes test same all lt e agree =
    let within : i < length ks = rw (← same, length-map) at lt in
    let at : proposal_at s i ≡ k.proposal = rw (← same) (get_or-map proposal_in ks i k nowhere within ∙ ap proposal_in (sym e)) in
    let found : IsFound s.delivered k = subst (λ (x : KeptProposal). IsFound s.delivered x) (sym e) (all i k within) in
    agree k found ∙ ap test (sym at)

pub fresh_at : (powers : List ℕ) (s : State) (ks : List KeptProposal) (i : ℕ) (k : KeptProposal) → map proposal_in ks ≡ s.proposals → All (IsFound s.delivered) ks → i < length s.proposals → k ≡ get_or ks i k
    → is_fresh powers s k.proposal ≡ is_fresh powers s (proposal_at s i)
fresh_at powers s ks i k same all lt e = at_place s ks i k (λ x. is_fresh powers s x.proposal) (is_fresh powers s) same all lt e (λ x f. refl)

pub again_at : (powers : List ℕ) (s : State) (ks : List KeptProposal) (i : ℕ) (k : KeptProposal) → map proposal_in ks ≡ s.proposals → All (IsFound s.delivered) ks → i < length s.proposals → k ≡ get_or ks i k
    → can_prevote_again powers s k ≡ is_again powers s (proposal_at s i)
again_at powers s ks i k same all lt e = at_place s ks i k (can_prevote_again powers s) (is_again powers s) same all lt e (λ x f. rw (f.id, backing_is powers s x.proposal.value x.proposal.valid_round) refl)

pub lockable_at : (powers : List ℕ) (s : State) (ks : List KeptProposal) (i : ℕ) (k : KeptProposal) → map proposal_in ks ≡ s.proposals → All (IsFound s.delivered) ks → i < length s.proposals → k ≡ get_or ks i k
    → can_lock powers s k ≡ is_lockable powers s (proposal_at s i)
lockable_at powers s ks i k same all lt e = at_place s ks i k (can_lock powers s) (is_lockable powers s) same all lt e (λ x f. rw (f.is_valid, f.id) refl)

pub decidable_at : (powers : List ℕ) (s : State) (ks : List KeptProposal) (i : ℕ) (k : KeptProposal) → map proposal_in ks ≡ s.proposals → All (IsFound s.delivered) ks → i < length s.proposals → k ≡ get_or ks i k
    → can_decide powers s k ≡ is_decidable powers s (proposal_at s i)
decidable_at powers s ks i k same all lt e = at_place s ks i k (can_decide powers s) (is_decidable powers s) same all lt e (λ x f. rw (f.is_valid, f.id) refl)

-- what was found of a fresh proposal is what its prevote asks
pub fresh_answers : (g : Context) (m : Machine) (ks : List KeptProposal) (i : ℕ) (k : KeptProposal) → Agrees g m → map proposal_in ks ≡ m.state.proposals → map (λ (x : KeptProposal). x.is_genuine) ks ≡ m.genuine → All (IsFound m.state.delivered) ks
    → i < length m.state.proposals → (proposal_at m.state i).valid_round ≡ None → k ≡ get_or ks i k
    → ((k.is_valid && k.is_genuine && lock_is m.state.lock k.proposal.value) ≡ (valid m.state.delivered (proposal_at m.state i).value && g.genuine (proposal_at m.state i).value && lock_is m.state.lock (proposal_at m.state i).value))
    × (k.id ≡ id (proposal_at m.state i).value)
fresh_answers g m ks i k a same flags all lt fresh e =
    let within : i < length ks = rw (← same, length-map) at lt in
    let at : proposal_at m.state i ≡ k.proposal = rw (← same) (get_or-map proposal_in ks i k nowhere within ∙ ap proposal_in (sym e)) in
    let found : IsFound m.state.delivered k = subst (λ (x : KeptProposal). IsFound m.state.delivered x) (sym e) (all i k within) in
    let none : k.proposal.valid_round ≡ None = ap (λ (q : Proposal). q.valid_round) (sym at) ∙ fresh in
    let flag : k.is_genuine ≡ genuine_of g k.proposal =
    ap (λ (x : KeptProposal). x.is_genuine) e ∙ sym (get_or-map (λ (x : KeptProposal). x.is_genuine) ks i k false within)
    ∙ ap (λ (fs : List Bool). get_or fs i false) (flags ∙ a.genuine ∙ ap (λ (qs : List Proposal). map (genuine_of g) qs) (sym same))
    ∙ get_or-map (genuine_of g) (map proposal_in ks) i nowhere false (rw length-map within)
    ∙ ap (genuine_of g) (get_or-map proposal_in ks i k nowhere within ∙ ap proposal_in (sym e)) in
    let genuine : k.is_genuine ≡ g.genuine k.proposal.value = flag ∙ rw none refl in
    (rw (at, found.is_valid, genuine) refl, rw at found.id)
