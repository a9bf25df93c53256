-- A kept proposal by its place, with what was found of it.
use Rattle.std.proofs.Common.{◌≡◌, ℕ, ◌<◌, List, length, get_or, map, All, sym, ap, subst, ◌∙◌}
use Rattle.std.proofs.lemmas.List.{length-map, get_or-map}
use Rattle.protocol.specs.State.{State}
use Rattle.round_states.specs.Found.{proposal_in, IsFound}
use Rattle.round_states.specs.Steps.{nowhere, proposal_at}
use Rattle.round_states.specs.declared.state.KeptProposal.{KeptProposal}

pub record IsThere (s : State) (i : ℕ) (k : KeptProposal) : Type 0 where
  pub same : k.proposal ≡ proposal_at s i
  pub found : IsFound s.delivered k

pub kept_there : (s : State) (ks : List KeptProposal) (i : ℕ) (k : KeptProposal) → map proposal_in ks ≡ s.proposals → All (IsFound s.delivered) ks → i < length s.proposals → k ≡ get_or ks i k → IsThere s i k
kept_there s ks i k same all lt e =
    let within : i < length ks = rw (← same, length-map) at lt in
    record {
      same = sym (rw (← same) (get_or-map proposal_in ks i k nowhere within ∙ ap proposal_in (sym e)));
      found = subst (λ (x : KeptProposal). IsFound s.delivered x) (sym e) (all i k within);
    }
