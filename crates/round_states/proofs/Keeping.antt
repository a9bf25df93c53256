-- A sound state, with one kept proposal more.
use Rattle.std.proofs.Common.{◌≡◌, ℕ, Option, None, cond, List, [], ◌∷◌, ◌++◌, length, sym, ap, ◌∙◌, arith}
use Rattle.std.specs.Prelude.{◌==◌}
use Rattle.std.specs.BTreeMap.{BTreeMap}
use Rattle.std.specs.Global.{Vec}
use Rattle.std.proofs.lemmas.List.{map-append}
use Rattle.std.proofs.lemmas.List.Elements.{All-append}
use Rattle.protocol.specs.Messages.{Proposal}
use Rattle.vote_tally.specs.Kept.{Kept, with_proposal}
use Rattle.vote_tally.specs.declared.room.Ready.{Ready}
use Rattle.round_states.specs.Found.{proposal_in, IsFound}
use Rattle.round_states.specs.Places.{places_at}
use Rattle.round_states.specs.Seen.{IsSound, delivered_by}
use Rattle.round_states.specs.declared.state.KeptProposal.{KeptProposal}
use Rattle.round_states.specs.declared.state.State.TheInside.{Inside}
use Rattle.round_states.proofs.ByRound.{places_kept}

pub kept_more : (a : Inside) (ks mid : Vec KeptProposal) (ps room : BTreeMap ℕ (Vec ℕ)) (t ready : Kept) (k : KeptProposal) (said : Proposal) (what : Option Ready) → IsSound a → IsFound (delivered_by a.decided.items) k → said ≡ k.proposal
    → mid.items ≡ a.kept.items → ks.items ≡ mid.items ++ k ∷ []
    → ((r : ℕ) → places_at room r ≡ places_at a.places r) → ((r : ℕ) → places_at ps r ≡ cond (said.round == r) (places_at room r ++ length mid.items ∷ []) (places_at room r))
    → ready ≡ record a.tally { ready = what } → t ≡ with_proposal ready said
    → IsSound (record a { kept = ks; places = ps; tally = t; room = None })
kept_more a ks mid ps room t ready k said what h f same em ek er ep ev et = record {
  proposals = rw (et, ev, same, ek, em) (ap (λ (qs : List Proposal). qs ++ k.proposal ∷ []) h.proposals ∙ sym (map-append proposal_in a.kept.items (k ∷ [])));
  places = λ r. rw (ek, em) (places_kept r (length mid.items) (places_at a.places r) (places_at room r) (places_at ps r) a.kept.items k (rw same at (ep r)) (er r) (h.places r) (ap (λ (xs : List KeptProposal). length xs) em));
  found = rw (ek, em) (All-append (IsFound (delivered_by a.decided.items)) a.kept.items (k ∷ []) h.found (λ i d lt. let e : i ≡ 0 = omega (arith, lt) in rw e f));
  frontier = h.frontier;
  stage = rw (et, ev) h.stage;
  height = h.height;
  valid_value = h.valid_value;
  ready = ap (λ (x : Kept). x.ready) et;
  room = tt;
}
