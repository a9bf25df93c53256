-- What a proposal's frame tells of its transactions.
use Rattle.std.proofs.Common.{◌≡◌, ℕ, Bool, true, false, ◌&&◌, ◌==◌, List, ◌∷◌, ◌++◌, length, Ok, refl, ap, ◌∙◌, append_assoc, arith}
use Rattle.std.specs.List.{flat_map}
use Rattle.std.specs.Result.{result_ok}
use Rattle.transactions.specs.Fields.{number_bytes, number_at}
use Rattle.transactions.specs.Grammar.{kind_byte, is_later, tx_fields_spelling, value_spelling, tx_spelling, tags_spelling}
use Rattle.transactions.proofs.Formats.{u16_format, u32_format, u64_format}
use Rattle.messages.specs.declared.body.Step.{Step}
use Rattle.messages.specs.declared.body.Step.TheVariants as steps
use Rattle.messages.specs.declared.body.Body.{Body}
use Rattle.messages.specs.declared.body.Body.TheVariants as kinds
use Rattle.messages.specs.declared.body.Proposal.{Proposal}
use Rattle.messages.specs.Grammar.{valid_round_code, proposal_spelling, body_spelling, vote_kind, vote_spelling, IsBody, IsProposal}
use Rattle.messages.specs.Framing.{message_spelling, frame_spelling}
use Rattle.peer_core.specs.Idle.{given_if, some_if, rest_in, idle_in, idle_at, idle_height, IdleLaw}

given_as_some : (b : Bool) (height : ℕ) → result_ok (given_if b height) ≡ some_if b height
given_as_some true height = refl
given_as_some false height = refl

rest_of : (p : Proposal) (rest : List ℕ) → IsProposal p → rest_in (proposal_spelling p ++ rest) ≡ given_if (p.round == 0 && length p.value.txs == 0) p.height
unfolding rest_in proposal_spelling value_spelling
rest_of p rest h =
    let txs = flat_map tx_spelling p.value.txs ++ rest in
    let behind_valid = number_bytes 2 (length p.value.txs) ++ txs in
    let behind_sender = number_bytes 4 (valid_round_code p.valid_round) ++ behind_valid in
    let behind_round = number_bytes 2 p.sender ++ behind_sender in
    let behind_height = number_bytes 4 p.round ++ behind_round in
    let same : (number_bytes 8 p.height ++ (number_bytes 4 p.round ++ (number_bytes 2 p.sender ++ (number_bytes 4 (valid_round_code p.valid_round) ++ (number_bytes 2 (length p.value.txs) ++ flat_map tx_spelling p.value.txs))))) ++ rest ≡ number_bytes 8 p.height ++ behind_height = simp (append_assoc) in
    rw (same, u64_format.again p.height behind_height h.height, u32_format.again p.round behind_round h.round, u16_format.again p.sender behind_sender h.sender, u32_format.again (valid_round_code p.valid_round) behind_valid h.valid_round, u16_format.again (length p.value.txs) txs (omega (arith, h.value.few))) refl

vote_is_none : (s : Step) (text : List ℕ) → result_ok (idle_in (vote_kind s ∷ text)) ≡ idle_height (kinds.Ask (record { height = 0; sender = 0 }))
unfolding idle_in
vote_is_none steps.Prevote text = refl
vote_is_none steps.Precommit text = refl

-- a transaction, of its client's first session or of a later one, is no proposal
tx_is_none : (later : Bool) (text : List ℕ) → result_ok (idle_in (kind_byte later ∷ text)) ≡ idle_height (kinds.Ask (record { height = 0; sender = 0 }))
unfolding idle_in
tx_is_none true text = refl
tx_is_none false text = refl

body_told : (b : Body) (rest : List ℕ) → IsBody b → result_ok (idle_in (body_spelling b ++ rest)) ≡ idle_height b
unfolding idle_in
body_told (kinds.Tx tx) rest h = tx_is_none (is_later tx.session) (tx_fields_spelling tx ++ rest)
body_told (kinds.Proposal p) rest h = ap result_ok (rest_of p rest h) ∙ given_as_some (p.round == 0 && length p.value.txs == 0) p.height
body_told (kinds.Vote v) rest h = vote_is_none v.step (vote_spelling v ++ rest)
body_told (kinds.Ask a) rest h = refl
body_told (kinds.Bundle b) rest h = refl

pub idle_holds : IdleLaw
unfolding idle_at frame_spelling message_spelling
idle_holds frame m s =
    let text = body_spelling m.body ++ tags_spelling m.tags in
    let front : number_at 4 (number_bytes 4 (length text) ++ text) ≡ Ok (length text, text) = u32_format.again (length text) text (omega (arith, s.lawful.short)) in
    let at : number_at 4 frame ≡ Ok (length text, text) = ap (number_at 4) s.same ∙ front in
    rw (at) (body_told m.body (tags_spelling m.tags) s.lawful.body)
