-- What a message's frame tells at its front.
use Rattle.std.proofs.Common.{◌≡◌, ℕ, Bool, true, false, ◌^◌, ◌<◌, List, ◌∷◌, ◌++◌, length, Ok, Err, refl, ap, ◌∙◌, append_assoc, arith}
use Rattle.transactions.specs.Fields.{number_bytes, number_at, byte_at}
use Rattle.transactions.specs.declared.fault.Fault.TheVariants.{BadKind}
use Rattle.transactions.specs.Grammar.{kind_byte, is_later, tx_fields_spelling, value_spelling, tags_spelling}
use Rattle.transactions.proofs.Formats.{u16_format, u32_format, u64_format}
use Rattle.messages.specs.declared.body.Step.{Step}
use Rattle.messages.specs.declared.body.Step.TheVariants as steps
use Rattle.messages.specs.declared.body.Body.{Body}
use Rattle.messages.specs.declared.body.Body.TheVariants as kinds
use Rattle.messages.specs.Grammar.{valid_round_code, content_spelling, proposal_spelling, vote_spelling, ask_spelling, precommits_spelling, bundle_head_spelling, bundle_spelling, body_spelling, vote_kind as vote_byte, IsBody}
use Rattle.messages.specs.Framing.{message_spelling, frame_spelling}
use Rattle.peer_core.specs.declared.heading.Kind.{Kind}
use Rattle.peer_core.specs.declared.heading.Kind.TheVariants.{Proposal, Ask, Bundle}
use Rattle.peer_core.specs.Heading.{kind_of, vote_kind, behind_round, sender_at, heading_in, heading_at, heading_of, is_of_client, is_transaction, HeadingsLaw}

-- the sender behind a round
sender_behind : (round sender : ℕ) (text : List ℕ) → round < 256 ^ 4 → sender < 256 ^ 2 → behind_round (number_bytes 4 round ++ (number_bytes 2 sender ++ text)) ≡ Ok (sender, text)
unfolding behind_round
sender_behind round sender text r s = rw (u32_format.again round (number_bytes 2 sender ++ text) r, u16_format.again sender text s) refl

-- a kind, a height, and what tells the sender
told : (byte height sender : ℕ) (kind : Kind) (text after : List ℕ) → kind_of byte ≡ Ok kind → height < 256 ^ 8 → sender_at kind text ≡ Ok (sender, after) → heading_in (byte ∷ (number_bytes 8 height ++ text)) ≡ Ok (record { kind = kind; height = height; sender = sender })
unfolding heading_in
told byte height sender kind text after k h s = rw (k, u64_format.again height text h, s) refl

byte_of_vote : (s : Step) → kind_of (vote_byte s) ≡ Ok (vote_kind s)
byte_of_vote steps.Prevote = refl
byte_of_vote steps.Precommit = refl

sender_of_vote : (s : Step) (text : List ℕ) → sender_at (vote_kind s) text ≡ behind_round text
sender_of_vote steps.Prevote text = refl
sender_of_vote steps.Precommit text = refl

-- a transaction, of its client's first session or of a later one, has no heading
none_told : (later : Bool) (text : List ℕ) → heading_in (kind_byte later ∷ text) ≡ Err BadKind
unfolding heading_in
none_told true text = refl
none_told false text = refl

tx_is_one : (later : Bool) (text : List ℕ) → is_of_client (byte_at (kind_byte later ∷ text)) ≡ true
tx_is_one true text = refl
tx_is_one false text = refl

body_told : (b : Body) (rest : List ℕ) → IsBody b → heading_in (body_spelling b ++ rest) ≡ heading_of b
unfolding heading_in proposal_spelling vote_spelling ask_spelling bundle_spelling bundle_head_spelling
body_told (kinds.Tx tx) rest h = none_told (is_later tx.session) (tx_fields_spelling tx ++ rest)
body_told (kinds.Proposal p) rest h =
    let tail = (number_bytes 4 (valid_round_code p.valid_round) ++ value_spelling p.value) ++ rest in
    let same : (number_bytes 8 p.height ++ (number_bytes 4 p.round ++ (number_bytes 2 p.sender ++ (number_bytes 4 (valid_round_code p.valid_round) ++ value_spelling p.value)))) ++ rest ≡ number_bytes 8 p.height ++ (number_bytes 4 p.round ++ (number_bytes 2 p.sender ++ tail)) = simp (append_assoc) in
    ap (λ (w : List ℕ). heading_in (0x10 ∷ w)) same ∙ told 0x10 p.height p.sender Proposal (number_bytes 4 p.round ++ (number_bytes 2 p.sender ++ tail)) tail refl h.height (sender_behind p.round p.sender tail h.round h.sender)
body_told (kinds.Vote v) rest h =
    let tail = content_spelling v.content ++ rest in
    let text = number_bytes 4 v.round ++ (number_bytes 2 v.sender ++ tail) in
    let same : (number_bytes 8 v.height ++ (number_bytes 4 v.round ++ (number_bytes 2 v.sender ++ content_spelling v.content))) ++ rest ≡ number_bytes 8 v.height ++ text = simp (append_assoc) in
    ap (λ (w : List ℕ). heading_in (vote_byte v.step ∷ w)) same ∙ told (vote_byte v.step) v.height v.sender (vote_kind v.step) text tail (byte_of_vote v.step) h.height (sender_of_vote v.step text ∙ sender_behind v.round v.sender tail h.round h.sender)
body_told (kinds.Ask a) rest h =
    let same : (number_bytes 8 a.height ++ number_bytes 2 a.sender) ++ rest ≡ number_bytes 8 a.height ++ (number_bytes 2 a.sender ++ rest) = append_assoc (number_bytes 8 a.height) (number_bytes 2 a.sender) rest in
    ap (λ (w : List ℕ). heading_in (0x13 ∷ w)) same ∙ told 0x13 a.height a.sender Ask (number_bytes 2 a.sender ++ rest) rest refl h.height (u16_format.again a.sender rest h.sender)
body_told (kinds.Bundle b) rest h =
    let tail = ((number_bytes 4 b.round ++ b.id) ++ (value_spelling b.value ++ precommits_spelling b.precommits)) ++ rest in
    let same : ((number_bytes 8 b.height ++ (number_bytes 2 b.sender ++ (number_bytes 4 b.round ++ b.id))) ++ (value_spelling b.value ++ precommits_spelling b.precommits)) ++ rest ≡ number_bytes 8 b.height ++ (number_bytes 2 b.sender ++ tail) = simp (append_assoc) in
    ap (λ (w : List ℕ). heading_in (0x14 ∷ w)) same ∙ told 0x14 b.height b.sender Bundle (number_bytes 2 b.sender ++ tail) tail refl h.height (u16_format.again b.sender tail h.sender)

vote_is_none : (s : Step) (rest : List ℕ) → is_of_client (byte_at (vote_byte s ∷ rest)) ≡ false
vote_is_none steps.Prevote rest = refl
vote_is_none steps.Precommit rest = refl

first_byte : (b : Body) (rest : List ℕ) → is_of_client (byte_at (body_spelling b ++ rest)) ≡ is_transaction b
first_byte (kinds.Tx tx) rest = tx_is_one (is_later tx.session) (tx_fields_spelling tx ++ rest)
first_byte (kinds.Proposal p) rest = refl
first_byte (kinds.Vote v) rest = vote_is_none v.step (vote_spelling v ++ rest)
first_byte (kinds.Ask a) rest = refl
first_byte (kinds.Bundle b) rest = refl

pub headings_hold : HeadingsLaw
unfolding heading_at frame_spelling message_spelling
headings_hold frame m s =
    let text = body_spelling m.body ++ tags_spelling m.tags in
    let front : number_at 4 (number_bytes 4 (length text) ++ text) ≡ Ok (length text, text) = u32_format.again (length text) text (omega (arith, s.lawful.short)) in
    let at : number_at 4 frame ≡ Ok (length text, text) = ap (number_at 4) s.same ∙ front in (
      rw (at) (body_told m.body (tags_spelling m.tags) s.lawful.body),
      rw (at) (first_byte m.body (tags_spelling m.tags)),
    )
