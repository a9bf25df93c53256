-- What is read was spelled so, and what is spelled alike is the same.
use Rattle.std.proofs.Common.{◌≡◌, ℕ, List, [], ◌++◌, refl, sym, ◌∙◌, ap, subst, Result, Ok}
use Rattle.std.proofs.lemmas.List.{append-nil}
use Rattle.transactions.specs.Grammar.{tx_fields_spelling, tx_body_spelling, value_spelling, IsTxBody, IsValue}
use Rattle.transactions.proofs.TxFormats.{tx_body_format, value_format}
use Rattle.messages.specs.Grammar.{body_spelling, IsBody}
use Rattle.messages.specs.Framing.{message_of}
use Rattle.messages.proofs.BodyFormats.{body_format}
use Rattle.transactions.proofs.Formats.{IsFormat, ok_is}
use Rattle.transactions.specs.Fields.{Read}
use Rattle.protocol.specs.Values.{Tx, Value, Item, item}
use Rattle.protocol.specs.Messages.{Body, OfTx, OfProposal, OfVote, OfAsk, OfBundle, Message}
use Rattle.protocol.specs.Premises.{BodyHas}
use Rattle.protocol.proofs.Frames.{frame_law}
use Rattle.message_laws.specs.Heard.{AreBytes, ReadLaw, ApartLaw}

pub read_law : ReadLaw
read_law bytes m fits e = ((frame_law bytes m fits).0 e).same

-- what is read has a spelling
pub read_in_range : (bytes : List ℕ) (m : Message) → AreBytes bytes → message_of bytes ≡ Ok m → IsBody m.body
read_in_range bytes m fits e = ((frame_law bytes m fits).0 e).lawful.body

-- what a format reads again can't be spelled in another way
apart : {T : Type 0} {F : T → Type 0} {spelling : T → List ℕ} {read : List ℕ → Read T} → IsFormat F spelling read → (x y : T) → F x → F y → spelling x ≡ spelling y → x ≡ y
apart {spelling = spelling} {read = read} format x y fits other e =
    let one : read (spelling x ++ []) ≡ Ok (x, []) = format.again x [] fits in
    let two : read (spelling y ++ []) ≡ Ok (y, []) = format.again y [] other in
    ap (λ p. p.0) (ok_is (x, []) (y, []) (sym one ∙ ap (λ (text : List ℕ). read (text ++ [])) e ∙ two))

value_in : (b : Body) (v : Value) → IsBody b → BodyHas v b → IsValue v
value_in (OfProposal q) v h e = subst IsValue e h.value
value_in (OfBundle b) v h e = subst IsValue e h.value
value_in (OfTx t) v h e = absurd e
value_in (OfVote u) v h e = absurd e
value_in (OfAsk a) v h e = absurd e

-- a transaction's body leaves its tags out
abbrev untagged : Tx → Tx
untagged t = record t { tags = [] }

untagged_fits : (t : Tx) → IsTxBody t → IsTxBody (untagged t) × ((untagged t).tags ≡ [])
untagged_fits t h = (record { client = h.client; session = h.session; first = h.first; last = h.last; op = h.op }, refl)

spelled_untagged : (t : Tx) → tx_body_spelling (untagged t) ≡ tx_body_spelling t
unfolding tx_fields_spelling
spelled_untagged t = refl

txs_apart : (t u : Tx) → IsTxBody t → IsTxBody u → tx_body_spelling t ≡ tx_body_spelling u → item t ≡ item u
txs_apart t u h k e =
    let same : untagged t ≡ untagged u = apart tx_body_format (untagged t) (untagged u) (untagged_fits t h) (untagged_fits u k) (spelled_untagged t ∙ e ∙ sym (spelled_untagged u)) in
    ap item same

pub apart_law : ApartLaw
apart_law = (
  λ bytes other m n fits fits' e e'.
      let h = read_in_range bytes m fits e in
      let k = read_in_range other n fits' e' in
      (λ same. apart body_format m.body n.body h k same, λ v u has has' same. apart value_format v u (value_in m.body v h has) (value_in n.body u k has') same),
  txs_apart,
)
