-- Whose record a content is, is told by the body in it.
use Rattle.std.proofs.Common.{◌≡◌, ℕ, List, ◌∷◌, ◌++◌, take, Some, None, refl, sym, ap, subst, ◌∙◌}
use Rattle.transactions.specs.Grammar.{value_spelling}
use Rattle.messages.specs.Grammar.{body_spelling, IsBody, SpellsBody}
use Rattle.protocol.specs.Values.{id}
use Rattle.protocol.specs.Messages.{Body, OfVote, OfBundle, Proposing, Prevoting, Precommitting, Record, Own, Decided, precommit, body_of}
use Rattle.vote_journal.specs.Grammar.{Spells}
use Rattle.vote_journal.proofs.RecordFormats.{lock_parts, same_body}
use Rattle.journal_reader.specs.Entries.{sender_of, front_body}

-- the body in a record's content is its validator's
record HasBody (me : ℕ) (content : List ℕ) : Type 0 where
  body : Body
  spelled : SpellsBody (front_body content) body
  sender : sender_of body ≡ me

plain_body : (me kind : ℕ) (content : List ℕ) (body : Body) → IsBody body → front_body content ≡ body_spelling body → sender_of body ≡ me → HasBody me content
plain_body me kind content body lawful same sender = record { body = body; spelled = record { lawful = lawful; same = same }; sender = sender }

body_in_record : (me : ℕ) (content : List ℕ) (r : Record) → Spells me content r → HasBody me content
body_in_record me content (Own height round (Proposing valid value)) s = plain_body me 1 content (body_of me height round (Proposing valid value)) s.lawful.0 (ap front_body s.same) refl
body_in_record me content (Own height round (Prevoting vote)) s = plain_body me 1 content (body_of me height round (Prevoting vote)) s.lawful.0 (ap front_body s.same) refl
body_in_record me content (Own height round (Precommitting None)) s = plain_body me 1 content (body_of me height round (Precommitting None)) s.lawful.0 (ap front_body s.same) refl
body_in_record me content (Own height round (Precommitting (Some value))) s =
    let bytes = body_spelling (OfVote (precommit height round me (Some (id value)))) ++ value_spelling value in
    let p = lock_parts me bytes (Own height round (Precommitting (Some value))) (record { lawful = s.lawful; same = refl }) in
    record {
      body = OfVote (precommit p.height p.round me (Some (id p.value)));
      spelled = subst (λ (w : List ℕ). SpellsBody w (OfVote (precommit p.height p.round me (Some (id p.value))))) (sym (ap front_body s.same)) p.vote;
      sender = refl;
    }
body_in_record me content (Decided bundle) s = plain_body me 3 content (OfBundle bundle) s.lawful.fits (ap front_body s.same) s.lawful.sender

pub owner_found : (content : List ℕ) (body : Body) → SpellsBody (front_body content) body → (me : ℕ) (r : Record) → Spells me content r → me ≡ sender_of body
owner_found content body s me r t =
    let p = body_in_record me content r t in
    sym p.sender ∙ ap sender_of (sym (same_body (front_body content) body p.body s p.spelled.lawful p.spelled.same))

pub owner_none : (content : List ℕ) → ((body : Body) → SpellsBody (front_body content) body → ⊥) → (me : ℕ) (r : Record) → Spells me content r → ⊥
owner_none content absent me r t = let p = body_in_record me content r t in absent p.body p.spelled
