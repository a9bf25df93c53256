-- The format of replies.
use Rattle.std.proofs.Common.{◌≡◌, ℕ, ◌<◌, ◌≤◌, true, eqb, leb, List, [], ◌∷◌, ◌++◌, length, Result, Ok, Err, refl, sym, ap, ◌∙◌, arith, inl, inr, lit<, lit≤}
use Rattle.std.specs.Prelude.{IfOk}
use Rattle.std.proofs.lemmas.Bool.{eqb-true, eq-eqb, ne_eqb, leb-true, le-leb, and_parts, and_from, cases_eq}
use Rattle.transactions.specs.declared.fault.Fault.{Fault}
use Rattle.transactions.specs.declared.fault.Fault.TheVariants.{BadSpelling, BadKind}
use Rattle.transactions.specs.Fields.{number_bytes, whole}
use Rattle.transactions.proofs.Formats.{IsBytes, IsFormat, bind_ok, fits_as, built, checked, field, field_that_fits, byte_format}
use Rattle.transactions.proofs.TxFormats.{whole_found}
use Rattle.messages.specs.declared.replies.Reply.{Reply}
use Rattle.messages.specs.Framing.{content_of}
use Rattle.messages.specs.Replies.{goes_with, reply_at, reply_of, reply_spelling, IsReply, SpellsReply}
use Rattle.messages.proofs.MessageFormats.{content_again, content_found}

-- ---- the two numbers

is_reply : (r : Reply) → r.code ≤ 17 → goes_with r.code r.inner ≡ true → IsReply r
is_reply r most e =
    elim (cases_eq r.code 13) [
      | inl is ↦
          let p = and_parts _ _ (rw (eq-eqb _ _ is) at e) in
          record { code = most; not_queued = λ h. (leb-true _ _ p.0, leb-true _ _ p.1); other = λ h. absurd (h is) }
      | inr not ↦ record { code = most; not_queued = λ h. absurd (not h); other = λ h. eqb-true _ _ (rw (ne_eqb _ _ not) at e) }
    ]

numbers_go : (r : Reply) → IsReply r → goes_with r.code r.inner ≡ true
numbers_go r h =
    elim (cases_eq r.code 13) [
      | inl is ↦ let s = h.not_queued is in rw (eq-eqb _ _ is) (and_from _ _ (le-leb _ _ s.0) (le-leb _ _ s.1))
      | inr not ↦ rw (ne_eqb _ _ not) (eq-eqb _ _ (h.other not))
    ]

inner_small : (r : Reply) → IsReply r → r.inner < 256
inner_small r h =
    elim (cases_eq r.code 13) [
      | inl is ↦ let s = h.not_queued is in omega arith
      | inr not ↦ let s = h.other not in omega arith
    ]

-- ---- the content of the frame

reply_format : IsFormat IsReply (λ r. 0x20 ∷ r.code ∷ r.inner ∷ []) reply_at
unfolding reply_at
reply_format =
    let kind_format = checked (λ k. eqb k 0x20) (λ k. k ≡ 0x20) BadKind (λ k e. eqb-true _ _ e) (λ k h. eq-eqb _ _ h) byte_format in
    let code_format = checked (λ c. leb c 17) (λ c. c ≤ 17) BadSpelling (λ c e. leb-true _ _ e) (λ c h. le-leb _ _ h) byte_format in
    let fields = field_that_fits {C = λ (r : Reply). Unit {0}} (λ (r : Reply). 0x20) kind_format λ kind is_kind.
    field (λ (r : Reply). r.code) code_format λ code.
    fits_as (λ (r : Reply). ((code ≡ r.code) × ((kind ≡ 0x20) × Unit {0})) × (((r.inner < 256) × (goes_with r.code r.inner ≡ true)) × Unit {0}))
    (field (λ (r : Reply). r.inner) (checked (goes_with code) (λ i. goes_with code i ≡ true) BadSpelling (λ i e. e) (λ i e. e) byte_format) λ inner.
    built (record { code = code; inner = inner }) _ (refl, (refl, (is_kind.1, tt))) (λ t h. rw (h.0, h.1.0) refl))
    (λ r h. (h.0, ((h.1.0.0, rw (← h.0.0) h.1.0.1), tt)))
    (λ r h. (h.0, ((h.1.0.0, rw h.0.0 h.1.0.1), tt))) in
    fits_as IsReply fields (λ r h. is_reply r h.1.1.0.1 h.1.1.1.0.1)
    (λ r h. (tt, ((lit< tt, refl), ((omega (arith, h.code), h.code), ((inner_small r h, numbers_go r h), tt)))))

-- ---- the frame

reply_framed : (r : Reply) → reply_spelling r ≡ number_bytes 4 3 ++ (0x20 ∷ r.code ∷ r.inner ∷ [])
unfolding number_bytes
reply_framed r = refl

pub reply_again : (bytes : List ℕ) (r : Reply) → SpellsReply bytes r → reply_of bytes ≡ Ok r
unfolding reply_of whole
reply_again bytes r h =
    let content = 0x20 ∷ r.code ∷ r.inner ∷ [] in
    let front : content_of bytes ≡ Ok content = ap content_of (h.same ∙ reply_framed r) ∙ content_again content (lit≤ tt) in
    rw (front, reply_format.again r [] h.lawful) refl

pub reply_found : (bytes : List ℕ) (r : Reply) → IsBytes bytes → reply_of bytes ≡ Ok r → SpellsReply bytes r
unfolding reply_of
reply_found bytes r fits e =
    let a = bind_ok (content_of bytes) (λ content. whole (reply_at content)) r e in
    let f = content_found bytes a.0 fits a.1 in
    let v = whole_found reply_format a.0 (Ok r) f.fits a.2 in
    record { lawful = v.0; same = f.same ∙ ap (λ (content : List ℕ). number_bytes 4 (length content) ++ content) v.1 ∙ sym (reply_framed r) }

pub reply_if_found : (bytes : List ℕ) (result : Result Reply Fault) → IsBytes bytes → result ≡ reply_of bytes → IfOk result (λ r. SpellsReply bytes r)
reply_if_found bytes (Ok r) fits e = reply_found bytes r fits (sym e)
reply_if_found bytes (Err f) fits e = tt
