-- What fits has a length, which is that of its spelling.
use Rattle.std.proofs.Common.{◌≡◌, ℕ, ◌+◌, ◌<◌, ◌≤◌, List, [], ◌∷◌, length, drop, get_or, Option, Some, None, Result, Ok, Err, refl, sym, ap, ◌∙◌, arith, length-append}
use Rattle.std.specs.Prelude.{IfOk, OnOk}
use Rattle.std.specs.Global.{Vec}
use Rattle.std.specs.List.{flat_map, AllByRecursion}
use Rattle.std.proofs.lemmas.Bool.{lt-ltb, le-leb}
use Rattle.std.proofs.lemmas.List.{drop_more, drop_all}
use Rattle.transactions.specs.declared.fault.Fault.{Fault}
use Rattle.transactions.specs.declared.tx.Tx.{Tx}
use Rattle.transactions.specs.Fields.{◌>>=◌, Gives}
use Rattle.transactions.specs.Grammar.{tx_body_spelling, value_spelling, tags_spelling, IsTxBody}
use Rattle.transactions.proofs.Formats.{length-number_bytes, bind_ok, ok_is}
use Rattle.transactions.proofs.Lengths.{tags_have_length, value_has_length, tx_body_has_length}
use Rattle.messages.specs.declared.body.Proposal.{Proposal}
use Rattle.messages.specs.declared.body.Vote.{Vote}
use Rattle.messages.specs.declared.body.Ask.{Ask}
use Rattle.messages.specs.declared.body.Precommit.{Precommit}
use Rattle.messages.specs.declared.body.Bundle.{Bundle}
use Rattle.messages.specs.declared.body.Body.{Body}
use Rattle.messages.specs.declared.body.Body.TheVariants as kinds
use Rattle.messages.specs.Grammar.{valid_round_code, content_spelling, proposal_spelling, vote_spelling, ask_spelling, precommit_spelling, precommits_spelling, bundle_head_spelling, bundle_spelling, body_spelling, IsContent, IsProposal, IsPrecommit, IsBundle, IsBody, SpellsBody}
use Rattle.messages.specs.Checking.{bare_tx_len, proposal_len, content_len, precommit_len, precommits_len, bundle_len, body_len, body_spelled}

-- ---- the precommits of a bundle, as the loop goes over them

-- the bytes so far, and those that follow
abbrev pub plus : ℕ → Result ℕ Fault → Result ℕ Fault
plus so_far others = others >>= λ n. Ok (so_far + n)

pub plus_zero : (r : Result ℕ Fault) → plus 0 r ≡ r
plus_zero (Ok n) = ap (λ (k : ℕ). Ok k) (omega arith)
plus_zero (Err e) = refl

plus_plus : (a b : ℕ) (r : Result ℕ Fault) → plus a (plus b r) ≡ plus (a + b) r
plus_plus a b (Ok n) = ap (λ (k : ℕ). Ok k) (omega arith)
plus_plus a b (Err e) = refl

abbrev rest_len : Result ℕ Fault → List Precommit → Result ℕ Fault
rest_len first ps = first >>= λ n. plus n (precommits_len ps)

module _ (so_far i : ℕ) (ps : List Precommit) (p : Precommit) (total : Result ℕ Fault) (lt : i < length ps) (is : p ≡ get_or ps i p) (so_good : plus so_far (precommits_len (drop i ps)) ≡ total) where
  step : plus so_far (rest_len (precommit_len p) (drop (i + 1) ps)) ≡ total
  unfolding precommits_len
  step =
      let e : drop i ps ≡ p ∷ drop (i + 1) ps = drop_more ps i p lt ∙ ap (λ (q : Precommit). q ∷ drop (i + 1) ps) (sym is) in
      sym (ap (λ (qs : List Precommit). plus so_far (precommits_len qs)) e) ∙ so_good

  pub precommits_fail : (e : Fault) → Err e ≡ precommit_len p → Err e ≡ total
  precommits_fail e h = ap (λ (r : Result ℕ Fault). plus so_far (rest_len r (drop (i + 1) ps))) h ∙ step

  pub precommits_more : (len : ℕ) → Ok len ≡ precommit_len p → plus (so_far + len) (precommits_len (drop (i + 1) ps)) ≡ total
  precommits_more len h = sym (plus_plus so_far len (precommits_len (drop (i + 1) ps))) ∙ ap (λ (r : Result ℕ Fault). plus so_far (rest_len r (drop (i + 1) ps))) h ∙ step

pub precommits_done : (so_far i : ℕ) (ps : List Precommit) (total : Result ℕ Fault) → length ps ≤ i → plus so_far (precommits_len (drop i ps)) ≡ total → Ok so_far ≡ total
unfolding precommits_len
precommits_done so_far i ps total le so_good =
    let e : plus so_far (precommits_len (drop i ps)) ≡ Ok (so_far + 0) = ap (λ (qs : List Precommit). plus so_far (precommits_len qs)) (drop_all i ps le) in
    ap (λ (k : ℕ). Ok k) (omega arith) ∙ sym e ∙ so_good

-- ---- what fits has a length

bare_tx_has_length : (tx : Tx) → IsTxBody tx × (tx.tags ≡ []) → bare_tx_len tx ≡ Ok (length (tx_body_spelling tx))
unfolding bare_tx_len
bare_tx_has_length tx h = rw (tx_body_has_length tx h.0, h.1) refl

pub proposal_length : (p : Proposal) → length (proposal_spelling p) ≡ 18 + length (value_spelling p.value)
unfolding proposal_spelling
proposal_length p = simp length-append (omega (arith, length-number_bytes 8 p.height, length-number_bytes 4 p.round, length-number_bytes 2 p.sender, length-number_bytes 4 (valid_round_code p.valid_round)))

proposal_has_length : (p : Proposal) → IsProposal p → proposal_len p ≡ Ok (length (proposal_spelling p))
unfolding proposal_len
proposal_has_length p h = rw (lt-ltb _ _ h.valid_round, value_has_length p.value h.value) (ap (λ (n : ℕ). Ok n) (sym (proposal_length p)))

pub content_small : (content : Option (List ℕ)) → content_len content ≤ 33
content_small None = omega arith
content_small (Some id) = omega arith

content_length : (content : Option (List ℕ)) → IsContent content → content_len content ≡ length (content_spelling content)
content_length None h = refl
content_length (Some id) h = omega (arith, h)

pub vote_length : (v : Vote) → IsContent v.content → 14 + content_len v.content ≡ length (vote_spelling v)
unfolding vote_spelling
vote_length v h = simp length-append (omega (arith, content_length v.content h, length-number_bytes 8 v.height, length-number_bytes 4 v.round, length-number_bytes 2 v.sender))

pub ask_length : (a : Ask) → 10 ≡ length (ask_spelling a)
unfolding ask_spelling
ask_length a = simp length-append (omega (arith, length-number_bytes 8 a.height, length-number_bytes 2 a.sender))

pub precommit_length : (p : Precommit) → length (precommit_spelling p) ≡ 2 + length (tags_spelling p.tags)
unfolding precommit_spelling
precommit_length p = simp length-append (omega (arith, length-number_bytes 2 p.sender))

precommit_has_length : (p : Precommit) → IsPrecommit p → precommit_len p ≡ Ok (length (precommit_spelling p))
unfolding precommit_len
precommit_has_length p h = rw (tags_have_length p.tags h.tags) (ap (λ (n : ℕ). Ok n) (sym (precommit_length p)))

precommits_have_length : (ps : List Precommit) → AllByRecursion IsPrecommit ps → precommits_len ps ≡ Ok (length (flat_map precommit_spelling ps))
unfolding precommits_len
precommits_have_length [] h = refl
precommits_have_length (p ∷ ps) h =
    rw (precommit_has_length p h.0, precommits_have_length ps h.1) (ap (λ (n : ℕ). Ok n) (sym (length-append (precommit_spelling p) (flat_map precommit_spelling ps))))

pub bundle_length : (b : Bundle) → length b.id ≡ 32 → length (bundle_spelling b) ≡ 47 + length (value_spelling b.value) + length (flat_map precommit_spelling b.precommits)
unfolding bundle_spelling bundle_head_spelling precommits_spelling
bundle_length b h = simp length-append (omega (arith, h, length-number_bytes 8 b.height, length-number_bytes 2 b.sender, length-number_bytes 4 b.round))

bundle_has_length : (b : Bundle) → IsBundle b → bundle_len b ≡ Ok (length (bundle_spelling b))
unfolding bundle_len
bundle_has_length b h =
    rw (value_has_length b.value h.value, le-leb _ _ h.few, precommits_have_length b.precommits h.each) (ap (λ (n : ℕ). Ok n) (sym (bundle_length b h.id)))

pub body_has_length : (body : Body) → IsBody body → body_len body ≡ Ok (length (body_spelling body))
unfolding body_len
body_has_length (kinds.Tx tx) h = bare_tx_has_length tx h
body_has_length (kinds.Proposal p) h = rw (proposal_has_length p h) (ap (λ (n : ℕ). Ok n) (omega arith))
body_has_length (kinds.Vote v) h = ap (λ (n : ℕ). Ok n) (omega (arith, vote_length v h.content))
body_has_length (kinds.Ask a) h = ap (λ (n : ℕ). Ok n) (omega (arith, ask_length a))
body_has_length (kinds.Bundle b) h = rw (bundle_has_length b h) (ap (λ (n : ℕ). Ok n) (omega arith))

-- ---- what is spelled

pub body_only : (body : Body) (bytes : List ℕ) → SpellsBody bytes body → body_spelled body ≡ Ok bytes
unfolding body_spelled
body_only body bytes h = rw (body_has_length body h.lawful, ← h.same) refl

pub body_spelled_is : (body : Body) (n : ℕ) → body_len body ≡ Ok n → body_spelled body ≡ Ok (body_spelling body)
unfolding body_spelled
body_spelled_is body n e = rw e refl

pub body_ok : (body : Body) (r : Result (Vec ℕ) Fault) → OnOk r (IsBody body) → Gives (λ v. v.items) r (body_spelled body) → IfOk r (λ v. SpellsBody v.items body)
unfolding body_spelled
body_ok body (Ok v) fits given =
    let a = bind_ok (body_len body) (λ len. Ok (body_spelling body)) v.items given in
    record { lawful = fits; same = sym (ok_is (body_spelling body) v.items a.2) }
body_ok body (Err e) fits given = tt
