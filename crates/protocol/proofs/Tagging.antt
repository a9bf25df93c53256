-- A body with its tags is a message: it is spelled, read again, and its tags are right.
use Rattle.std.proofs.Common.{◌≡◌, ℕ, zero, suc, ◌*◌, ◌<◌, ◌≤◌, inl, inr, true, Option, Some, None, List, [], ◌∷◌, ◌++◌, map, length, flat_map, refl, sym, ◌∙◌, ap, arith, length-append, get_or, eq-eqb}
use Rattle.std.specs.Prelude.{slice_index_or}
use Rattle.std.proofs.lemmas.List.{length-map, map-append, get_or_append_left}
use Rattle.std.proofs.Math.Seq.{get_or-append_seam}
use Rattle.std.proofs.lemmas.Bool.{and_from, cases_eq}
use Rattle.std.proofs.lemmas.Slice.Eq.{bytes_eq-Decides}
use Rattle.std.specs.List.{AllByRecursion}
use Rattle.sha2.proofs.Facts256.{length-sha256}
use Rattle.authenticators.specs.Tags.{hmac, is_right}
use Rattle.transactions.specs.Fields.{number_bytes}
use Rattle.transactions.specs.Grammar.{tx_body_spelling, tx_fields_spelling, session_spelling, op_spelling, value_spelling, tags_spelling, IsOp, IsTxBody, AreTags}
use Rattle.transactions.specs.declared.tx.Op.{Op}
use Rattle.transactions.specs.declared.tx.Op.TheVariants.{Bytes, Close}
use Rattle.transactions.specs.declared.tx.Tx.{Tx}
use Rattle.transactions.proofs.Formats.{length-number_bytes}
use Rattle.messages.specs.Grammar.{body_spelling, proposal_spelling, vote_spelling, ask_spelling, precommit_spelling, precommits_spelling, bundle_head_spelling, bundle_spelling, content_spelling, IsContent, IsProposal, IsVote, IsPrecommit, IsBundle, IsBody, valid_round_code}
use Rattle.messages.specs.Framing.{message_spelling, IsMessage}
use Rattle.messages.proofs.MessageFormats.{frame_again}
use Rattle.protocol.specs.Tags.{Setting, right}
use Rattle.protocol.specs.Messages.{Body, OfTx, OfProposal, OfVote, OfAsk, OfBundle, Proposal, Vote, Ask, Signed, Bundle, sender_of, below, tagged}
use Rattle.protocol.specs.Laws.{TaggedLaw}

-- ---- how long each part is

op_short : (op : Op) → IsOp op → length (op_spelling op) ≤ 1027
op_short (Bytes data_bytes) h = omega (arith, length-append (number_bytes 2 (length data_bytes)) data_bytes, length-number_bytes 2 (length data_bytes))
op_short Close h = omega arith

session_short : (session : ℕ) → length (session_spelling session) ≤ 4
session_short zero = omega arith
session_short (suc before) = omega (arith, length-number_bytes 4 (suc before))

tx_short : (t : Tx) → IsTxBody t → length (tx_body_spelling t) ≤ 1042
unfolding tx_fields_spelling
tx_short t h = omega (
  arith,
  op_short t.op h.op,
  length-append (number_bytes 2 t.client) (session_spelling t.session ++ (number_bytes 8 t.number ++ op_spelling t.op)),
  length-append (session_spelling t.session) (number_bytes 8 t.number ++ op_spelling t.op),
  length-append (number_bytes 8 t.number) (op_spelling t.op),
  length-number_bytes 2 t.client,
  session_short t.session,
  length-number_bytes 8 t.number,
)

tags_joined : (tags : List (List ℕ)) → AllByRecursion (λ tag. length tag ≡ 32) tags → length (flat_map (λ tag. tag) tags) ≡ 32 * length tags
tags_joined [] each = refl
tags_joined (tag ∷ tags) each = omega (arith, length-append tag (flat_map (λ t. t) tags), tags_joined tags each.1, each.0)

tags_short : (tags : List (List ℕ)) → AreTags tags → length (tags_spelling tags) ≤ 4097
unfolding tags_spelling
tags_short tags h = omega (arith, tags_joined tags h.each, h.few)

proposal_short : (q : Proposal) → IsProposal q → length (proposal_spelling q) ≤ 500018
unfolding proposal_spelling
proposal_short q h =
    let code = number_bytes 4 (valid_round_code q.valid_round) in
    let value = value_spelling q.value in
    omega (
      arith,
      h.value.short,
      length-append (number_bytes 8 q.height) (number_bytes 4 q.round ++ (number_bytes 2 q.sender ++ (code ++ value))),
      length-append (number_bytes 4 q.round) (number_bytes 2 q.sender ++ (code ++ value)),
      length-append (number_bytes 2 q.sender) (code ++ value),
      length-append code value,
      length-number_bytes 8 q.height,
      length-number_bytes 4 q.round,
      length-number_bytes 2 q.sender,
      length-number_bytes 4 (valid_round_code q.valid_round),
    )

content_short : (x : Option (List ℕ)) → IsContent x → length (content_spelling x) ≤ 33
content_short None h = omega arith
content_short (Some x) h = omega (arith, h)

vote_short : (v : Vote) → IsVote v → length (vote_spelling v) ≤ 47
unfolding vote_spelling
vote_short v h =
    let content = content_spelling v.content in
    omega (
      arith,
      content_short v.content h.content,
      length-append (number_bytes 8 v.height) (number_bytes 4 v.round ++ (number_bytes 2 v.sender ++ content)),
      length-append (number_bytes 4 v.round) (number_bytes 2 v.sender ++ content),
      length-append (number_bytes 2 v.sender) content,
      length-number_bytes 8 v.height,
      length-number_bytes 4 v.round,
      length-number_bytes 2 v.sender,
    )

ask_short : (a : Ask) → length (ask_spelling a) ≤ 10
unfolding ask_spelling
ask_short a = omega (arith, length-append (number_bytes 8 a.height) (number_bytes 2 a.sender), length-number_bytes 8 a.height, length-number_bytes 2 a.sender)

precommit_short : (s : Signed) → IsPrecommit s → length (precommit_spelling s) ≤ 4099
unfolding precommit_spelling
precommit_short s h = omega (arith, tags_short s.tags h.tags, length-append (number_bytes 2 s.sender) (tags_spelling s.tags), length-number_bytes 2 s.sender)

precommits_joined : (ss : List Signed) → AllByRecursion IsPrecommit ss → length (flat_map precommit_spelling ss) ≤ 4099 * length ss
precommits_joined [] each = omega arith
precommits_joined (s ∷ ss) each = omega (arith, length-append (precommit_spelling s) (flat_map precommit_spelling ss), precommit_short s each.0, precommits_joined ss each.1)

precommits_short : (ss : List Signed) → length ss ≤ 128 → AllByRecursion IsPrecommit ss → length (precommits_spelling ss) ≤ 524673
unfolding precommits_spelling
precommits_short ss few each = omega (arith, precommits_joined ss each, few)

head_short : (b : Bundle) → length b.id ≡ 32 → length (bundle_head_spelling b) ≡ 46
unfolding bundle_head_spelling
head_short b h = omega (
  arith,
  h,
  length-append (number_bytes 8 b.height) (number_bytes 2 b.sender ++ (number_bytes 4 b.round ++ b.id)),
  length-append (number_bytes 2 b.sender) (number_bytes 4 b.round ++ b.id),
  length-append (number_bytes 4 b.round) b.id,
  length-number_bytes 8 b.height,
  length-number_bytes 2 b.sender,
  length-number_bytes 4 b.round,
)

bundle_short : (b : Bundle) → IsBundle b → length (bundle_spelling b) ≤ 1024719
unfolding bundle_spelling
bundle_short b h = omega (
  arith,
  h.value.short,
  precommits_short b.precommits h.few h.each,
  head_short b h.id,
  length-append (bundle_head_spelling b) (value_spelling b.value ++ precommits_spelling b.precommits),
  length-append (value_spelling b.value) (precommits_spelling b.precommits),
)

body_short : (b : Body) → IsBody b → length (body_spelling b) ≤ 1024720
body_short (OfTx t) h = omega (arith, tx_short t h.0)
body_short (OfProposal q) h = omega (arith, proposal_short q h)
body_short (OfVote v) h = omega (arith, vote_short v h)
body_short (OfAsk a) h = omega (arith, ask_short a)
body_short (OfBundle b) h = omega (arith, bundle_short b h)

-- ---- the tags

length-below : (n : ℕ) → length (below n) ≡ n
unfolding below
length-below zero = refl
length-below (suc n) = omega (arith, length-append (below n) (n ∷ []), length-below n)

length-hmac : (key text : List ℕ) → length (hmac key text) ≡ 32
unfolding hmac
length-hmac key text = length-sha256 _

each_long : (f : ℕ → List ℕ) → ((q : ℕ) → length (f q) ≡ 32) → (qs : List ℕ) → AllByRecursion (λ tag. length tag ≡ 32) (map f qs)
each_long f long [] = tt
each_long f long (q ∷ qs) = (long q, each_long f long qs)

module _ (f : ℕ → List ℕ) where
  length-tags : (n : ℕ) → length (map f (below n)) ≡ n
  length-tags n = length-map (below n) f ∙ length-below n

  tag_at : (n q : ℕ) → q < n → slice_index_or (map f (below n)) q [] ≡ f q
  unfolding below
  tag_at zero q h = absurd (omega arith)
  tag_at (suc n) q h =
      let front = map f (below n) in
      let parts : get_or (map f (below n ++ n ∷ [])) q [] ≡ get_or (front ++ f n ∷ []) q [] = ap (λ l. get_or l q []) (map-append f (below n) (n ∷ [])) in
      let size : length front ≡ n = length-tags n in
      elim (cases_eq q n) [
        | inl e ↦ parts ∙ ap (λ i. get_or (front ++ f n ∷ []) i []) (e ∙ sym size) ∙ get_or-append_seam front (f n) [] [] ∙ ap f (sym e)
        | inr e ↦ parts ∙ get_or_append_left front (f n ∷ []) [] q (omega arith) ∙ tag_at n q (omega arith)
      ]

pub tagged_tags : (c : Setting) (b : Body) → 1 ≤ length c.powers → length c.powers ≤ 128 → AreTags (tagged c b).tags
unfolding tagged
tagged_tags c b one few =
    let f : ℕ → List ℕ = λ q. hmac (c.key (sender_of b) q) (body_spelling b) in
    let size : length (map f (below (length c.powers))) ≡ length c.powers = length-tags f (length c.powers) in
    record { some = omega arith; few = omega arith; each = each_long f (λ q. length-hmac _ _) (below (length c.powers)) }

is_message : (c : Setting) (b : Body) → 1 ≤ length c.powers → length c.powers ≤ 128 → IsBody b → IsMessage (tagged c b)
unfolding tagged message_spelling
is_message c b one few h =
    let tags = tagged_tags c b one few in
    record { body = h; tags = tags; short = omega (arith, body_short b h, tags_short (tagged c b).tags tags, length-append (body_spelling b) (tags_spelling (tagged c b).tags)) }

pub all_right : (c : Setting) (b : Body) (q : ℕ) → q < length c.powers → right c q (sender_of b) (body_spelling b) (tagged c b).tags ≡ true
unfolding tagged right is_right
all_right c b q h =
    let f : ℕ → List ℕ = λ r. hmac (c.key (sender_of b) r) (body_spelling b) in
    and_from _ _ (eq-eqb _ _ (length-tags f (length c.powers))) ((bytes_eq-Decides _ _).1 (tag_at f (length c.powers) q h))

pub tagged_law : TaggedLaw
tagged_law c b one few h = let m = is_message c b one few h in (m, frame_again (tagged c b) m, λ q l. all_right c b q l)
