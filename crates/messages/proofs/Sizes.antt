-- How long spellings are at most: a body and its tags always fit a frame.
use Rattle.std.proofs.Common.{◌≡◌, ℕ, zero, suc, ◌+◌, ◌*◌, ◌≤◌, List, [], ◌∷◌, length, Result, Ok, Err, refl, ap, ◌∙◌, arith, length-append}
use Rattle.std.specs.Prelude.{IfOk}
use Rattle.std.specs.Global.{Vec}
use Rattle.std.specs.List.{flat_map, AllByRecursion}
use Rattle.transactions.specs.declared.fault.Fault.{Fault}
use Rattle.transactions.specs.declared.tx.Op.{Op}
use Rattle.transactions.specs.declared.tx.Op.TheVariants.{Bytes, Close}
use Rattle.transactions.specs.declared.tx.Tx.{Tx}
use Rattle.transactions.specs.Grammar.{op_spelling, session_spelling, tx_fields_spelling, tx_body_spelling, tags_spelling, IsOp, IsTxBody, AreTags}
use Rattle.transactions.proofs.Formats.{length-number_bytes, ok_is}
use Rattle.messages.specs.declared.body.Precommit.{Precommit}
use Rattle.messages.specs.declared.body.Body.{Body}
use Rattle.messages.specs.declared.body.Body.TheVariants as kinds
use Rattle.messages.specs.declared.body.Message.{Message}
use Rattle.messages.specs.Grammar.{precommit_spelling, body_spelling, IsPrecommit, IsBody, SpellsBody}
use Rattle.messages.specs.Checking.{body_len}
use Rattle.messages.specs.Framing.{message_spelling, IsMessage}
use Rattle.messages.proofs.Lengths.{content_small, vote_length, ask_length, proposal_length, precommit_length, bundle_length, body_has_length}

op_short : (op : Op) → IsOp op → length (op_spelling op) ≤ 1027
op_short (Bytes contents) h = simp length-append (omega (arith, h, length-number_bytes 2 (length contents)))
op_short Close h = omega arith

session_short : (session : ℕ) → length (session_spelling session) ≤ 4
session_short zero = omega arith
session_short (suc before) = omega (arith, length-number_bytes 4 (suc before))

tx_body_short : (tx : Tx) → IsTxBody tx → length (tx_body_spelling tx) ≤ 1042
unfolding tx_fields_spelling
tx_body_short tx h = simp length-append (omega (arith, op_short tx.op h.op, length-number_bytes 2 tx.client, session_short tx.session, length-number_bytes 8 tx.number))

tags_joined : (tags : List (List ℕ)) → AllByRecursion (λ tag. length tag ≡ 32) tags → length (flat_map (λ tag. tag) tags) ≡ 32 * length tags
tags_joined [] each = refl
tags_joined (tag ∷ tags) each = omega (arith, length-append tag (flat_map (λ t. t) tags), tags_joined tags each.1, each.0)

-- a count, and 32 bytes for each tag
pub length-tags_spelling : (tags : List (List ℕ)) → AllByRecursion (λ tag. length tag ≡ 32) tags → length (tags_spelling tags) ≡ 1 + 32 * length tags
unfolding tags_spelling
length-tags_spelling tags each = omega (arith, tags_joined tags each)

pub tags_short : (tags : List (List ℕ)) → AreTags tags → length (tags_spelling tags) ≤ 4097
tags_short tags h = omega (arith, length-tags_spelling tags h.each, h.few)

precommits_short : (ps : List Precommit) → AllByRecursion IsPrecommit ps → length (flat_map precommit_spelling ps) ≤ 4099 * length ps
precommits_short [] each = omega arith
precommits_short (p ∷ ps) each = omega (arith, length-append (precommit_spelling p) (flat_map precommit_spelling ps), precommit_length p, tags_short p.tags each.0.tags, precommits_short ps each.1)

pub body_short : (body : Body) → IsBody body → length (body_spelling body) ≤ 1024720
body_short (kinds.Tx tx) h = omega (arith, tx_body_short tx h.0)
body_short (kinds.Proposal p) h = omega (arith, proposal_length p, h.value.short)
body_short (kinds.Vote v) h = omega (arith, vote_length v h.content, content_small v.content)
body_short (kinds.Ask a) h = omega (arith, ask_length a)
body_short (kinds.Bundle b) h = omega (arith, bundle_length b h.id, h.value.short, h.few, precommits_short b.precommits h.each)

pub body_len_small : (body : Body) (n : ℕ) → IsBody body → Ok n ≡ body_len body → n ≤ 1024720
body_len_small body n h e = let same = ok_is n (length (body_spelling body)) (e ∙ body_has_length body h) in omega (arith, body_short body h)

pub spelled_short : (body : Body) (r : Result (Vec ℕ) Fault) → IfOk r (λ v. SpellsBody v.items body) → IfOk r (λ v. length v.items ≤ 1024720)
spelled_short body (Ok v) h = omega (arith, ap length h.same, body_short body h.lawful)
spelled_short body (Err e) h = tt

-- what stands in a frame is never too long
pub is_message : (m : Message) → IsBody m.body → AreTags m.tags → IsMessage m
unfolding message_spelling
is_message m body tags = record {
  body = body;
  tags = tags;
  short = omega (arith, body_short m.body body, tags_short m.tags tags, length-append (body_spelling m.body) (tags_spelling m.tags));
}
