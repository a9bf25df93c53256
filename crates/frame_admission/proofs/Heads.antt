-- Where in the body of a proposal its value stands.
use Rattle.std.proofs.Common.{◌≡◌, ℕ, ◌≤◌, List, ◌∷◌, ◌++◌, length, drop, sym, ap, ◌∙◌, arith, append_assoc, length-append}
use Rattle.std.proofs.Transfers.{drop-appended}
use Rattle.sha2.specs.Sha256.{sha256}
use Rattle.transactions.specs.Fields.{number_bytes}
use Rattle.transactions.specs.Grammar.{value_spelling}
use Rattle.transactions.proofs.Formats.{length-number_bytes}
use Rattle.messages.specs.Grammar.{body_spelling, valid_round_code, proposal_spelling}
use Rattle.protocol.specs.Values.{id}
use Rattle.protocol.specs.Messages.{Proposal, OfProposal}

-- the bytes before the value
abbrev head : Proposal → List ℕ
head q = 0x10 ∷ (number_bytes 8 q.height ++ (number_bytes 4 q.round ++ (number_bytes 2 q.sender ++ number_bytes 4 (valid_round_code q.valid_round))))

length-head : (q : Proposal) → length (head q) ≡ 19
length-head q = omega (
  arith,
  length-append (number_bytes 8 q.height) (number_bytes 4 q.round ++ (number_bytes 2 q.sender ++ number_bytes 4 (valid_round_code q.valid_round))),
  length-append (number_bytes 4 q.round) (number_bytes 2 q.sender ++ number_bytes 4 (valid_round_code q.valid_round)),
  length-append (number_bytes 2 q.sender) (number_bytes 4 (valid_round_code q.valid_round)),
  length-number_bytes 8 q.height,
  length-number_bytes 4 q.round,
  length-number_bytes 2 q.sender,
  length-number_bytes 4 (valid_round_code q.valid_round),
)

joined : (a b c d v : List ℕ) → a ++ (b ++ (c ++ (d ++ v))) ≡ (a ++ (b ++ (c ++ d))) ++ v
joined a b c d v =
    ap (λ xs. a ++ (b ++ xs)) (sym (append_assoc c d v)) ∙ ap (λ xs. a ++ xs) (sym (append_assoc b (c ++ d) v)) ∙ sym (append_assoc a (b ++ (c ++ d)) v)

head_then_value : (q : Proposal) → body_spelling (OfProposal q) ≡ head q ++ value_spelling q.value
unfolding proposal_spelling
head_then_value q = ap (λ xs. 0x10 ∷ xs) (joined (number_bytes 8 q.height) (number_bytes 4 q.round) (number_bytes 2 q.sender) (number_bytes 4 (valid_round_code q.valid_round)) (value_spelling q.value))

-- the value is behind the first 19 bytes
pub value_behind : (q : Proposal) (bytes : List ℕ) → bytes ≡ body_spelling (OfProposal q) → drop 19 bytes ≡ value_spelling q.value
value_behind q bytes is = ap (λ n. drop n bytes) (sym (length-head q)) ∙ drop-appended (head q) bytes (value_spelling q.value) (is ∙ head_then_value q)

pub long_enough : (q : Proposal) (bytes : List ℕ) → bytes ≡ body_spelling (OfProposal q) → 19 ≤ length bytes
long_enough q bytes is = omega (arith, ap length (is ∙ head_then_value q), length-append (head q) (value_spelling q.value), length-head q)

pub named_by_rest : (q : Proposal) (bytes rest : List ℕ) → bytes ≡ body_spelling (OfProposal q) → rest ≡ drop 19 bytes → sha256 rest ≡ id q.value
unfolding id
named_by_rest q bytes rest is back = ap sha256 (back ∙ value_behind q bytes is)
