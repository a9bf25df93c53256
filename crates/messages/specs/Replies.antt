-- Replies to clients, and the frames that spell them.
use Rattle.std.specs.Prelude.{◌≡◌, ◌≢◌, ℕ, ◌≤◌, List, [], ◌∷◌, Bool, ◌&&◌, Result, Ok, nat_le, ◌==◌, if◌then◌else◌}
use Rattle.transactions.specs.declared.fault.Fault.{Fault}
use Rattle.transactions.specs.declared.fault.Fault.TheVariants.{BadSpelling, BadKind}
use Rattle.transactions.specs.Fields.{◌>>=◌, ◌>>◌, ask, Read, byte_at, whole}
use Rattle.messages.specs.declared.replies.Reply.{Reply}
use Rattle.messages.specs.Framing.{content_of}

-- Behind 13, a transaction that was not queued, stands why, 1 to 9; behind any other code 0.
abbrev pub goes_with : ℕ → ℕ → Bool
goes_with code inner = if code == 13 then nat_le 1 inner && nat_le inner 9 else (inner == 0)

-- a byte that passes the test, or this fault
abbrev pub tested : (ℕ → Bool) → Fault → List ℕ → Read ℕ
tested test fault bytes = do
  byte ← byte_at bytes
  ask (test byte.0) fault
  Ok byte

-- the kind, the code, the inner number
unfoldable pub reply_at : List ℕ → Read Reply
reply_at bytes = do
  kind ← tested (λ k. k == 0x20) BadKind bytes
  code ← tested (λ c. nat_le c 17) BadSpelling kind.1
  inner ← tested (goes_with code.0) BadSpelling code.1
  Ok (record { code = code.0; inner = inner.0 }, inner.1)

-- the reply that a frame spells, or the first fault
unfoldable pub reply_of : List ℕ → Result Reply Fault
reply_of bytes = do
  content ← content_of bytes
  whole (reply_at content)

-- ---- the one spelling

-- the length of what follows, the kind, the two numbers
abbrev pub reply_spelling : Reply → List ℕ
reply_spelling r = 0 ∷ 0 ∷ 0 ∷ 3 ∷ 0x20 ∷ r.code ∷ r.inner ∷ []

pub record IsReply (r : Reply) : Type 0 where
  pub code : r.code ≤ 17
  pub not_queued : r.code ≡ 13 → (1 ≤ r.inner) × (r.inner ≤ 9)
  pub other : r.code ≢ 13 → r.inner ≡ 0

-- the grammar: which bytes spell which reply
pub record SpellsReply (bytes : List ℕ) (r : Reply) : Type 0 where
  pub lawful : IsReply r
  pub same : bytes ≡ reply_spelling r
