-- Bytes are read as a message exactly where they spell its frame.
use Rattle.std.proofs.Common.{ℕ, zero, suc, ◌<◌, List, [], ◌∷◌, arith}
use Rattle.std.specs.List.{AllByRecursion}
use Rattle.transactions.proofs.Formats.{IsBytes}
use Rattle.messages.proofs.MessageFormats.{spells_frame, frame_read}
use Rattle.protocol.specs.Laws.{FrameLaw}

bytes_fit : (bytes : List ℕ) → AllByRecursion (λ b. b < 256) bytes → IsBytes bytes
bytes_fit [] a i = omega arith
bytes_fit (b ∷ bytes) a zero = a.0
bytes_fit (b ∷ bytes) a (suc i) = bytes_fit bytes a.1 i

pub frame_law : FrameLaw
frame_law bytes m a = (λ e. spells_frame bytes m (bytes_fit bytes a) e, λ s. frame_read bytes m s)
