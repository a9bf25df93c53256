-- The frames that a node took in in its height, in order of arrival.
use Rattle.std.specs.Prelude.{◌≡◌, ◌<◌, slice_index_or, ℕ, ◌+◌, ◌≤◌, Bool, ◌&&◌, ◌==◌, nat_le, nat_lt, if◌then◌else◌, List, length, filter, sum_by, Option, Some, None}
use Rattle.edge_frames.specs.declared.fault.PassFault.{PassFault}
use Rattle.edge_frames.specs.declared.fault.PassFault.TheVariants.{SenderFull, UnknownSender}
pub use Rattle.edge_frames.specs.declared.height_frames.SentFrame.{SentFrame}
pub use Rattle.edge_frames.specs.declared.height_frames.Load.{Load}

abbrev pub sent : ℕ → List ℕ → SentFrame
sent sender frame = record { sender = sender; frame = frame }

abbrev pub of_sender : ℕ → List SentFrame → List SentFrame
of_sender sender fs = filter (λ f. f.sender == sender) fs

abbrev pub bytes_of : List SentFrame → ℕ
bytes_of fs = sum_by (λ f. length f.frame) fs

-- as many frames and bytes as may be kept of one sender
pub record IsWithin (fs : List SentFrame) : Type 0 where
  pub frames : length fs ≤ 512
  pub bytes : bytes_of fs ≤ 2124288

-- how much is kept of one sender
abbrev pub load_of : ℕ → List SentFrame → Load
load_of sender fs = record { frames = length (of_sender sender fs); bytes = bytes_of (of_sender sender fs) }

abbrev pub no_load : Load
no_load = record { frames = 0; bytes = 0 }

-- it is known of each validator how much is kept, which is within the bounds
pub record IsMeasured (loads : List Load) (fs : List SentFrame) : Type 0 where
  pub count : length loads ≡ 128
  pub each : (s : ℕ) → s < 128 → slice_index_or loads s no_load ≡ load_of s fs
  pub within : (s : ℕ) → IsWithin (of_sender s fs)

-- with the kept ones of its sender, it is within the bounds
abbrev pub has_room : ℕ → List ℕ → List SentFrame → Bool
has_room sender frame fs = nat_lt (load_of sender fs).frames 512 && nat_le ((load_of sender fs).bytes + length frame) 2124288

-- why it is not kept
abbrev pub refusal : ℕ → List ℕ → List SentFrame → Option PassFault
refusal sender frame fs =
    if nat_le 128 sender then Some UnknownSender
    else if has_room sender frame fs then None else Some SenderFull
