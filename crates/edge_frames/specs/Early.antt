-- The early frames of one link, in order of height, and those of one height in order of arrival.
use Rattle.std.specs.Prelude.{◌≡◌, ◌≢◌, ℕ, ◌+◌, ◌<◌, ◌≤◌, Bool, ◌&&◌, ◌==◌, nat_le, nat_lt, List, ◌∷◌, ◌++◌, length, take, filter, sum_by, All}
use Rattle.std.specs.List.{AllWithin}
pub use Rattle.edge_frames.specs.declared.link_frames.Early.{Early}

abbrev pub Frame : Type 0
Frame = List ℕ

abbrev pub early : ℕ → Frame → Early
early height frame = record { height = height; frame = frame }

abbrev pub bytes_of : List Early → ℕ
bytes_of es = sum_by (λ e. length e.frame) es

-- as many frames and bytes as may be kept for one link
pub record Fits (es : List Early) : Type 0 where
  pub frames : length es ≤ 256
  pub bytes : bytes_of es ≤ 2097152

-- those of this height and of lower ones
abbrev pub up_to : ℕ → List Early → List Early
up_to height es = filter (λ e. nat_le e.height height) es

-- it stands behind all of its height and of lower ones, and before all of greater heights
abbrev pub placed : Early → List Early → List Early
placed e es = up_to e.height es ++ e ∷ filter (λ d. nat_lt e.height d.height) es

-- with those that go before it, it is within the bounds
abbrev pub has_room : Early → List Early → Bool
has_room e es = nat_lt (length (up_to e.height es)) 256 && nat_le (bytes_of (up_to e.height es) + length e.frame) 2097152

-- what is kept is the longest beginning within the bounds
pub record IsLongest (all kept : List Early) : Type 0 where
  pub begins : kept ≡ take (length kept) all
  pub fits : Fits kept
  pub longest : (n : ℕ) → length kept < n → n ≤ length all → ¬ Fits (take n all)

-- those of this height and of greater ones
abbrev pub of_heights_from : ℕ → List Early → List Early
of_heights_from height es = filter (λ e. nat_le height e.height) es

abbrev pub is_of : ℕ → Early → Bool
is_of height e = e.height == height

-- the frame is the first of its height, and the others are left
pub record IsFirst (height : ℕ) (old : List Early) (frame : Frame) (new : List Early) : Type 0 where
  pub before : List Early
  pub behind : List Early
  pub was : old ≡ before ++ early height frame ∷ behind
  pub left : new ≡ before ++ behind
  pub first : All (λ e. e.height ≢ height) before

-- All before this place are lower, and no other is.
pub record IsStart (height : ℕ) (es : List Early) (place : ℕ) : Type 0 where
  pub within : place ≤ length es
  pub lower : AllWithin (λ e. e.height < height) es 0 place
  pub others : AllWithin (λ e. height ≤ e.height) es place (length es)

-- All before this place are no higher, and each other is.
pub record IsEnd (height : ℕ) (es : List Early) (place : ℕ) : Type 0 where
  pub within : place ≤ length es
  pub others : AllWithin (λ e. e.height ≤ height) es 0 place
  pub higher : AllWithin (λ e. height < e.height) es place (length es)
