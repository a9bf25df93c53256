-- The early frames of all links, in order of the links' first ones.
use Rattle.std.specs.Prelude.{◌≡◌, ℕ, Bool, not, ◌&&◌, ◌==◌, nat_le, if◌then◌else◌, List, [], ◌∷◌, ◌++◌, length, map, filter, All, Option, Some, None, false}
use Rattle.std.specs.List.{list_any}
use Rattle.edge_frames.specs.Early.{Early, Frame, placed, has_room, is_of, of_heights_from, IsFirst, IsLongest}
use Rattle.edge_frames.specs.declared.fault.KeepFault.{KeepFault}
use Rattle.edge_frames.specs.declared.fault.KeepFault.TheVariants.{LinkFull, TooManyLinks}

pub record OfLink : Type 0 where
  pub link : ℕ
  pub frames : List Early

abbrev pub of_link : ℕ → List Early → OfLink
of_link link frames = record { link = link; frames = frames }

abbrev pub frames_of : ℕ → List OfLink → List Early
frames_of link [] = []
frames_of link (l ∷ ls) = if link == l.link then l.frames else frames_of link ls

abbrev pub is_known : ℕ → List OfLink → Bool
is_known link ls = list_any (λ l. link == l.link) ls

-- The link has these frames now. One that had none stands behind the others.
abbrev pub with_frames : ℕ → List Early → List OfLink → List OfLink
with_frames link es [] = of_link link es ∷ []
with_frames link es (l ∷ ls) = if link == l.link then of_link l.link es ∷ ls else l ∷ with_frames link es ls

-- why a link's frame is not kept
abbrev pub refusal : ℕ → Early → List OfLink → Option KeepFault
refusal link e ls =
    if not (is_known link ls) && nat_le 384 (length ls) then Some TooManyLinks
    else if has_room e (frames_of link ls) then None else Some LinkFull

-- why the first frame of a link is not kept beside those of so many links
abbrev pub opening : Early → ℕ → Option KeepFault
opening e count = if nat_le 384 count then Some TooManyLinks else if has_room e [] then None else Some LinkFull

-- behind the entries of the others stands that of a link whose first frame this is
pub record IsOpened (e : Early) (link : ℕ) (old new : List (ℕ × List Early)) : Type 0 where
  pub frames : List Early
  pub is : new ≡ old ++ (link, frames) ∷ []
  pub longest : IsLongest (placed e []) frames

-- without the frames of lower heights
abbrev pub from_height : ℕ → List OfLink → List OfLink
from_height height ls = map (λ l. of_link l.link (of_heights_from height l.frames)) ls

abbrev pub without : ℕ → List OfLink → List OfLink
without link ls = filter (λ l. not (link == l.link)) ls

abbrev pub IsWithout : ℕ → OfLink → Type 0
IsWithout height l = list_any (is_of height) l.frames ≡ false

-- The frame is the first of its height that the first link with one has, and all others are left.
pub record IsGiven (height : ℕ) (old : List OfLink) (link : ℕ) (frame : Frame) (new : List OfLink) : Type 0 where
  pub before : List OfLink
  pub behind : List OfLink
  pub own : List Early
  pub left : List Early
  pub was : old ≡ before ++ of_link link own ∷ behind
  pub is : new ≡ before ++ of_link link left ∷ behind
  pub first : IsFirst height own frame left
  pub none : All (IsWithout height) before
