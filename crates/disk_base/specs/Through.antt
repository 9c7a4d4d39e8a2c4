-- What a crash at any moment of a stretch of time may leave on a disk (this profile).
use Rattle.std.specs.Prelude.{◌≡◌, ℕ, List, [], ◌∷◌, ◌++◌, length, Option, Some}
use Rattle.disk_base.specs.Images.{IsImage}
use Rattle.disk_base.specs.Story.{Moment, Story, bytes_at, with_part}

-- whatever a crash at this moment leaves has P
abbrev pub EachImage : (List ℕ → Type 0) → Moment → Type 0
EachImage P moment = (image : List ℕ) → IsImage moment image → P image

abbrev pub EachImageOf : (List ℕ → Type 0) → List Moment → Type 0
EachImageOf P [] = Unit {0}
EachImageOf P (moment ∷ moments) = EachImage P moment × EachImageOf P moments

-- whatever a crash at any moment leaves has P, from the moment that was now to the one that is
pub record Through (old new : Story) (P : List ℕ → Type 0) : Type 0 where
  pub between : List Moment
  pub goes_on : new.past ≡ between ++ old.past
  pub each : EachImageOf P between
  pub last : EachImage P new.now
  pub first : EachImage P old.now

-- bytes of which some part of this length, from a place on, was replaced
abbrev pub IsOver : List ℕ → ℕ → ℕ → List ℕ → Type 0
IsOver bytes at long image = (part : List ℕ) × (length part ≡ long) × (image ≡ with_part bytes at part)

-- the same of so many bytes from a place on, where the part stands among them
abbrev pub IsOverIn : List ℕ → ℕ → ℕ → ℕ → ℕ → List ℕ → Type 0
IsOverIn bytes from size at long image = IsOver (bytes_at bytes from size) at long (bytes_at image from size)

-- what a crash at a moment may leave, were one range more loose
abbrev pub IsImageBut : Moment → ℕ → ℕ → List ℕ → Type 0
IsImageBut moment at long image = IsImage (record { bytes = moment.bytes; loose = (at, long) ∷ moment.loose }) image

-- the story went on, and at every moment since whatever a crash leaves has P
abbrev pub GoesThrough : Story → Option Story → (List ℕ → Type 0) → Type 0
GoesThrough s after P = (t : Story) × (after ≡ Some t) × Through s t P
