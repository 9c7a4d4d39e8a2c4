-- What a crash at any moment of a write with its sync leaves of a file at rest.
use Rattle.std.proofs.Common.{◌≡◌, refl, sym, ap, subst, ℕ, ◌+◌, ◌≤◌, List, [], ◌∷◌, length, Option, None, Some}
use Rattle.disk_base.specs.Images.{IsImage}
use Rattle.disk_base.specs.Settle.{Settles}
use Rattle.disk_base.specs.Story.{Story, with_sync, with_write}
use Rattle.disk_base.specs.Through.{GoesThrough, IsImageBut, Through}
use Rattle.disk_base.specs.declared.disk.DiskAnswer.{DiskAnswer}
use Rattle.disk_base.specs.declared.disk.DiskAnswer.TheVariants.{Done}
use Rattle.disk_base.proofs.Moments.{now_is, settle_others, through_more}
use Rattle.recipe_disk.proofs.Images.{IsBut}

abbrev pub story_or : Story → Option Story → Story
story_or other None = other
story_or other (Some s) = s

pub same_story : (s t : Story) → Some s ≡ Some t → s ≡ t
same_story s t is = ap (story_or s) is

-- the moment behind a write with its sync
abbrev pub settled_at : ℕ → List ℕ → Story → Story
settled_at at bytes s = with_sync (with_write at bytes s)

module _ (s : Story) (settled : s.now.loose ≡ []) (at : ℕ) (bytes : List ℕ) (inside : at + length bytes ≤ length s.now.bytes)
    (P : List ℕ → Type 0) (leaves : (image : List ℕ) → IsBut s.now.bytes at (length bytes) image → P image) where
  but_of : (image : List ℕ) → IsImageBut s.now at (length bytes) image → P image
  but_of image is = leaves image (subst (λ loose. IsImage (record { bytes = s.now.bytes; loose = (at, length bytes) ∷ loose }) image) settled is)

  pub goes : (after : Option Story) (answer : DiskAnswer) → Settles (Some s) at bytes after answer → GoesThrough s after P
  goes after answer is =
      let on = settle_others s at bytes after answer inside is in
      (on.0, on.1, through_more s on.0 (IsImageBut s.now at (length bytes)) P but_of on.2)

  pub goes_done : Through s (settled_at at bytes s) P
  goes_done =
      let on = goes (Some (settled_at at bytes s)) Done refl in
      subst (λ t. Through s t P) (sym (same_story (settled_at at bytes s) on.0 on.1)) on.2

-- what a crash leaves now
pub at_last : (s t : Story) (P : List ℕ → Type 0) → Through s t P → P t.now.bytes
at_last s t P through = through.last t.now.bytes (now_is t.now)

pub at_first : (s t : Story) (P : List ℕ → Type 0) → Through s t P → P s.now.bytes
at_first s t P through = through.first s.now.bytes (now_is s.now)

-- the same of a disk that tells this story
pub settles_told : (before after : Option Story) (s : Story) (at : ℕ) (bytes : List ℕ) (answer : DiskAnswer) → before ≡ Some s → Settles before at bytes after answer →
    Settles (Some s) at bytes after answer
settles_told before after s at bytes answer told is = subst (λ b. Settles b at bytes after answer) told is
