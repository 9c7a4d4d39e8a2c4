-- What a write in some range can't break is true of each image behind many unsettled writes in such ranges.
use Rattle.std.proofs.Common.{◌≡◌, ◌⊎◌, ℕ, ◌+◌, ◌<◌, ◌≤◌, false, List, ◌∷◌, length, get_or, take, drop, Option, Some, sym}
use Rattle.std.proofs.Common.{subst, ◌∙◌, arith, inl, inr, length-drop}
use Rattle.std.proofs.lemmas.Bool.{cases_lt}
use Rattle.std.proofs.lemmas.List.{ext_get_or, places, length-take-le}
use Rattle.disk_base.specs.Disk.{Writes}
use Rattle.disk_base.specs.Images.{IsImage, is_in, is_loose}
use Rattle.disk_base.specs.Story.{Moment, Story, bytes_at, with_part}
use Rattle.disk_base.specs.Through.{GoesThrough, Through}
use Rattle.disk_base.specs.declared.disk.DiskAnswer.{DiskAnswer}
use Rattle.disk_base.proofs.Marks.{length-part, outside_part}
use Rattle.disk_base.proofs.Moments.{neither, out_of, write_keeps}

inside_part : (all other : List ℕ) (at long place : ℕ) → at + long ≤ length all → length other ≡ length all →
    at ≤ place → place < at + long → get_or (with_part all at (take long (drop at other))) place 0 ≡ get_or other place 0
inside_part all other at long place within same from to = grind (arith, places, within, same, from, to)

-- an image behind a write, with what stood before put back in its range
module _ (moment : Moment) (image part : List ℕ) (at : ℕ) (within : at + length part ≤ length moment.bytes)
    (left : IsImage (record {
      bytes = with_part moment.bytes at part;
      loose = (at, length part) ∷ moment.loose;
    }) image) where
  abbrev long : ℕ
  long = length part

  abbrev back : List ℕ
  back = with_part image at (bytes_at moment.bytes at long)

  abbrev here : List ℕ
  here = bytes_at image at long

  pub same_long : length image ≡ length moment.bytes
  same_long = left.long ∙ length-part moment.bytes part at within

  was_long : length (bytes_at moment.bytes at long) ≡ long
  was_long = length-take-le long (drop at moment.bytes) (omega (arith, within, length-drop at moment.bytes))

  pub here_long : length here ≡ long
  here_long = length-take-le long (drop at image) (omega (arith, within, same_long, length-drop at image))

  was_within : at + length (bytes_at moment.bytes at long) ≤ length image
  was_within = omega (arith, within, was_long, same_long)

  back_long : length back ≡ length image
  back_long = length-part image (bytes_at moment.bytes at long) at was_within

  here_within : at + length here ≤ length back
  here_within = omega (arith, within, here_long, same_long, back_long)

  was_side : {place : ℕ} → (place < at) ⊎ (at + long ≤ place) →
      (place < at) ⊎ (at + length (bytes_at moment.bytes at long) ≤ place)
  was_side (inl before) = inl before
  was_side (inr behind) = inr (omega (arith, behind, was_long))

  here_side : {place : ℕ} → (place < at) ⊎ (at + long ≤ place) → (place < at) ⊎ (at + length here ≤ place)
  here_side (inl before) = inl before
  here_side (inr behind) = inr (omega (arith, behind, here_long))

  outside : (place : ℕ) → is_loose moment.loose place ≡ false → (place < at) ⊎ (at + long ≤ place) →
      get_or back place 0 ≡ get_or moment.bytes place 0
  outside place settled side =
      outside_part image (bytes_at moment.bytes at long) at place 0 was_within (was_side side)
      ∙ left.kept place (neither (is_in place (at, long)) (is_loose moment.loose place) (out_of place at long side) settled)
      ∙ outside_part moment.bytes part at place 0 within side

  kept_by : (place : ℕ) → is_loose moment.loose place ≡ false → (place < at) ⊎ (at ≤ place) →
      get_or back place 0 ≡ get_or moment.bytes place 0
  kept_by place settled (inl before) = outside place settled (inl before)
  kept_by place settled (inr from) = by_end (cases_lt place (at + long)) where
    by_end : (place < at + long) ⊎ (at + long ≤ place) → get_or back place 0 ≡ get_or moment.bytes place 0
    by_end (inl to) =
        inside_part image moment.bytes at long place (omega (arith, within, same_long)) (sym same_long) from to
    by_end (inr behind) = outside place settled (inr behind)

  -- it is one of before
  pub before : IsImage moment back
  before = record {
    long = back_long ∙ same_long;
    kept = λ place settled. kept_by place settled (cases_lt place at);
  }

  again_by : (place : ℕ) → (place < at) ⊎ (at ≤ place) → get_or (with_part back at here) place 0 ≡ get_or image place 0
  again_by place side = by_side side where
    beside : (place < at) ⊎ (at + long ≤ place) → get_or (with_part back at here) place 0 ≡ get_or image place 0
    beside side =
        outside_part back here at place 0 here_within (here_side side)
        ∙ outside_part image (bytes_at moment.bytes at long) at place 0 was_within (was_side side)

    by_side : (place < at) ⊎ (at ≤ place) → get_or (with_part back at here) place 0 ≡ get_or image place 0
    by_side (inl before) = beside (inl before)
    by_side (inr from) = by_end (cases_lt place (at + long)) where
      by_end : (place < at + long) ⊎ (at + long ≤ place) → get_or (with_part back at here) place 0 ≡ get_or image place 0
      by_end (inl to) =
          inside_part back image at long place (omega (arith, within, same_long, back_long)) (sym back_long) from to
      by_end (inr behind) = beside (inr behind)

  -- from which a write in the range makes it again
  pub again : with_part back at here ≡ image
  again = ext_get_or 0 (with_part back at here) image (length-part back here at here_within ∙ back_long)
      (λ place below. again_by place (cases_lt place at))

-- so what is closed under such writes goes on through one more, though none of them is settled
pub closed_keeps : (old mid : Story) (P : List ℕ → Type 0) (at : ℕ) (bytes : List ℕ) (after : Option Story)
    (answer : DiskAnswer) → Through old mid P → at + length bytes ≤ length mid.now.bytes →
    ((image part : List ℕ) → length image ≡ length mid.now.bytes → length part ≡ length bytes → P image →
    P (with_part image at part)) →
    Writes (Some mid) at bytes after answer → GoesThrough old after P
closed_keeps old mid P at bytes after answer so_far within closed is =
    write_keeps old mid P at bytes after answer so_far (λ part same image left.
    let fits : at + length part ≤ length mid.now.bytes = omega (arith, within, same) in
    let was = before mid.now image part at fits left in
    subst P (again mid.now image part at fits left)
    (closed (with_part image at (bytes_at mid.now.bytes at (length part))) (bytes_at image at (length part)) was.long
    (here_long mid.now image part at fits left ∙ same)
    (so_far.last (with_part image at (bytes_at mid.now.bytes at (length part))) was))) is
