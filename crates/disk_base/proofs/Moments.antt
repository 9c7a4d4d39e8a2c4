-- What a crash at any moment of a write and its sync may leave.
use Rattle.std.proofs.Common.{◌≡◌, ℕ, ◌+◌, ◌<◌, ◌≤◌, ◌⊎◌, Bool, true, false, ◌||◌, List, [], ◌∷◌, ◌++◌, append_assoc, length, get_or, take, drop, Option, Some, refl, sym, ap, subst, ◌∙◌, arith, inl, inr, ⊎_elim, length-drop}
use Rattle.std.proofs.lemmas.Bool.{cases_lt}
use Rattle.std.proofs.lemmas.Bool.Decides.{nat_tests}
use Rattle.std.proofs.lemmas.List.{ext_get_or, places, get_or-take, get_or-drop, length-take-le}
use Rattle.disk_base.specs.Disk.{Syncs, Writes}
use Rattle.disk_base.specs.Images.{AreSettled, IsImage, is_in, is_loose}
use Rattle.disk_base.specs.Settle.{Settles}
use Rattle.disk_base.specs.Story.{Moment, Story, bytes_at, with_part, with_sync, with_write}
use Rattle.disk_base.specs.Through.{EachImage, EachImageOf, GoesThrough, IsImageBut, IsOver, IsOverIn, Through}
use Rattle.disk_base.specs.declared.disk.DiskAnswer.{DiskAnswer}
use Rattle.disk_base.specs.declared.disk.DiskAnswer.TheVariants.{Done, Failed}
use Rattle.disk_base.proofs.Marks.{beside, length-part, not_either, outside_part}

-- the bytes now may be left
pub now_is : (moment : Moment) → IsImage moment moment.bytes
now_is moment = record { long = refl; kept = λ place out. refl }

-- and nothing else where nothing is loose
pub only_now : (moment : Moment) (image : List ℕ) → moment.loose ≡ [] → IsImage moment image → image ≡ moment.bytes
only_now moment image none is =
    ext_get_or 0 image moment.bytes is.long (λ place within. is.kept place (ap (λ loose. is_loose loose place) none))

pub starts : (story : Story) (P : List ℕ → Type 0) → EachImage P story.now → Through story story P
starts story P good = record { between = []; goes_on = refl; each = tt; last = good; first = good }

-- one moment more
pub moment_keeps : (old mid : Story) (P : List ℕ → Type 0) (moment : Moment) → Through old mid P → EachImage P moment →
    Through old (record { now = moment; past = mid.now ∷ mid.past }) P
moment_keeps old mid P moment so_far good = record {
  between = mid.now ∷ so_far.between;
  goes_on = ap (λ (past : List Moment). mid.now ∷ past) so_far.goes_on;
  each = (so_far.last, so_far.each);
  last = good;
  first = so_far.first;
}

pub write_keeps : (old mid : Story) (P : List ℕ → Type 0) (at : ℕ) (bytes : List ℕ) (after : Option Story) (answer : DiskAnswer) →
    Through old mid P → ((part : List ℕ) → length part ≡ length bytes → EachImage P (with_write at part mid).now) →
    Writes (Some mid) at bytes after answer → (new : Story) × (after ≡ Some new) × Through old new P
write_keeps old mid P at bytes after Done so_far good is =
    (with_write at bytes mid, is, moment_keeps old mid P (with_write at bytes mid).now so_far (good bytes refl))
write_keeps old mid P at bytes after Failed so_far good (inl same) = (mid, same, so_far)
write_keeps old mid P at bytes after Failed so_far good (inr other) =
    (with_write at other.0 mid, other.2, moment_keeps old mid P (with_write at other.0 mid).now so_far (good other.0 other.1))

pub sync_keeps : (old mid : Story) (P : List ℕ → Type 0) (after : Option Story) (answer : DiskAnswer) → Through old mid P →
    Syncs (Some mid) after answer → (new : Story) × (after ≡ Some new) × Through old new P
sync_keeps old mid P after Done so_far is = (
  with_sync mid,
  is,
  moment_keeps old mid P (with_sync mid).now so_far
      (λ image left. subst P (sym (only_now (with_sync mid).now image refl left)) (so_far.last mid.now.bytes (now_is mid.now))),
)
sync_keeps old mid P after Failed so_far is = (mid, is, so_far)

inside_part : (all image : List ℕ) (at long place : ℕ) → at + long ≤ length all → length image ≡ length all → at ≤ place → place < at + long →
    get_or (with_part all at (take long (drop at image))) place 0 ≡ get_or image place 0
inside_part all image at long place within same from to = grind (arith, places, within, same, from, to)

-- bytes that are the same but for a part of this length
pub over_sides : (bytes image : List ℕ) (at long : ℕ) → at + long ≤ length bytes → length image ≡ length bytes →
    ((place : ℕ) → place < length bytes → (place < at) ⊎ (at + long ≤ place) → get_or image place 0 ≡ get_or bytes place 0) →
    IsOver bytes at long image
over_sides bytes image at long within size same =
    let other = take long (drop at image) in
    let is_long : length other ≡ long = length-take-le long (drop at image) (omega (arith, size, within, length-drop at image)) in
    let go : (place : ℕ) → place < length image → get_or image place 0 ≡ get_or (with_part bytes at other) place 0 =
    λ place below. ⊎_elim
    (λ (before : place < at). same place (omega (arith, below, size)) (inl before)
    ∙ sym (outside_part bytes other at place 0 (omega (arith, within, is_long)) (inl before)))
    (λ (from : at ≤ place). ⊎_elim
    (λ (to : place < at + long). sym (inside_part bytes image at long place within size from to))
    (λ (behind : at + long ≤ place). same place (omega (arith, below, size)) (inr behind)
    ∙ sym (outside_part bytes other at place 0 (omega (arith, within, is_long)) (inr (omega (arith, behind, is_long)))))
    (cases_lt place (at + long)))
    (cases_lt place at) in
    (other, is_long, ext_get_or 0 image (with_part bytes at other) (size ∙ sym (length-part bytes other at (omega (arith, within, is_long)))) go)

pub out_of : (place at long : ℕ) → (place < at) ⊎ (at + long ≤ place) → is_in place (at, long) ≡ false
out_of place at long (inl before) = grind (arith, nat_tests, before)
out_of place at long (inr behind) = grind (arith, nat_tests, behind)

pub neither : (a b : Bool) → a ≡ false → b ≡ false → (a || b) ≡ false
neither true b first second = absurd (grind (arith, first))
neither false b first second = second

-- what a crash leaves where nothing else is loose
pub over_but : (moment : Moment) (image : List ℕ) (at long : ℕ) → moment.loose ≡ [] → at + long ≤ length moment.bytes →
    IsImageBut moment at long image → IsOver moment.bytes at long image
over_but moment image at long none within is =
    over_sides moment.bytes image at long within is.long (λ place below side. is.kept place
    (neither (is_in place (at, long)) (is_loose moment.loose place) (out_of place at long side) (ap (λ loose. is_loose loose place) none)))

-- and among bytes of which none is
pub over_among : (moment : Moment) (image : List ℕ) (from size at long : ℕ) → AreSettled moment from size → from + size ≤ length moment.bytes →
    at + long ≤ size → IsImageBut moment (from + at) long image → IsOverIn moment.bytes from size at long image
over_among moment image from size at long settled within among is =
    let here : length (bytes_at moment.bytes from size) ≡ size =
    length-take-le size (drop from moment.bytes) (omega (arith, within, length-drop from moment.bytes)) in
    let there : length (bytes_at image from size) ≡ size =
    length-take-le size (drop from image) (omega (arith, is.long, within, length-drop from image)) in
    over_sides (bytes_at moment.bytes from size) (bytes_at image from size) at long (omega (arith, here, among)) (there ∙ sym here)
    (λ place below side.
    let less : place < size = omega (arith, below, here) in
    get_or-take size (drop from image) place 0 less
    ∙ get_or-drop from image place 0
    ∙ is.kept (from + place) (neither (is_in (from + place) (from + at, long)) (is_loose moment.loose (from + place))
    (out_of (from + place) (from + at) long (shifted place side)) (settled (from + place) (omega arith) (omega (arith, less))))
    ∙ sym (get_or-drop from moment.bytes place 0)
    ∙ sym (get_or-take size (drop from moment.bytes) place 0 less)) where
      shifted : (place : ℕ) → (place < at) ⊎ (at + long ≤ place) → (from + place < from + at) ⊎ (from + at + long ≤ from + place)
      shifted place (inl before) = inl (omega (arith, before))
      shifted place (inr behind) = inr (omega (arith, behind))

-- more is said of each image
each_more : (P Q : List ℕ → Type 0) → ((image : List ℕ) → P image → Q image) → (moments : List Moment) → EachImageOf P moments → EachImageOf Q moments
each_more P Q more [] each = tt
each_more P Q more (moment ∷ moments) each = (λ image left. more image (each.0 image left), each_more P Q more moments each.1)

pub through_more : (old new : Story) (P Q : List ℕ → Type 0) → ((image : List ℕ) → P image → Q image) → Through old new P → Through old new Q
through_more old new P Q more through = record {
  between = through.between;
  goes_on = through.goes_on;
  each = each_more P Q more through.between through.each;
  last = λ image left. more image (through.last image left);
  first = λ image left. more image (through.first image left);
}

each_of_both : (P : List ℕ → Type 0) (moments more : List Moment) → EachImageOf P moments → EachImageOf P more → EachImageOf P (moments ++ more)
each_of_both P [] more each last = last
each_of_both P (moment ∷ moments) more each last = (each.0, each_of_both P moments more each.1 last)

-- one stretch of time behind another
pub through_both : (old mid new : Story) (P : List ℕ → Type 0) → Through old mid P → Through mid new P → Through old new P
through_both old mid new P one two = record {
  between = two.between ++ one.between;
  goes_on = two.goes_on ∙ ap (λ (past : List Moment). two.between ++ past) one.goes_on ∙ sym (append_assoc two.between one.between old.past);
  each = each_of_both P two.between one.between two.each one.each;
  last = two.last;
  first = one.first;
}

by_answer : (s : Story) (at : ℕ) (bytes : List ℕ) (P : List ℕ → Type 0) (after : Option Story) (answer : DiskAnswer) → Through s s P →
    ((part : List ℕ) → length part ≡ length bytes → EachImage P (with_write at part s).now) → Settles (Some s) at bytes after answer →
    (t : Story) × (after ≡ Some t) × Through s t P
by_answer s at bytes P after Done so_far good is =
    let written = moment_keeps s s P (with_write at bytes s).now so_far (good bytes refl) in
    sync_keeps s (with_write at bytes s) P after Done written is
by_answer s at bytes P after Failed so_far good is = write_keeps s s P at bytes after Failed so_far good is

-- what a crash may leave, it may leave with one range more loose
pub image_but : (moment : Moment) (image : List ℕ) (at long : ℕ) → IsImage moment image → IsImageBut moment at long image
image_but moment image at long is = record {
  long = is.long;
  kept = λ place out. is.kept place (not_either (is_in place (at, long)) (is_loose moment.loose place) out).1;
}

-- the same with a wider range
pub but_wider : (moment : Moment) (image : List ℕ) (at p long size : ℕ) → p + long ≤ size → IsImageBut moment (at + p) long image →
    IsImageBut moment at size image
but_wider moment image at p long size within is = record {
  long = is.long;
  kept = λ place out.
      let both = not_either (is_in place (at, size)) (is_loose moment.loose place) out in
      is.kept place (neither (is_in place (at + p, long)) (is_loose moment.loose place) (outside place (beside place (at, size) both.0)) both.1);
} where
  outside : (place : ℕ) → (place < at) ⊎ (at + size ≤ place) → is_in place (at + p, long) ≡ false
  outside place (inl before) = out_of place (at + p) long (inl (omega (arith, before)))
  outside place (inr behind) = out_of place (at + p) long (inr (omega (arith, behind, within)))

-- a write with its sync: at every moment a crash leaves what it might have left before, but for the write's range
pub settle_others : (s : Story) (at : ℕ) (bytes : List ℕ) (after : Option Story) (answer : DiskAnswer) →
    at + length bytes ≤ length s.now.bytes → Settles (Some s) at bytes after answer →
    GoesThrough s after (IsImageBut s.now at (length bytes))
settle_others s at bytes after answer within is =
    let P = IsImageBut s.now at (length bytes) in
    let first : EachImage P s.now = λ image left. image_but s.now image at (length bytes) left in
    let good : (part : List ℕ) → length part ≡ length bytes → EachImage P (with_write at part s).now = λ part same image left. record {
      long = left.long ∙ length-part s.now.bytes part at (omega (arith, within, same));
      kept = λ place out.
          left.kept place (subst (λ (n : ℕ). (is_in place (at, n) || is_loose s.now.loose place) ≡ false) (sym same) out)
          ∙ outside_part s.now.bytes part at place 0 (omega (arith, within, same))
          (subst (λ n. (place < at) ⊎ (at + n ≤ place)) (sym same)
          (beside place (at, length bytes) (not_either (is_in place (at, length bytes)) (is_loose s.now.loose place) out).0));
    } in
    by_answer s at bytes P after answer (starts s P first) good is

-- a write among settled bytes with its sync: a crash leaves them with some part in this place
pub settle_among : (s : Story) (from size at : ℕ) (bytes : List ℕ) (after : Option Story) (answer : DiskAnswer) →
    AreSettled s.now from size → from + size ≤ length s.now.bytes → at + length bytes ≤ size →
    Settles (Some s) (from + at) bytes after answer → GoesThrough s after (IsOverIn s.now.bytes from size at (length bytes))
settle_among s from size at bytes after answer settled within among is =
    let goes = settle_others s (from + at) bytes after answer (omega (arith, within, among)) is in
    (goes.0, goes.1, through_more s goes.0 _ _ (λ image. over_among s.now image from size at (length bytes) settled within among) goes.2)

-- the same where nothing is loose
pub settle_through : (s : Story) (at : ℕ) (bytes : List ℕ) (after : Option Story) (answer : DiskAnswer) → s.now.loose ≡ [] →
    at + length bytes ≤ length s.now.bytes → Settles (Some s) at bytes after answer →
    GoesThrough s after (IsOver s.now.bytes at (length bytes))
settle_through s at bytes after answer none within is =
    let goes = settle_others s at bytes after answer within is in
    (goes.0, goes.1, through_more s goes.0 _ _ (λ image. over_but s.now image at (length bytes) none within) goes.2)

-- bytes that aren't loose stay
pub part_stays : (moment : Moment) (image : List ℕ) (at long : ℕ) →
    ((place : ℕ) → at ≤ place → place < at + long → is_loose moment.loose place ≡ false) → at + long ≤ length moment.bytes →
    IsImage moment image → bytes_at image at long ≡ bytes_at moment.bytes at long
part_stays moment image at long settled within is =
    let here : length (bytes_at image at long) ≡ long = length-take-le long (drop at image) (omega (arith, is.long, within, length-drop at image)) in
    let there : length (bytes_at moment.bytes at long) ≡ long =
    length-take-le long (drop at moment.bytes) (omega (arith, within, length-drop at moment.bytes)) in
    ext_get_or 0 (bytes_at image at long) (bytes_at moment.bytes at long) (here ∙ sym there) (λ place below.
    let less : place < long = omega (arith, below, here) in
    get_or-take long (drop at image) place 0 less
    ∙ get_or-drop at image place 0
    ∙ is.kept (at + place) (settled (at + place) (omega arith) (omega (arith, less)))
    ∙ sym (get_or-drop at moment.bytes place 0)
    ∙ sym (get_or-take long (drop at moment.bytes) place 0 less))
