-- The marks of loose places.
use Rattle.std.proofs.Common.{◌≡◌, ℕ, zero, suc, ◌+◌, ◌<◌, ◌≤◌, ◌⊎◌, Bool, true, false, ◌||◌, List, [], ◌∷◌, ◌++◌, length, get_or, take, drop, replicate, fold, refl, sym, subst, ◌∙◌, arith, inl, inr, length-append, length-drop}
use Rattle.std.proofs.lemmas.List.{places, length-replicate, length-take-le}
use Rattle.std.proofs.lemmas.Bool.Decides.{nat_tests}
use Rattle.disk_base.specs.Cut.{image_of, marks_of, settled_bytes}
use Rattle.disk_base.specs.Images.{IsImage, is_in, is_loose}
use Rattle.disk_base.specs.Log.{AreSized, loose_behind, loose_under}
use Rattle.disk_base.specs.Story.{Story, with_part}
use Rattle.disk_base.specs.declared.cut.CutChoice.{CutChoice}
use Rattle.disk_base.specs.declared.disk.CallKind.{CallKind}
use Rattle.disk_base.specs.declared.disk.CallKind.TheVariants.{Attach, Read, Write, Sync}
use Rattle.disk_base.specs.declared.log.LoggedCall.{LoggedCall}
use Rattle.disk_base.proofs.Cuts.{length-bytes_left, unmarked_stays}

-- the ranges lie within the disk
abbrev pub AreIn : ℕ → List (ℕ × ℕ) → Type 0
AreIn size [] = Unit {0}
AreIn size (range ∷ loose) = (range.0 + range.1 ≤ size) × AreIn size loose

in_under : (size : ℕ) (kind : CallKind) (at count : ℕ) (loose : List (ℕ × ℕ)) → at + count ≤ size → AreIn size loose → AreIn size (loose_under kind at count loose)
in_under size Write at count loose within are = (within, are)
in_under size Attach at count loose within are = are
in_under size Read at count loose within are = are
in_under size Sync at count loose within are = are

pub loose_in : (size : ℕ) (entries : List LoggedCall) (loose : List (ℕ × ℕ)) → AreSized size entries → AreIn size loose → AreIn size (fold loose_behind loose entries)
loose_in size [] loose sized are = are
loose_in size (entry ∷ entries) loose sized are =
    loose_in size entries (loose_behind loose entry) sized.1 (in_under size entry.kind entry.at entry.count loose sized.0 are)

pub length-part : {A : Type 0} (all part : List A) (at : ℕ) → at + length part ≤ length all → length (with_part all at part) ≡ length all
length-part all part at within =
    omega (
      arith,
      within,
      length-append (take at all ++ part) (drop (at + length part) all),
      length-append (take at all) part,
      length-take-le at all (omega (arith, within)),
      length-drop (at + length part) all,
    )

-- a part leaves the places before it and behind it
pub outside_part : {A : Type 0} (all part : List A) (at place : ℕ) (d : A) → at + length part ≤ length all →
    (place < at) ⊎ (at + length part ≤ place) → get_or (with_part all at part) place d ≡ get_or all place d
outside_part all part at place d within (inl before) = grind (arith, places, within, before)
outside_part all part at place d within (inr behind) = grind (arith, places, within, behind)

pub length-marks : (size : ℕ) (loose : List (ℕ × ℕ)) → AreIn size loose → length (marks_of size loose) ≡ size
length-marks size [] are = length-replicate size false
length-marks size (range ∷ loose) are =
    let marks = length-marks size loose are.1 in
    length-part (marks_of size loose) (replicate range.1 true) range.0 (omega (arith, are.0, marks, length-replicate range.1 true)) ∙ marks

none_marked : (size place : ℕ) → get_or (replicate size false) place false ≡ false
none_marked zero place = refl
none_marked (suc size) zero = refl
none_marked (suc size) (suc place) = none_marked size place

pub not_either : (a b : Bool) → (a || b) ≡ false → (a ≡ false) × (b ≡ false)
not_either true b is = absurd (grind (arith, is))
not_either false b is = (refl, is)

-- a place that isn't in a range lies before it or behind it
pub beside : (place : ℕ) (range : ℕ × ℕ) → is_in place range ≡ false → (place < range.0) ⊎ (range.0 + range.1 ≤ place)
beside place range out = grind (arith, nat_tests, out)

pub unmarked : (size : ℕ) (loose : List (ℕ × ℕ)) (place : ℕ) → AreIn size loose → is_loose loose place ≡ false →
    get_or (marks_of size loose) place false ≡ false
unmarked size [] place are out = none_marked size place
unmarked size (range ∷ loose) place are out =
    let both = not_either (is_in place range) (is_loose loose place) out in
    let long : length (replicate range.1 true) ≡ range.1 = length-replicate range.1 true in
    let side : (place < range.0) ⊎ (range.0 + length (replicate range.1 true) ≤ place) =
    subst (λ n. (place < range.0) ⊎ (range.0 + n ≤ place)) (sym long) (beside place range both.0) in
    outside_part (marks_of size loose) (replicate range.1 true) range.0 place false (omega (arith, are.0, long, length-marks size loose are.1)) side
    ∙ unmarked size loose place are.1 both.1

-- what a crash leaves is one of the images
pub image_is : (choice : CutChoice) (story : Story) → AreIn (length story.now.bytes) story.now.loose →
    length (settled_bytes story) ≡ length story.now.bytes → IsImage story.now (image_of choice story)
image_is choice story are long =
    let size = length story.now.bytes in
    let marks = length-marks size story.now.loose are in
    record {
      long = length-bytes_left choice (marks_of size story.now.loose) (settled_bytes story) story.now.bytes marks long;
      kept = λ place out. unmarked_stays place choice (marks_of size story.now.loose) (settled_bytes story) story.now.bytes marks long
          (unmarked size story.now.loose place are out);
    }
