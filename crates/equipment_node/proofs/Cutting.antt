-- The notes up to the line of a work that failed are those of the definition.
use Rattle.std.proofs.Common.{◌≡◌, refl, sym, ap, ◌∙◌, inl, inr, ◌⊎◌, zero, suc, Bool, true, false, ℕ, List, [], ◌∷◌}
use Rattle.std.proofs.Common.{◌++◌, append_assoc, length, Option, Some, None, if◌then◌else◌}
use Rattle.std.specs.List.{cons_option, slice_get}
use Rattle.gem_spool.specs.declared.works.Work.{Work}
use Rattle.message_flow.specs.declared.step.Note.{Note}
use Rattle.message_end.specs.Ends.{IsFront, printed}
use Rattle.trace_log.specs.Log.{Happening, is_before_change}
use Rattle.trace_log.specs.Text.{note_of, printed_note}
use Rattle.equipment_node.specs.Cut.{cut_at, noted_to}
use Rattle.spool_works.specs.DiskWorks.{DiskWork, behind_change, fronts_of, lines_behind, lines_up_to, up_to_change}
use Rattle.spool_works.specs.Owed.{owed_works}
use Rattle.spool_works.proofs.EachFront.{lines-whole}
use Rattle.spool_works.specs.DiskWorks.DiskWork.{ReadOldest}

-- ---- the lines

-- a line is told to stand before a change where what was noted does; what is recorded alone has none
abbrev pub IsTold : Happening → Type 0
IsTold what =
    ((printed_note what ≡ None) × (is_before_change what ≡ false))
    ⊎ ((printed_note what ≡ Some (note_of what)) × ((note_of what).before_change ≡ is_before_change what))

pub told : (what : Happening) → IsTold what
told (Happening.Setup None) = inl (refl, refl)
told (Happening.Setup (Some [])) = inl (refl, refl)
told (Happening.Recorded past) = inl (refl, refl)
told Happening.StepEnded = inl (refl, refl)
told what = inr (refl, refl)

-- ---- up to one of them

one-printed : (what : Happening) (notes : List Happening) (said : Option Note) → printed_note what ≡ said
    → printed (what ∷ notes) ≡ cons_option said (printed notes)
one-printed what notes said is = ap (λ (line : Option Note). cons_option line (printed notes)) is

-- up to the first one
pub first-cut : (notes : List Happening) → printed (up_to_change notes) ≡ cut_at 0 (printed notes)
first-cut [] = refl
first-cut (what ∷ notes) = go (is_before_change what) (told what) refl (first-cut notes)
  where
    rest : Bool → List Happening
    rest is_one = if is_one then [] else up_to_change notes

    go : (is_one : Bool) → IsTold what → is_before_change what ≡ is_one
        → printed (up_to_change notes) ≡ cut_at 0 (printed notes)
        → printed (what ∷ rest (is_before_change what)) ≡ cut_at 0 (printed (what ∷ notes))
    go is_one (inl none) is more =
        one-printed what (rest (is_before_change what)) None none.0
        ∙ ap (λ (b : Bool). printed (rest b)) none.1
        ∙ more
        ∙ ap (cut_at 0) (sym (one-printed what notes None none.0))
    go true (inr some) is more =
        one-printed what (rest (is_before_change what)) (Some (note_of what)) some.0
        ∙ ap (λ (b : Bool). note_of what ∷ printed (rest b)) is
        ∙ ap (λ (b : Bool). note_of what ∷ (if b then [] else cut_at 0 (printed notes))) (sym (some.1 ∙ is))
        ∙ ap (cut_at 0) (sym (one-printed what notes (Some (note_of what)) some.0))
    go false (inr some) is more =
        one-printed what (rest (is_before_change what)) (Some (note_of what)) some.0
        ∙ ap (λ (b : Bool). note_of what ∷ printed (rest b)) is
        ∙ ap (λ (lines : List Note). note_of what ∷ lines) more
        ∙ ap (λ (b : Bool). note_of what ∷ (if b then [] else cut_at 0 (printed notes))) (sym (some.1 ∙ is))
        ∙ ap (cut_at 0) (sym (one-printed what notes (Some (note_of what)) some.0))

-- up to any
pub cut-noted : (at : ℕ) (notes : List Happening) → printed (noted_to at notes) ≡ cut_at at (printed notes)
cut-noted zero notes = first-cut notes
cut-noted (suc at) [] = cut-noted at []
cut-noted (suc at) (what ∷ notes) =
    go (is_before_change what) (told what) refl (cut-noted at notes) (cut-noted (suc at) notes)
  where
    to : Bool → List Happening
    to is_one =
        (what ∷ (if is_one then [] else up_to_change notes))
        ++ noted_to at (if is_one then notes else behind_change notes)

    go : (is_one : Bool) → IsTold what → is_before_change what ≡ is_one
        → printed (noted_to at notes) ≡ cut_at at (printed notes)
        → printed (noted_to (suc at) notes) ≡ cut_at (suc at) (printed notes)
        → printed (to (is_before_change what)) ≡ cut_at (suc at) (printed (what ∷ notes))
    go is_one (inl none) is less more =
        ap (λ (b : Bool). printed (to b)) none.1
        ∙ one-printed what (noted_to (suc at) notes) None none.0
        ∙ more
        ∙ ap (cut_at (suc at)) (sym (one-printed what notes None none.0))
    go true (inr some) is less more =
        ap (λ (b : Bool). printed (to b)) is
        ∙ one-printed what (noted_to at notes) (Some (note_of what)) some.0
        ∙ ap (λ (lines : List Note). note_of what ∷ lines) less
        ∙ ap (λ (b : Bool). note_of what ∷ (if b then cut_at at (printed notes) else cut_at (suc at) (printed notes)))
        (sym (some.1 ∙ is))
        ∙ ap (cut_at (suc at)) (sym (one-printed what notes (Some (note_of what)) some.0))
    go false (inr some) is less more =
        ap (λ (b : Bool). printed (to b)) is
        ∙ one-printed what (noted_to (suc at) notes) (Some (note_of what)) some.0
        ∙ ap (λ (lines : List Note). note_of what ∷ lines) more
        ∙ ap (λ (b : Bool). note_of what ∷ (if b then cut_at at (printed notes) else cut_at (suc at) (printed notes)))
        (sym (some.1 ∙ is))
        ∙ ap (cut_at (suc at)) (sym (one-printed what notes (Some (note_of what)) some.0))

-- ---- the fronts of the definition

-- each work that is owed has a line
pub owed-front :
    (works : List Work) (setup : Option (List ℕ)) (rest : List DiskWork) (before notes : List Happening) (at : ℕ)
    (one : DiskWork) → slice_get (owed_works works setup) at ≡ Some one
    → slice_get (fronts_of before (owed_works works setup ++ rest) notes) at ≡ Some (before ++ noted_to at notes)
owed-front [] None rest before notes at one is = absurd (cc)
owed-front [] (Some bytes) rest before notes zero one is = refl
owed-front [] (Some bytes) rest before notes (suc at) one is = absurd (cc)
owed-front (first ∷ works) setup rest before notes zero one is = refl
owed-front (first ∷ works) setup rest before notes (suc at) one is =
    owed-front works setup rest (before ++ up_to_change notes) (behind_change notes) at one is
    ∙ ap (λ (all : List Happening). Some all)
    (append_assoc before (up_to_change notes) (noted_to at (behind_change notes)))

pub split-change : (notes : List Happening) → up_to_change notes ++ behind_change notes ≡ notes
split-change [] = refl
split-change (what ∷ rest) = go (is_before_change what) (split-change rest)
  where
    go : (is_one : Bool) → up_to_change rest ++ behind_change rest ≡ rest
        → (what ∷ (if is_one then [] else up_to_change rest)) ++ (if is_one then rest else behind_change rest)
        ≡ what ∷ rest
    go true same = refl
    go false same = ap (λ (ns : List Happening). what ∷ ns) same

-- at the read, all is noted
pub read-front :
    (works : List DiskWork) (slots : ℕ) (before notes : List Happening)
    → slice_get (fronts_of before (works ++ ReadOldest slots ∷ []) notes) (length works) ≡ Some (before ++ notes)
read-front [] slots before notes = refl
read-front (one ∷ works) slots before notes =
    read-front works slots (lines_up_to one before notes) (lines_behind one notes)
    ∙ ap (λ (all : List Happening). Some all) (sym (lines-whole one before notes))

-- they are first ones of all
pub noted-front : (at : ℕ) (notes : List Happening) → IsFront (noted_to at notes) notes
noted-front zero notes = record { rest = behind_change notes; whole = sym (split-change notes) }
noted-front (suc at) notes =
    let more = noted-front at (behind_change notes) in
    record {
      rest = more.rest;
      whole =
          sym (split-change notes)
          ∙ ap (λ (all : List Happening). up_to_change notes ++ all) more.whole
          ∙ sym (append_assoc (up_to_change notes) (noted_to at (behind_change notes)) more.rest);
    }
