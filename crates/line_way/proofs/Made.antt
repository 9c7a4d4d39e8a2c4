-- The slip that is told, by what was found.
use Rattle.std.proofs.Common.{◌≡◌, suc, ◌+◌, ◌&&◌, Bool, true, false, not, List, [], ◌∷◌, ◌++◌, length, Some, refl, sym, ap, ◌∙◌, arith}
use Rattle.std.specs.Prelude.{slice_get}
use Rattle.line_end.specs.Frames.{is_frame}
use Rattle.line_way.specs.declared.character.Character.{Character}
use Rattle.line_way.specs.Kept.{bytes_with, is_complete, is_whole, makes_slip}
use Rattle.line_way.specs.Slip.{first_frame, frame_number}
use Rattle.line_way.specs.Ways.{characters_of, origin_of}

length-with : (cs : List Character) (next : Character) → length (bytes_with cs next) ≡ length cs + 1
length-with [] next = refl
length-with (c ∷ cs) next = ap suc (length-with cs next) ∙ omega arith

pub slip-made :
    (gathered : List Character) (next first : Character) → slice_get gathered 0 ≡ Some first
    → is_complete first.byte (length gathered + 1) ≡ true → is_frame (bytes_with gathered next) ≡ true
    → is_whole gathered next ≡ false
    → (makes_slip gathered (next ∷ []) ≡ true)
    × (frame_number (origin_of first.source) ≡ first_frame (characters_of (gathered ++ next ∷ [])))
slip-made [] next first is complete framed whole = cc
slip-made (c ∷ cs) next first is complete framed whole =
    let same : c ≡ first = cc in
    let all : is_complete c.byte (length (bytes_with (c ∷ cs) next)) ≡ true =
    ap (is_complete c.byte) (length-with (c ∷ cs) next)
    ∙ ap (λ (x : Character). is_complete x.byte (length (c ∷ cs) + 1)) same ∙ complete
    in (
      ap (λ (b : Bool). (b && is_frame (bytes_with (c ∷ cs) next)) && not (is_whole (c ∷ cs) next)) all
          ∙ ap (λ (b : Bool). b && not (is_whole (c ∷ cs) next)) framed ∙ ap not whole,
      sym (ap (λ (x : Character). frame_number (origin_of x.source)) same),
    )
