-- That no place is left that was made for a put, wherever a disk stops a step.
use Rattle.std.proofs.Common.{◌≡◌, refl, sym, subst, append_assoc, Bool, true, false, List, [], ◌∷◌, ◌++◌, if◌then◌else◌}
use Rattle.message_end.specs.Course.{noted_behind}
use Rattle.message_end.specs.Own.{Has}
use Rattle.spool_law.specs.Shelf.{change_of}
use Rattle.spool_works.specs.DiskWorks.{DiskWork, fronts_of, up_to_change}
use Rattle.trace_log.specs.Log.{Happening, is_before_change}
use Rattle.spool_works.proofs.EachFront.{each-front}
use Rattle.message_end.proofs.Growing.{behind-both}
use Rattle.tool_spool.specs.MadeRoom.{IsRoomUsed, IsUsedBy}

-- a line before a change leaves none
line-used : (what : Happening) (before : List Happening) → is_before_change what ≡ true
    → IsUsedBy (change_of what) before
line-used (Happening.Storing number message) before is = tt
line-used (Happening.Leaving number why room_for) before is = tt
line-used (Happening.Keeping primary) before is = tt
line-used (Happening.Listing number listed) before is = tt
line-used what before is = absurd (cc)

module _ (base : List Happening) where
  -- behind what was noted before the step
  abbrev IsUsed : List Happening → Type 0
  IsUsed notes = IsRoomUsed (noted_behind notes base)

  ends-used : (before : List Happening) (what : Happening) → is_before_change what ≡ true
      → IsUsed (before ++ what ∷ [])
  ends-used before what is =
      subst IsRoomUsed (sym (behind-both before (what ∷ []) base))
      (line-used what (noted_behind before base) is)

  -- up to the first line before a change, or all of them
  up-used : (notes before : List Happening) → IsUsed (before ++ notes) → IsUsed (before ++ up_to_change notes)
  up-used [] before used = used
  up-used (what ∷ rest) before used =
      go (is_before_change what) refl
      (λ more. subst IsUsed (append_assoc before (what ∷ []) (up_to_change rest))
      (up-used rest (before ++ what ∷ []) (subst IsUsed (sym (append_assoc before (what ∷ []) rest)) more)))
    where
      go : (is_one : Bool) → is_before_change what ≡ is_one
          → (IsUsed (before ++ what ∷ rest) → IsUsed (before ++ what ∷ up_to_change rest))
          → IsUsed (before ++ what ∷ (if is_one then [] else up_to_change rest))
      go true is later = ends-used before what is
      go false is later = later used

  pub fronts-used :
      (works : List DiskWork) (before notes front : List Happening) → IsUsed before → IsUsed (before ++ notes)
      → Has (fronts_of before works notes) front → IsUsed front
  fronts-used = each-front IsUsed (λ before notes used. up-used notes before used)
