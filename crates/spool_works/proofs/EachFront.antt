-- What holds of the notes in front of some works, of these with all that follow, and of all up to a line of a change,
-- holds of what is noted at each work.
use Rattle.std.proofs.Common.{◌≡◌, ◌∙◌, refl, sym, ap, subst, inl, inr, Bool, true, false, if◌then◌else◌, List, [], ◌∷◌}
use Rattle.std.proofs.Common.{◌++◌, append_assoc}
use Rattle.message_end.specs.Own.{Has}
use Rattle.trace_log.specs.Log.{Happening, is_before_change}
use Rattle.spool_works.specs.DiskWorks.{DiskWork, behind_change, front_at, fronts_of, lines_behind, lines_up_to}
use Rattle.spool_works.specs.DiskWorks.{up_to_change}
use Rattle.spool_works.specs.DiskWorks.DiskWork.{Change, Keep, ReadOldest, Reserve}

pub split-change : (notes : List Happening) → notes ≡ up_to_change notes ++ behind_change notes
split-change [] = refl
split-change (what ∷ rest) = go (is_before_change what) (split-change rest)
  where
    go : (is_one : Bool) → rest ≡ up_to_change rest ++ behind_change rest
        → what ∷ rest
        ≡ (what ∷ (if is_one then [] else up_to_change rest)) ++ (if is_one then rest else behind_change rest)
    go true same = refl
    go false same = ap (λ (ns : List Happening). what ∷ ns) same

pub up-to : (before notes : List Happening) → before ++ notes ≡ (before ++ up_to_change notes) ++ behind_change notes
up-to before notes =
    ap (λ (ns : List Happening). before ++ ns) (split-change notes)
    ∙ sym (append_assoc before (up_to_change notes) (behind_change notes))

-- a work takes none away
pub lines-whole : (one : DiskWork) (before notes : List Happening) →
    before ++ notes ≡ lines_up_to one before notes ++ lines_behind one notes
lines-whole Reserve before notes = refl
lines-whole (Change work) before notes = up-to before notes
lines-whole (Keep bytes) before notes = up-to before notes
lines-whole (ReadOldest slots) before notes = refl

-- the notes in front of what comes behind some works, and those behind
abbrev pub all_up_to : List DiskWork → (before notes : List Happening) → List Happening
all_up_to [] before notes = before
all_up_to (one ∷ works) before notes = all_up_to works (lines_up_to one before notes) (lines_behind one notes)

abbrev pub all_behind : List DiskWork → List Happening → List Happening
all_behind [] notes = notes
all_behind (one ∷ works) notes = all_behind works (lines_behind one notes)

-- works take none away
pub all-whole : (works : List DiskWork) (before notes : List Happening) →
    before ++ notes ≡ all_up_to works before notes ++ all_behind works notes
all-whole [] before notes = refl
all-whole (one ∷ works) before notes =
    lines-whole one before notes ∙ all-whole works (lines_up_to one before notes) (lines_behind one notes)

-- so at each of two lists of works, one behind the other
pub both-fronts : (xs ys : List DiskWork) (before notes : List Happening) →
    fronts_of before (xs ++ ys) notes
    ≡ fronts_of before xs notes ++ fronts_of (all_up_to xs before notes) ys (all_behind xs notes)
both-fronts [] ys before notes = refl
both-fronts (x ∷ xs) ys before notes =
    ap (λ (fronts : List (List Happening)). front_at x before notes ∷ fronts)
    (both-fronts xs ys (lines_up_to x before notes) (lines_behind x notes))

module _ (P : List Happening → Type 0)
    (up : (before notes : List Happening) → P (before ++ notes) → P (before ++ up_to_change notes)) where
  at-front : (one : DiskWork) (before notes : List Happening) → P before → P (before ++ notes) →
      P (front_at one before notes)
  at-front Reserve before notes first all = first
  at-front (Change work) before notes first all = up before notes all
  at-front (Keep bytes) before notes first all = up before notes all
  at-front (ReadOldest slots) before notes first all = all

  behind-it : (one : DiskWork) (before notes : List Happening) → P before → P (before ++ notes) →
      P (lines_up_to one before notes)
  behind-it Reserve before notes first all = first
  behind-it (Change work) before notes first all = up before notes all
  behind-it (Keep bytes) before notes first all = up before notes all
  behind-it (ReadOldest slots) before notes first all = first

  pub each-front : (works : List DiskWork) (before notes front : List Happening) → P before → P (before ++ notes) →
      Has (fronts_of before works notes) front → P front
  each-front [] before notes front first all has = absurd has
  each-front (one ∷ works) before notes front first all (inl same) =
      subst P (sym same) (at-front one before notes first all)
  each-front (one ∷ works) before notes front first all (inr has) =
      each-front works (lines_up_to one before notes) (lines_behind one notes) front
      (behind-it one before notes first all) (subst P (lines-whole one before notes) all) has
