-- Losses of a work, and those behind others.
use Rattle.std.proofs.Common.{◌≡◌, refl, sym, ap, ◌∙◌, suc, zero, Bool, true, false, ℕ, List, [], ◌∷◌, ◌++◌}
use Rattle.std.proofs.Common.{drop, length, map, take, Some, if◌then◌else◌}
use Rattle.std.specs.Prelude.{slice_get}
use Rattle.disk_base.specs.Story.{Story}
use Rattle.gem_spool.specs.Standing.{Standing}
use Rattle.message_flow.specs.declared.step.Note.{Note}
use Rattle.trace_log.specs.Log.{Happening}
use Rattle.message_end.specs.Ends.{printed}
use Rattle.equipment_node.specs.Breaking.{HasBrokenAt}
use Rattle.spool_works.specs.Breaking.{HasLeftAt}
use Rattle.spool_works.specs.DiskWorks.{DiskWork, standings_behind}
use Rattle.spool_works.specs.DiskWorks.DiskWork.{ReadOldest, Reserve}
use Rattle.tool_step.specs.Equipment.{EquipmentView}
use Rattle.spool_works.specs.WorkLosses.{calls_at, lost_calls}
use Rattle.tool_step.specs.Losses.{loss_at, losses_of}
use Rattle.spool_works.proofs.LossCounts.{lost-call}
use Rattle.equipment_node.proofs.BrokenSteps.{call-map}
use Rattle.spool_works.proofs.EachFront.{all-whole}
use Rattle.tool_step.proofs.LossCalls.{losses-both}

pub broken-of :
    (s : EquipmentView) (one : DiskWork) (st : Standing) (front : List Happening) (call : ℕ) (t : Story)
    (notes : List Note) → notes ≡ printed front → HasLeftAt (calls_at st one) call t
    → HasBrokenAt (map (loss_at s front) (lost_calls st one)) call t notes
broken-of s one st front call t notes noted at =
    let lost = lost-call st one call at.left at.is in
    record {
      loss = loss_at s front (lost.0, at.left);
      is = call-map (loss_at s front) (lost_calls st one) call (lost.0, at.left) lost.1;
      left = at.at;
      noted = noted;
    }

-- ---- losses behind others

abbrev pub read_by : (slots : ℕ) → Bool → List DiskWork
read_by slots reads = if reads then ReadOldest slots ∷ [] else []

abbrev pub reserve_by : Bool → List DiskWork
reserve_by is = if is then Reserve ∷ [] else []

module _ (s : EquipmentView) where
  -- at a read all is noted
  pub losses-read :
      (works : List DiskWork) (slots : ℕ) (reads : Bool) (st : Standing) (before notes : List Happening)
      → losses_of s st before (works ++ read_by slots reads) notes
      ≡ losses_of s st before works notes
      ++ losses_of s (standings_behind st works) [] (read_by slots reads) (before ++ notes)
  losses-read works slots true st before notes =
      losses-both s works (ReadOldest slots ∷ []) st before notes
      ∙ ap
      (λ (all : List Happening).
      losses_of s st before works notes
      ++ losses_of s (standings_behind st works) [] (ReadOldest slots ∷ []) all) (sym (all-whole works before notes))
  losses-read works slots false st before notes = losses-both s works [] st before notes

  pub losses-reserve :
      (is : Bool) (works : List DiskWork) (st : Standing) (notes : List Happening)
      → losses_of s st [] (reserve_by is ++ works) notes
      ≡ losses_of s st [] (reserve_by is) [] ++ losses_of s (standings_behind st (reserve_by is)) [] works notes
  losses-reserve true works st notes = refl
  losses-reserve false works st notes = refl

-- a list up to a place, the one at it, and those behind
pub parted : {X : Type 0} (xs : List X) (at : ℕ) (x : X) → slice_get xs at ≡ Some x
    → xs ≡ take at xs ++ x ∷ drop (suc at) xs
parted [] at x is = absurd (cc)
parted {X} (y ∷ xs) zero x is = ap (λ (z : X). z ∷ xs) (let same : y ≡ x = cc in same)
parted {X} (y ∷ xs) (suc at) x is = ap (λ (zs : List X). y ∷ zs) (parted xs at x is)

pub taken : {X : Type 0} (xs : List X) (at : ℕ) (x : X) → slice_get xs at ≡ Some x → length (take at xs) ≡ at
taken [] at x is = absurd (cc)
taken (y ∷ xs) zero x is = refl
taken (y ∷ xs) (suc at) x is = ap suc (taken xs at x is)
