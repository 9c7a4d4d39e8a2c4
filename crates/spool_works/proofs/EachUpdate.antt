-- That the updates of a work make what the work makes.
use Rattle.std.proofs.Common.{◌≡◌, refl, sym, ap, List, [], ◌∷◌, ◌∙◌}
use Rattle.gate_cell.specs.Cell.{Cell}
use Rattle.gem_spool.specs.Standing.{Standing}
use Rattle.gem_spool.specs.Updates.{behind_updates}
use Rattle.gem_spool.specs.Works.{floor_above, purge_updates, standing_after}
use Rattle.gem_spool.specs.declared.works.Work.TheVariants as work
use Rattle.spool_file.specs.Slot.{Message}
use Rattle.spool_works.specs.DiskWorks.{WorksAreUpdates}
use Rattle.spool_works.specs.DiskWorks.DiskWork.{Change, Keep, ReadOldest, Reserve}

purge-behind : (st : Standing) (list : List Message) → st.file.list ≡ list
    → behind_updates st (purge_updates list st) ≡ standing_after st work.Purge
purge-behind st [] is =
    ap (λ (all : List Message). with_list st.file.floor all) is
    ∙ sym (ap (λ (all : List Message). with_list (floor_above st.next all st.file.floor) []) is)
  where
    with_list : Cell → List Message → Standing
    with_list floor all = record st { file = record st.file { floor = floor; list = all } }
purge-behind st (message ∷ list) is = refl

pub works-are-updates : WorksAreUpdates
works-are-updates st Reserve = refl
works-are-updates st (Keep bytes) = refl
works-are-updates st (ReadOldest slots) = refl
works-are-updates st (Change (work.Put stream function body)) = refl
works-are-updates st (Change (work.DropOldest slots)) = refl
works-are-updates st (Change work.Purge) = purge-behind st st.file.list refl
