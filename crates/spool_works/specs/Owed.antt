-- What a step owes to the disk behind all that it is given, carried out (this profile).
use Rattle.std.specs.Prelude.{◌≡◌, ◌⊎◌, ℕ, List, [], ◌∷◌, ◌++◌, length, map, Option, Some, None, Result, Ok, Err}
use Rattle.disk_base.specs.declared.disk.Disk as disk
use Rattle.gem_spool.specs.Works.{HasCarried, HasUndone}
use Rattle.gem_spool.specs.declared.spool.GemSpool.{GemSpool}
use Rattle.gem_spool.specs.declared.works.Undone.{Undone}
use Rattle.gem_spool.specs.declared.works.Work.{Work}
use Rattle.spool_works.specs.DiskWorks.{DiskWork}
use Rattle.spool_works.specs.DiskWorks.DiskWork.{Change, Keep}
use Rattle.spool_works.specs.KeptSetup.{KeepsSetup}

-- changes of the list, and then a keep, if there is one
abbrev pub keep_by : Option (List ℕ) → List DiskWork
keep_by None = []
keep_by (Some bytes) = Keep bytes ∷ []

abbrev pub owed_works : List Work → Option (List ℕ) → List DiskWork
owed_works works setup = map Change works ++ keep_by setup

-- the setup was kept behind so many changes, where one is owed
abbrev pub KeepsOwed :
    {D : Type 0} → disk.Ghosts D → GemSpool D → Option (List ℕ) → ℕ → Result (GemSpool D) (Undone D) → Type 0
KeepsOwed members g None at (Ok h) = h ≡ g
KeepsOwed members g None at (Err undone) = ⊥
KeepsOwed members g (Some bytes) at (Ok h) = KeepsSetup members g bytes (Ok h)
KeepsOwed members g (Some bytes) at (Err undone) = KeepsSetup members g bytes (Err undone.spent) × (undone.at ≡ at)

-- the changes are done, and the setup is kept; or the disk failed at one of these
abbrev pub CarriesOwed :
    {D : Type 0} → disk.Ghosts D → GemSpool D → List Work → Option (List ℕ) → Result (GemSpool D) (Undone D) → Type 0
CarriesOwed {D} members g works setup (Ok h) =
    (u : GemSpool D) × HasCarried members g works u × KeepsOwed members u setup (length works) (Ok h)
CarriesOwed {D} members g works setup (Err undone) =
    HasUndone members g works undone
    ⊎ ((u : GemSpool D) × HasCarried members g works u × KeepsOwed members u setup (length works) (Err undone))
