-- What keeping a setup does to the spool of the equipment (this profile).
use Rattle.std.specs.Prelude.{◌≡◌, ◌⊎◌, List, ℕ, Result, Ok, Err}
use Rattle.disk_base.specs.declared.disk.Disk as disk
use Rattle.gem_spool.specs.declared.spool.GemSpool.{GemSpool}
use Rattle.setup_store.specs.OnDisk.{IsWithout, Keeps}
use Rattle.setup_store.specs.declared.store.Keeping.TheVariants as keeping
use Rattle.spool_slots.specs.declared.states.Spent.{Spent}

-- it was kept, and the switch is as it was; or there is no area, and nothing has changed; or the disk failed
abbrev pub KeepsSetup : {D : Type 0} → disk.Ghosts D → GemSpool D → List ℕ → Result (GemSpool D) (Spent D) → Type 0
KeepsSetup members g bytes (Ok h) =
    (Keeps members g.spool bytes (Ok h.spool) × (h.active ≡ g.active))
    ⊎ (IsWithout members g.spool × (h ≡ g))
KeepsSetup members g bytes (Err spent) = Keeps members g.spool bytes (Err (keeping.Failed spent))
