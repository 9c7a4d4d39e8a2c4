-- Of one work alone none stands before it.
use Rattle.std.proofs.Common.{◌≡◌, zero, suc, ℕ, [], ◌∷◌, Some}
use Rattle.std.specs.List.{slice_get}
use Rattle.disk_base.specs.declared.disk.Disk as disk
use Rattle.gem_spool.specs.Works.{HasUndone}
use Rattle.gem_spool.specs.declared.spool.GemSpool.{GemSpool}
use Rattle.gem_spool.specs.declared.works.Work.{Work}
use Rattle.spool_slots.specs.declared.states.Spent.{Spent}

none-behind : (one failed : Work) (n : ℕ) → slice_get (one ∷ []) (suc n) ≡ Some failed → ⊥
none-behind one failed n is = cc

pub first-undone :
    {D : Type 0} (members : disk.Ghosts D) (g : GemSpool D) (one : Work) (at : ℕ) (spent : Spent D)
    → HasUndone members g (one ∷ []) (record { at = at; spent = spent })
    → HasUndone members g (one ∷ []) (record { at = 0; spent = spent })
first-undone members g one zero spent is = is
first-undone members g one (suc n) spent is = absurd (none-behind one is.failed n is.is)
