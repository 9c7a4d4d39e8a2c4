-- That works hand back the device of their spool.
use Rattle.std.proofs.Common.{inl, inr, refl, sym, subst, List, [], ◌∷◌, take, Ok, Err}
use Rattle.disk_base.specs.SameDisk.{IsSameDisk}
use Rattle.disk_base.specs.declared.disk.Disk as disk
use Rattle.disk_base.proofs.Stretches.{same_then}
use Rattle.gem_spool.specs.Works.{Does, DoesAll, HasCarried, HasUndone}
use Rattle.gem_spool.specs.declared.spool.GemSpool.{GemSpool}
use Rattle.gem_spool.specs.declared.works.Undone.{Undone}
use Rattle.gem_spool.specs.declared.works.Work.{Work}
use Rattle.gem_spool.specs.declared.works.Work.TheVariants as work
use Rattle.spool_slots.specs.Changes.{Clears}
use Rattle.spool_slots.specs.Spool.{SpoolView}
use Rattle.spool_slots.specs.declared.states.Spent.{Spent}
use Rattle.spool_works.specs.HandedBack.{HasFailed, IsKept}

module _ {D : Type 0} (members : disk.Ghosts D) where
  abbrev pub Same : D → D → Type 0
  Same old new = IsSameDisk members old new

  pub same-still : (a : D) → Same a a
  same-still a = (refl, refl, refl)

  cleared-same : (v w : SpoolView D) → Clears members v (Ok w) → Same v.disk w.disk
  cleared-same v w (inl (none, at_first, same, empty)) =
      subst (λ (x : SpoolView D). Same v.disk x.disk) (sym same) (same-still v.disk)
  cleared-same v w (inr (moves, is)) = moves.1.0.same_disk

  work-same : (g h : GemSpool D) (one : Work) → Does members g one (Ok h) → Same g.spool.disk h.spool.disk
  work-same g h (work.Put stream function body) does =
      let both = does.1 in same_then both.1.0.made.same_disk both.2.0.disk.same_disk
  work-same g h (work.DropOldest slots) does = does.0.0.made.same_disk
  work-same g h work.Purge does = cleared-same g.spool h.spool does.0

  work-failed-same :
      (g : GemSpool D) (spent : Spent D) (one : Work) → Does members g one (Err spent) → Same g.spool.disk spent.disk
  work-failed-same g spent (work.Put stream function body) (put, inl staged) = staged.0.made.same_disk
  work-failed-same g spent (work.Put stream function body) (put, inr (u, staged, sealed)) =
      same_then staged.0.made.same_disk sealed.0.disk.same_disk
  work-failed-same g spent (work.DropOldest slots) does = does.0.made.same_disk
  work-failed-same g spent work.Purge does = does.1.0.same_disk

  works-same : (works : List Work) (g h : GemSpool D) → DoesAll members g works h → Same g.spool.disk h.spool.disk
  works-same [] g h is = subst (λ (x : GemSpool D). Same g.spool.disk x.spool.disk) (sym is) (same-still g.spool.disk)
  works-same (one ∷ works) g h (u, first, more) = same_then (work-same g u one first) (works-same works u h more)

  pub carried-back : (g h : GemSpool D) (works : List Work) → HasCarried members g works h
      → IsKept members g.spool.disk h.spool.disk
  carried-back g h works is =
      record { same_disk = works-same works g h is.done; count = is.goes_on.cause.same }

  pub undone-back : (g : GemSpool D) (works : List Work) (undone : Undone D) → HasUndone members g works undone
      → HasFailed members g.spool.disk undone.spent.disk
  undone-back g works undone is = record {
    same_disk = same_then (works-same (take undone.at works) g is.before is.done)
        (work-failed-same is.before undone.spent is.failed is.fails);
    rose = is.goes_on.cause.rose;
  }
