-- The slot that was found is such a one. What was read before was read alone.
use Rattle.std.proofs.Common.{◌≡◌, ◌∙◌, sym}
use Rattle.disk_base.specs.declared.disk.DiskAnswer.TheVariants.{Done, Failed}
use Rattle.recipe_disk.proofs.Made.{looked_behind}
use Rattle.recipe_disk.proofs.sought.one_sought.Goals as goal
use Rattle.recipe_disk.proofs.sought.one_sought.Goals.{then-slot-slots+in-Ok+else-found, else-slot-slots}

pub returns-then-found-clause-found : goal.returns-then-found-clause-found
returns-then-found-clause-found g c s told =
    sym (c.in-Ok.ensures.found s (c.loop-place.invariant.0.told ∙ told)
    (c.hint_at-hint.ensures ∙ c.requires.known s told _ c.hint_at-hint.result c.if-slot-slots.true))
    ∙ c.if-found.true

pub returns-then-found-clause-looked : goal.returns-then-found-clause-looked
returns-then-found-clause-looked g c = looked_behind g.D.Disk _ _ _ Done c.loop-place.invariant.0 c.in-Ok.ensures.looked

pub returns-in-Err-clause-looked : goal.returns-in-Err-clause-looked
returns-in-Err-clause-looked g c = looked_behind g.D.Disk _ _ _ Failed c.loop-place.invariant.0 c.in-Err.ensures.looked

pub loop-place-preserved : goal.loop-place-preserved
loop-place-preserved g c =
    elim c.if-slot-slots.branch [
      | then-slot-slots+in-Ok+else-found w ↦ rw (w.disk-is) (
        looked_behind g.D.Disk _ _ _ Done c.loop-place.invariant.0 w.in-Ok.ensures.looked,
        w.in-Ok.ensures.looked.made.size ∙ c.loop-place.invariant.1,
      )
      | else-slot-slots w ↦ rw (w.disk-is) c.loop-place.invariant
    ]
