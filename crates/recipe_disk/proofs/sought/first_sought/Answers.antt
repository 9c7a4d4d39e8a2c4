-- The first such slot decides; without one none is such a one. What was read of the slots so far was read alone.
use Rattle.std.proofs.Common.{◌≡◌, ◌∙◌, Some, None, ap, arith, false, subst, sym, if◌then◌else◌}
use Rattle.disk_base.specs.declared.disk.DiskAnswer.TheVariants.{Done, Failed}
use Rattle.spool_file.proofs.Firsts.{first_found, first_next}
use Rattle.recipe_disk.specs.Hints.{first_there, is_there}
use Rattle.recipe_disk.proofs.Hinted.{place_if}
use Rattle.recipe_disk.proofs.Made.{looked_behind}
use Rattle.recipe_disk.proofs.sought.first_sought.Goals as goal

pub returns-then-found-clause-found : goal.returns-then-found-clause-found
returns-then-found-clause-found g c s told =
    let here = c.in-Ok.ensures.found s (c.loop-slot.invariant.1.told ∙ told) (c.hint_at-hint.ensures ∙ c.requires.known s told c.loop-slot.slot c.hint_at-hint.result c.loop-slot-test.true) in
    sym (first_found (place_if (is_there c.args.sought s.now.bytes)) c.loop-slot.slot c.args.slots c.loop-slot.slot c.loop-slot-test.true
    (c.loop-slot.invariant.0 s told) (ap (λ b. if b then Some c.loop-slot.slot else None) (sym here ∙ c.if-found.true)))

pub returns-then-found-clause-looked : goal.returns-then-found-clause-looked
returns-then-found-clause-looked g c = looked_behind g.D.Disk _ _ _ Done c.loop-slot.invariant.1 c.in-Ok.ensures.looked

pub returns-in-Err-clause-looked : goal.returns-in-Err-clause-looked
returns-in-Err-clause-looked g c = looked_behind g.D.Disk _ _ _ Failed c.loop-slot.invariant.1 c.in-Err.ensures.looked

pub loop-slot-preserved : goal.loop-slot-preserved
loop-slot-preserved g c = (
  λ s told.
      let here = c.in-Ok.ensures.found s (c.loop-slot.invariant.1.told ∙ told) (c.hint_at-hint.ensures ∙ c.requires.known s told c.loop-slot.slot c.hint_at-hint.result c.loop-slot-test.true) in
      first_next (place_if (is_there c.args.sought s.now.bytes)) c.loop-slot.slot (c.loop-slot.invariant.0 s told)
      (ap (λ b. if b then Some c.loop-slot.slot else None) (sym here ∙ c.if-found.false)),
  looked_behind g.D.Disk _ _ _ Done c.loop-slot.invariant.1 c.in-Ok.ensures.looked,
  c.in-Ok.ensures.looked.made.size ∙ c.loop-slot.invariant.2,
)

pub returns-clause-found : goal.returns-clause-found
returns-clause-found g c s told =
    let end : c.loop-slot.slot ≡ c.args.slots = omega (arith, c.loop-slot-test.false, c.loop-slot.auto.slot-end) in
    sym (subst (λ n. first_there c.args.sought s.now.bytes n ≡ None) end (c.loop-slot.invariant.0 s told))
