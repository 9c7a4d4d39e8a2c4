-- The first slot whose fields break is the break; with none left none do. The slots so far were read.
use Rattle.std.proofs.Common.{◌≡◌, ◌∙◌, None, arith, length-set, subst}
use Rattle.disk_base.specs.declared.disk.DiskAnswer.TheVariants.{Done, Failed}
use Rattle.spool_file.specs.Area.{first_at}
use Rattle.spool_file.proofs.Firsts.{first_found, first_next}
use Rattle.recipe_disk.specs.File.{fields_at}
use Rattle.recipe_disk.specs.Hints.{AreHints}
use Rattle.recipe_disk.specs.Slot.{slot_in}
use Rattle.recipe_disk.proofs.Hinted.{hints_next}
use Rattle.recipe_disk.proofs.Made.{looked_behind}
use Rattle.recipe_disk.proofs.scan.check_all_fields.Goals as goal

pub returns-in-Broken-clause-fields : goal.returns-in-Broken-clause-fields
returns-in-Broken-clause-fields g c s is =
    let found = c.in-Broken.ensures.fields s (c.loop-slot.invariant.1.told ∙ is) in (
      first_found (fields_at (slot_in s.now.bytes)) c.loop-slot.slot c.args.slots c.in-Broken.not_spool.at c.loop-slot-test.true (c.loop-slot.invariant.0 s is) found.0,
      found.1,
    )

pub returns-in-Broken-clause-looked : goal.returns-in-Broken-clause-looked
returns-in-Broken-clause-looked g c = looked_behind g.D.Disk _ _ _ Done c.loop-slot.invariant.1 c.in-Broken.ensures.looked

pub returns-in-Failed-clause-looked : goal.returns-in-Failed-clause-looked
returns-in-Failed-clause-looked g c = looked_behind g.D.Disk _ _ _ Failed c.loop-slot.invariant.1 c.in-Failed.ensures.looked

pub loop-slot-preserved : goal.loop-slot-preserved
loop-slot-preserved g c = (
  λ s is.
      first_next (fields_at (slot_in s.now.bytes)) c.loop-slot.slot (c.loop-slot.invariant.0 s is)
      (c.in-Whole.ensures.fields s (c.loop-slot.invariant.1.told ∙ is)).0,
  looked_behind g.D.Disk _ _ _ Done c.loop-slot.invariant.1 c.in-Whole.ensures.looked,
  c.in-Whole.ensures.looked.made.size ∙ c.loop-slot.invariant.2,
  λ s is.
      hints_next (slot_in s.now.bytes) c.loop-slot.slot c.loop-slot.hints c.in-Whole.hint (omega (arith, c.loop-slot.invariant.4, c.loop-slot-test.true, c.requires.most))
      (c.loop-slot.invariant.3 s is) (c.in-Whole.ensures.fields s (c.loop-slot.invariant.1.told ∙ is)).1,
  length-set _ _ _ ∙ c.loop-slot.invariant.4,
)

pub returns-clause-fields : goal.returns-clause-fields
returns-clause-fields g c s is =
    let end : c.loop-slot.slot ≡ c.args.slots = omega (arith, c.loop-slot-test.false, c.loop-slot.auto.slot-end) in (
      subst (λ n. first_at (fields_at (slot_in s.now.bytes)) n ≡ None) end (c.loop-slot.invariant.0 s is),
      subst (λ n. AreHints (slot_in s.now.bytes) n c.loop-slot.hints) end (c.loop-slot.invariant.3 s is),
    )
