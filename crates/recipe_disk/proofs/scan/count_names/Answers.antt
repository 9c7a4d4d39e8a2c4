-- The first slot with the number of an earlier one is the break; with none left the names of all are counted.
use Rattle.std.proofs.Common.{◌≡◌, ◌∙◌, ◌+◌, ◌≤◌, None, arith, refl, subst, sym}
use Rattle.std.specs.FinMap.{len, len-empty}
use Rattle.disk_base.specs.declared.disk.DiskAnswer.TheVariants.{Done, Failed}
use Rattle.gem_recipes.specs.Recipes.{Recipe, by_bytes}
use Rattle.spool_file.specs.Area.{first_at}
use Rattle.spool_file.proofs.Firsts.{first_found, first_next}
use Rattle.recipe_disk.specs.File.{number_at}
use Rattle.recipe_disk.specs.Map.{recipes_below}
use Rattle.recipe_disk.specs.Slot.{slot_in}
use Rattle.recipe_disk.proofs.Made.{looked_behind, looked_none}
use Rattle.recipe_disk.proofs.Scanning.{names_most, names_next}
use Rattle.recipe_disk.proofs.scan.count_names.Goals as goal

pub loop-slot-init : goal.loop-slot-init
loop-slot-init g c = (λ s is. (refl, sym (len-empty by_bytes Recipe)), looked_none g.D.Disk _, refl, omega arith)

pub returns-in-Broken-clause-names : goal.returns-in-Broken-clause-names
returns-in-Broken-clause-names g c s is =
    let found = c.in-Broken.ensures.number s (c.loop-slot.invariant.1.told ∙ is) in (
      first_found (number_at (slot_in s.now.bytes)) c.loop-slot.slot c.args.slots c.in-Broken.not_spool.at c.loop-slot-test.true (c.loop-slot.invariant.0 s is).0 found.0,
      found.1,
    )

pub returns-in-Broken-clause-looked : goal.returns-in-Broken-clause-looked
returns-in-Broken-clause-looked g c = looked_behind g.D.Disk _ _ _ Done c.loop-slot.invariant.1 c.in-Broken.ensures.looked

pub returns-in-Failed-clause-looked : goal.returns-in-Failed-clause-looked
returns-in-Failed-clause-looked g c = looked_behind g.D.Disk _ _ _ Failed c.loop-slot.invariant.1 c.in-Failed.ensures.looked

pub loop-slot-preserved : goal.loop-slot-preserved
loop-slot-preserved g c = (
  λ s is.
      let before = c.loop-slot.invariant.0 s is in
      let here = c.in-Whole.ensures.number s (c.loop-slot.invariant.1.told ∙ is) in (
        first_next (number_at (slot_in s.now.bytes)) c.loop-slot.slot before.0 here.0,
        c.count_with-names.ensures ∙ names_next (slot_in s.now.bytes) c.loop-slot.slot c.loop-slot.names c.in-Whole.is_new before.1 here.1,
      ),
  looked_behind g.D.Disk _ _ _ Done c.loop-slot.invariant.1 c.in-Whole.ensures.looked,
  c.in-Whole.ensures.looked.made.size ∙ c.loop-slot.invariant.2,
  subst (λ n. n ≤ c.loop-slot.slot + 1) (sym c.count_with-names.ensures) (names_most c.in-Whole.is_new c.loop-slot.names c.loop-slot.slot c.loop-slot.invariant.3),
)

pub returns-clause-names : goal.returns-clause-names
returns-clause-names g c s is =
    let end : c.loop-slot.slot ≡ c.args.slots = omega (arith, c.loop-slot-test.false, c.loop-slot.auto.slot-end) in
    subst (λ n. (first_at (number_at (slot_in s.now.bytes)) n ≡ None) × (c.loop-slot.names ≡ len (recipes_below (slot_in s.now.bytes) n))) end
    (c.loop-slot.invariant.0 s is)
