-- One slot more is a holder or closed; the calls are reads, zeros and syncs.
use Rattle.std.proofs.Common.{◌≡◌, ◌∙◌, arith, refl, subst}
use Rattle.disk_base.specs.declared.disk.DiskAnswer.TheVariants.{Done, Failed}
use Rattle.recipe_disk.specs.Opening.{IsTidyCall, TidiesTo}
use Rattle.recipe_disk.proofs.Closing.{tidies_failed, tidies_next, tidies_none}
use Rattle.recipe_disk.proofs.Made.{made_behind, made_none}
use Rattle.recipe_disk.proofs.tidying.close_stale.Goals as goal

pub loop-slot-init : goal.loop-slot-init
loop-slot-init g c = (tidies_none _ _, made_none g.D.Disk IsTidyCall _, refl, c.requires.known)

pub loop-slot-preserved : goal.loop-slot-preserved
loop-slot-preserved g c = (
  tidies_next _ _ _ c.args.slots c.loop-slot.slot c.loop-slot.invariant.0 c.in-Done.ensures.told,
  made_behind g.D.Disk IsTidyCall _ _ _ Done c.loop-slot.invariant.1 c.in-Done.ensures.made,
  c.in-Done.ensures.made.size ∙ c.loop-slot.invariant.2,
  c.in-Done.ensures.known c.loop-slot.invariant.3,
)

pub returns-in-Failed-clause-told : goal.returns-in-Failed-clause-told
returns-in-Failed-clause-told g c =
    tidies_failed _ _ _ c.args.slots c.loop-slot.slot c.args.slots c.loop-slot.invariant.0 c.in-Failed.ensures.told

pub returns-in-Failed-clause-made : goal.returns-in-Failed-clause-made
returns-in-Failed-clause-made g c = made_behind g.D.Disk IsTidyCall _ _ _ Failed c.loop-slot.invariant.1 c.in-Failed.ensures.made

pub returns-clause-told : goal.returns-clause-told
returns-clause-told g c =
    let end : c.loop-slot.slot ≡ c.args.slots = omega (arith, c.loop-slot-test.false, c.loop-slot.auto.slot-end) in
    subst (λ n. TidiesTo (g.D.Disk.told c.args.disk.now) (g.D.Disk.told c.loop-slot.disk) c.args.slots n Done) end c.loop-slot.invariant.0

pub returns-clause-known : goal.returns-clause-known
returns-clause-known g c known = c.loop-slot.invariant.3
