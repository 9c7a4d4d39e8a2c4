use Rattle.std.proofs.Common.{subst, sym}
use Rattle.std.specs.Prelude.{Err}
use Rattle.gem_recipes.specs.contracts.no_recipes.NoRecipesRecipeKeeper.TheImpl.{ghosts as no_keepers}
use Rattle.equipment_node.specs.HandedBack.{StartHandsBack}
use Rattle.equipment_node.specs.Held.{Begins, FindsFile}
use Rattle.equipment_node.specs.StartCalls.{CallsInStart}
use Rattle.equipment_node.proofs.HandingBack.{start-then, taken-back, untaken-back}
use Rattle.equipment_node.proofs.SpentMoves.{begun-by-cause}
use Rattle.equipment_node.proofs.StartCalled.{looked-only, looked-through}
use Rattle.equipment_node.proofs.TakenUp.{begun-over, found, is-fresh, not-found, not-taken, taken-sure}
use Rattle.equipment_node.proofs.equipment.start_without.Goals as goal

pub returns-in-Ok-clause-begins : goal.returns-in-Ok-clause-begins
returns-in-Ok-clause-begins g c s told =
    begun-over g.D.Disk c.args.raw.disk s told c.in-Ok.spool c.in-Ok.ensures c.args.plan.now c.requires.plan
    c.start_over.new.out c.start_over.result
    (c.start_over.ensures.starts (is-fresh g.D.Disk c.args.raw.disk s told c.in-Ok.spool c.in-Ok.ensures))

pub returns-in-Ok-clause-calls : goal.returns-in-Ok-clause-calls
returns-in-Ok-clause-calls g c s told =
    looked-through g.D.Disk c.args.raw.disk s told c.in-Ok.spool c.in-Ok.ensures c.start_over.result
    (c.start_over.ensures.calls (is-fresh g.D.Disk c.args.raw.disk s told c.in-Ok.spool c.in-Ok.ensures))

pub returns-in-Err-clause-begins : goal.returns-in-Err-clause-begins
returns-in-Err-clause-begins g c s told =
    subst (λ e. Begins g.D.Disk no_keepers c.args.plan.now s c.args.out.now (Err e)) (sym c.why_not.ensures)
    (not-taken g.D.Disk c.args.raw.disk s told c.args.plan.now c.args.out.now c.in-Err.unknown c.requires.out
    c.in-Err.ensures)

pub returns-in-Ok-clause-spent : goal.returns-in-Ok-clause-spent
returns-in-Ok-clause-spent g c s told =
    begun-by-cause g.D.Disk c.args.plan.now s c.start_over.new.out c.start_over.result
    (returns-in-Ok-clause-begins g c s told)

pub returns-in-Err-clause-spent : goal.returns-in-Err-clause-spent
returns-in-Err-clause-spent g c s told =
    begun-by-cause g.D.Disk c.args.plan.now s c.args.out.now (Err c.why_not.result)
    (returns-in-Err-clause-begins g c s told)

pub returns-in-Err-clause-calls : goal.returns-in-Err-clause-calls
returns-in-Err-clause-calls g c s told =
    subst (λ e. CallsInStart g.D.Disk c.args.raw.disk s.now.bytes (Err e)) (sym c.why_not.ensures)
    (looked-only g.D.Disk c.args.raw.disk s told c.in-Err.unknown c.in-Err.ensures)

pub returns-in-Ok-clause-disk : goal.returns-in-Ok-clause-disk
returns-in-Ok-clause-disk g c =
    start-then g.D.Disk c.args.raw.disk c.in-Ok.spool.disk c.start_over.result
    (taken-back g.D.Disk c.args.raw.disk c.in-Ok.spool c.in-Ok.ensures) c.start_over.ensures.disk

pub returns-in-Err-clause-disk : goal.returns-in-Err-clause-disk
returns-in-Err-clause-disk g c =
    subst (λ e. StartHandsBack g.D.Disk c.args.raw.disk (Err e)) (sym c.why_not.ensures)
    (untaken-back g.D.Disk c.args.raw.disk c.in-Err.unknown c.in-Err.ensures)

pub returns-in-Ok-clause-finds : goal.returns-in-Ok-clause-finds
returns-in-Ok-clause-finds g c s told =
    found g.D.Disk c.args.raw.disk s told c.in-Ok.spool c.in-Ok.ensures c.args.plan.now c.start_over.new.out
    c.start_over.result
    (c.start_over.ensures.starts (is-fresh g.D.Disk c.args.raw.disk s told c.in-Ok.spool c.in-Ok.ensures))

pub returns-in-Err-clause-finds : goal.returns-in-Err-clause-finds
returns-in-Err-clause-finds g c s told =
    subst (λ e. FindsFile s (Err e)) (sym c.why_not.ensures) (not-found s c.in-Err.unknown)

pub returns-in-Ok-clause-keeps : goal.returns-in-Ok-clause-keeps
returns-in-Ok-clause-keeps g c =
    taken-sure g.D.Disk c.args.raw.disk c.in-Ok.spool c.in-Ok.ensures c.start_over.result c.start_over.ensures.keeps
