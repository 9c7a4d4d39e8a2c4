-- The recipe's writes, and the one that closes the old slot behind them.
use Rattle.std.proofs.Common.{◌≤◌, ℕ, Option, Some, subst, sym}
use Rattle.disk_base.specs.declared.disk.DiskAnswer.TheVariants.{Done}
use Rattle.recipe_disk.specs.Changes.{HasWritten, close_writes, open_writes, put_writes}
use Rattle.recipe_disk.specs.Slot.{slot_place}
use Rattle.recipe_disk.proofs.Answering.{written_behind, written_one}
use Rattle.recipe_disk.proofs.Hinted.{still_both}
use Rattle.recipe_disk.proofs.Keeping.{made_written}
use Rattle.recipe_disk.proofs.settling.replace.Goals as goal

pub returns-in-Some-clause-written : goal.returns-in-Some-clause-written
returns-in-Some-clause-written g c =
    subst
    (λ (o : Option ℕ). HasWritten g.D.Disk c.args.disk.now c.close_slot.new.disk
    (put_writes c.args.slot o c.args.recipe.now.number c.args.recipe.now.name.now c.args.recipe.now.body.now) c.close_slot.result)
    (sym c.in-Some.is)
    (written_behind g.D.Disk _ _ _ (open_writes c.args.slot c.args.recipe.now.number c.args.recipe.now.name.now c.args.recipe.now.body.now)
    (close_writes (Some c.in-Some.old)) c.close_slot.result c.in-Done.ensures.written
    (written_one g.D.Disk _ _ (slot_place c.in-Some.old) _ c.close_slot.result c.close_slot.ensures.settled))

pub returns-in-Some-clause-known : goal.returns-in-Some-clause-known
returns-in-Some-clause-known g c n few =
    still_both _ _ _ _ _ _ _ c.close_slot.result (c.in-Done.ensures.known n few)
    (c.close_slot.ensures.known n (subst (λ m. slot_place n ≤ m) (sym (made_written g.D.Disk _ _ (open_writes c.args.slot c.args.recipe.now.number c.args.recipe.now.name.now c.args.recipe.now.body.now) Done c.in-Done.ensures.written).size) few))

pub returns-in-None-clause-known : goal.returns-in-None-clause-known
returns-in-None-clause-known g c n few = c.in-Done.ensures.known n few
