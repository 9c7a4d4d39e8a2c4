-- Each end is by what was found and written.
use Rattle.std.proofs.Common.{◌≤◌, subst, sym}
use Rattle.disk_base.specs.declared.disk.DiskAnswer.TheVariants.{Done, Failed}
use Rattle.recipe_disk.specs.Slot.{slot_place}
use Rattle.recipe_disk.proofs.Answering.{delete_dropped, delete_failed, delete_not_looked, delete_unknown, written_one}
use Rattle.recipe_disk.proofs.Hinted.{known_looked}
use Rattle.recipe_disk.proofs.keeper.delete_on.Goals as goal

pub returns-in-Err-clause-done : goal.returns-in-Err-clause-done
returns-in-Err-clause-done g c = delete_not_looked g.D.Disk c.args.slots _ c.args.name.now c.requires.kept _ c.in-Err.ensures.looked

pub returns-in-None-clause-done : goal.returns-in-None-clause-done
returns-in-None-clause-done g c =
    delete_unknown g.D.Disk c.args.slots _ c.args.name.now c.requires.kept _ c.in-Ok.found c.in-Ok.ensures.looked c.in-Ok.ensures.found c.in-None.is

pub returns-in-Done-clause-done : goal.returns-in-Done-clause-done
returns-in-Done-clause-done g c =
    delete_dropped g.D.Disk c.args.slots _ c.args.name.now c.requires.kept _ c.in-Ok.found c.in-Ok.ensures.looked c.in-Ok.ensures.found c.in-Some.slot c.in-Some.is _
    (written_one g.D.Disk _ _ _ _ Done c.in-Done.ensures.settled)

pub returns-in-Failed-clause-done : goal.returns-in-Failed-clause-done
returns-in-Failed-clause-done g c =
    delete_failed g.D.Disk c.args.slots _ c.args.name.now c.requires.kept _ c.in-Ok.found c.in-Ok.ensures.looked c.in-Ok.ensures.found c.in-Some.slot c.in-Some.is _
    (written_one g.D.Disk _ _ _ _ Failed c.in-Failed.ensures.settled)

pub returns-in-None-clause-known : goal.returns-in-None-clause-known
returns-in-None-clause-known g c = known_looked _ _ _ _ c.in-Ok.ensures.looked.told c.requires.known

pub returns-in-Done-clause-known : goal.returns-in-Done-clause-known
returns-in-Done-clause-known g c =
    c.in-Done.ensures.known c.args.slots
    (subst (λ n. slot_place c.args.slots ≤ n) (sym c.in-Ok.ensures.looked.made.size) c.requires.kept.inside)
    (known_looked _ _ _ _ c.in-Ok.ensures.looked.told c.requires.known)
