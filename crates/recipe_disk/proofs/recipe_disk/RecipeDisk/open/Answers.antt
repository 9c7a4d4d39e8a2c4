-- A store over the file that was tested and tidied; each other end has its calls and what a crash leaves.
use Rattle.std.proofs.Common.{◌∙◌, refl, sym}
use Rattle.disk_base.specs.Calls.{sync_call}
use Rattle.disk_base.specs.declared.disk.DiskAnswer.TheVariants.{Done, Failed}
use Rattle.recipe_disk.specs.Opening.{IsSyncCall}
use Rattle.recipe_disk.proofs.Made.{made_one}
use Rattle.recipe_disk.proofs.Opened.{opening_broken, opening_cut, opening_done, opening_unread, opening_unsynced}
use Rattle.recipe_disk.proofs.recipe_disk.RecipeDisk.open.Goals as goal

pub returns-in-Failed : goal.returns-in-Failed
returns-in-Failed g c =
    opening_unsynced g.D.Disk _ _ c.in-Failed.ensures.told
    (made_one g.D.Disk IsSyncCall sync_call 0 _ _ _ Failed (λ _. refl) c.in-Failed.ensures.size c.in-Failed.ensures.calls c.in-Failed.ensures.cause
    c.in-Failed.ensures.same_disk)

pub returns-in-Broken : goal.returns-in-Broken
returns-in-Broken g c =
    opening_broken g.D.Disk _ _ c.in-Done.ensures.told
    (made_one g.D.Disk IsSyncCall sync_call 0 ⊥ _ _ Done (λ _. refl) c.in-Done.ensures.size c.in-Done.ensures.calls c.in-Done.ensures.cause c.in-Done.ensures.same_disk)
    _ c.in-Broken.not_spool c.in-Broken.ensures.looked c.in-Broken.ensures.file

pub returns-in-Failed-read_file : goal.returns-in-Failed-read_file
returns-in-Failed-read_file g c =
    opening_unread g.D.Disk _ _ c.in-Done.ensures.told
    (made_one g.D.Disk IsSyncCall sync_call 0 ⊥ _ _ Done (λ _. refl) c.in-Done.ensures.size c.in-Done.ensures.calls c.in-Done.ensures.cause c.in-Done.ensures.same_disk)
    _ c.in-Failed-read_file.ensures.looked

pub returns-in-Done-close_stale : goal.returns-in-Done-close_stale
returns-in-Done-close_stale g c =
    opening_done g.D.Disk _ _ c.in-Done.ensures.told
    (made_one g.D.Disk IsSyncCall sync_call 0 ⊥ _ _ Done (λ _. refl) c.in-Done.ensures.size c.in-Done.ensures.calls c.in-Done.ensures.cause c.in-Done.ensures.same_disk)
    _ c.in-Whole.ensures.looked c.in-Whole.slots c.in-Whole.ensures.fits.0 c.in-Whole.ensures.fits.1 c.in-Whole.ensures.fits.2 (λ s told. let file = c.in-Whole.ensures.file s told in (file.0, file.1.0))
    _ c.in-Done-close_stale.ensures.made c.in-Done-close_stale.ensures.told

pub returns-in-Failed-close_stale : goal.returns-in-Failed-close_stale
returns-in-Failed-close_stale g c =
    opening_cut g.D.Disk _ _ c.in-Done.ensures.told
    (made_one g.D.Disk IsSyncCall sync_call 0 ⊥ _ _ Done (λ _. refl) c.in-Done.ensures.size c.in-Done.ensures.calls c.in-Done.ensures.cause c.in-Done.ensures.same_disk)
    _ c.in-Whole.ensures.looked c.in-Whole.slots c.in-Whole.ensures.fits.0 c.in-Whole.ensures.fits.1 c.in-Whole.ensures.fits.2 (λ s told. let file = c.in-Whole.ensures.file s told in (file.0, file.1.0))
    _ c.in-Failed-close_stale.ensures.made c.in-Failed-close_stale.ensures.told

pub close_stale-requires-clause-known : goal.close_stale-requires-clause-known
close_stale-requires-clause-known g c s told = (c.in-Whole.ensures.file s (sym c.in-Whole.ensures.looked.told ∙ told)).1.1

pub invariant_of-result : goal.invariant_of-result
invariant_of-result g c =
    c.in-Done-close_stale.ensures.known (λ s told. (c.in-Whole.ensures.file s (sym c.in-Whole.ensures.looked.told ∙ told)).1.1)
