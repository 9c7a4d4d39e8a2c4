-- The page, the slots and the sync make a file without recipes.
use Rattle.std.proofs.Common.{◌≡◌, ◌∙◌, ℕ, List, ap, inl, inr, refl}
use Rattle.std.specs.Option.{option_map}
use Rattle.disk_base.specs.Calls.{sync_call, write_call}
use Rattle.disk_base.specs.Story.{with_write}
use Rattle.disk_base.specs.declared.disk.DiskAnswer.TheVariants.{Done, Failed}
use Rattle.spool_file.specs.Added.{WritesOrSyncs}
use Rattle.recipe_disk.specs.Opening.{first_page}
use Rattle.recipe_disk.proofs.Fresh.{stands_empty}
use Rattle.recipe_disk.proofs.Made.{made_behind, made_one}
use Rattle.recipe_disk.proofs.format.write_empty.Goals as goal

pub returns-in-Done-sync-clause-told : goal.returns-in-Done-sync-clause-told
returns-in-Done-sync-clause-told g c =
    let bytes : c.deref.result.now ≡ first_page c.args.slots = c.deref.ensures.0 ∙ c.first_page.ensures in
    stands_empty (g.D.Disk.told c.args.disk.now) _ _ _ c.args.slots (g.D.Disk.size_is c.args.disk.now)
    (λ s is. g.met.D.Disk.sized c.args.disk.now s is) c.requires.some c.requires.most c.requires.size
    (c.in-Done.ensures.told ∙ ap (λ (b : List ℕ). option_map (with_write 0 b) (g.D.Disk.told c.args.disk.now)) bytes)
    c.in-Done-close_slots.ensures.told c.in-Done-sync.ensures.told

pub returns-in-Done-sync-clause-made : goal.returns-in-Done-sync-clause-made
returns-in-Done-sync-clause-made g c =
    made_behind g.D.Disk WritesOrSyncs _ _ _ Done
    (made_behind g.D.Disk WritesOrSyncs _ _ _ Done
    (made_one g.D.Disk WritesOrSyncs (write_call 0 c.deref.result.now) _ ⊥ _ _ Done (λ _. inl refl) c.in-Done.ensures.size c.in-Done.ensures.calls c.in-Done.ensures.cause
    c.in-Done.ensures.same_disk)
    c.in-Done-close_slots.ensures.made)
    (made_one g.D.Disk WritesOrSyncs sync_call 0 ⊥ _ _ Done (λ _. inr refl) c.in-Done-sync.ensures.size c.in-Done-sync.ensures.calls c.in-Done-sync.ensures.cause
    c.in-Done-sync.ensures.same_disk)

pub returns-in-Failed-sync-clause-made : goal.returns-in-Failed-sync-clause-made
returns-in-Failed-sync-clause-made g c =
    made_behind g.D.Disk WritesOrSyncs _ _ _ Failed
    (made_behind g.D.Disk WritesOrSyncs _ _ _ Done
    (made_one g.D.Disk WritesOrSyncs (write_call 0 c.deref.result.now) _ ⊥ _ _ Done (λ _. inl refl) c.in-Done.ensures.size c.in-Done.ensures.calls c.in-Done.ensures.cause
    c.in-Done.ensures.same_disk)
    c.in-Done-close_slots.ensures.made)
    (made_one g.D.Disk WritesOrSyncs sync_call 0 _ _ _ Failed (λ _. inr refl) c.in-Failed-sync.ensures.size c.in-Failed-sync.ensures.calls c.in-Failed-sync.ensures.cause
    c.in-Failed-sync.ensures.same_disk)

pub returns-in-Failed-close_slots-clause-made : goal.returns-in-Failed-close_slots-clause-made
returns-in-Failed-close_slots-clause-made g c =
    made_behind g.D.Disk WritesOrSyncs _ _ _ Failed
    (made_one g.D.Disk WritesOrSyncs (write_call 0 c.deref.result.now) _ ⊥ _ _ Done (λ _. inl refl) c.in-Done.ensures.size c.in-Done.ensures.calls c.in-Done.ensures.cause
    c.in-Done.ensures.same_disk)
    c.in-Failed-close_slots.ensures.made

pub returns-in-Failed-clause-made : goal.returns-in-Failed-clause-made
returns-in-Failed-clause-made g c =
    made_one g.D.Disk WritesOrSyncs (write_call 0 c.deref.result.now) _ _ _ _ Failed (λ _. inl refl) c.in-Failed.ensures.size c.in-Failed.ensures.calls c.in-Failed.ensures.cause
    c.in-Failed.ensures.same_disk
