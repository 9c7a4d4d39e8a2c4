-- One slot more is closed; the calls are writes.
use Rattle.std.proofs.Common.{◌≡◌, inl, ◌∙◌, ℕ, [], ◌∷◌, refl, subst, arith}
use Rattle.std.specs.Option.{option_map}
use Rattle.disk_base.specs.Calls.{write_call}
use Rattle.disk_base.specs.Story.{with_write}
use Rattle.disk_base.specs.declared.disk.DiskAnswer.TheVariants.{Done, Failed}
use Rattle.spool_file.specs.Added.{WritesOrSyncs}
use Rattle.recipe_disk.specs.Opening.{ClosesTo}
use Rattle.recipe_disk.proofs.Fresh.{closes_more, none_closed}
use Rattle.recipe_disk.proofs.Made.{made_behind, made_none, made_one}
use Rattle.recipe_disk.proofs.format.close_slots.Goals as goal

pub loop-slot-init : goal.loop-slot-init
loop-slot-init g c = (λ t told. (t, told, none_closed t), made_none g.D.Disk WritesOrSyncs _, refl)

pub loop-slot-preserved : goal.loop-slot-preserved
loop-slot-preserved g c = (
  closes_more _ _ _ c.loop-slot.slot c.args.slots (g.D.Disk.size_is c.args.disk.now) (λ s is. g.met.D.Disk.sized c.args.disk.now s is)
      c.loop-slot-test.true c.requires c.loop-slot.invariant.0
      (subst (λ (n : ℕ). g.D.Disk.told c.write.new.self ≡ option_map (with_write n (0 ∷ [])) (g.D.Disk.told c.loop-slot.disk)) c.slot_place.ensures c.in-Done.ensures.told),
  made_behind g.D.Disk WritesOrSyncs _ _ _ Done c.loop-slot.invariant.1
      (made_one g.D.Disk WritesOrSyncs (write_call c.slot_place.result (0 ∷ [])) 1 ⊥ _ _ Done (λ _. inl refl) c.in-Done.ensures.size c.in-Done.ensures.calls
      c.in-Done.ensures.cause c.in-Done.ensures.same_disk),
  c.in-Done.ensures.size ∙ c.loop-slot.invariant.2,
)

pub returns-in-Failed-clause-made : goal.returns-in-Failed-clause-made
returns-in-Failed-clause-made g c =
    made_behind g.D.Disk WritesOrSyncs _ _ _ Failed c.loop-slot.invariant.1
    (made_one g.D.Disk WritesOrSyncs (write_call c.slot_place.result (0 ∷ [])) 1 _ _ _ Failed (λ _. inl refl) c.in-Failed.ensures.size c.in-Failed.ensures.calls
    c.in-Failed.ensures.cause c.in-Failed.ensures.same_disk)

pub returns-clause-told : goal.returns-clause-told
returns-clause-told g c =
    let end : c.loop-slot.slot ≡ c.args.slots = omega (arith, c.loop-slot-test.false, c.loop-slot.auto.slot-end) in
    subst (λ n. ClosesTo (g.D.Disk.told c.args.disk.now) (g.D.Disk.told c.loop-slot.disk) n) end c.loop-slot.invariant.0
