-- One slot more is closed; what was used of the disk, up to a fault or the end.

use Rattle.std.proofs.Common.{◌≡◌, inl, ◌∙◌, ◌+◌, ◌<◌, ℕ, [], ◌∷◌, refl, subst, arith}
use Rattle.std.specs.Option.{option_map}
use Rattle.disk_base.specs.Calls.{write_call}
use Rattle.disk_base.specs.Faults.{IsUsed}
use Rattle.disk_base.specs.Story.{with_write}
use Rattle.disk_base.specs.declared.disk.DiskAnswer.TheVariants.{Done, Failed}
use Rattle.disk_base.proofs.Stretches.{fault_behind, same_then, used_behind, used_none}
use Rattle.spool_file.specs.Added.{WritesOrSyncs}
use Rattle.spool_file.specs.Format.{ClosesTo}
use Rattle.spool_file.proofs.Added.{adds_behind, adds_done, adds_failed, adds_none}
use Rattle.spool_file.proofs.Fresh.{closes_more, none_closed}
use Rattle.spool_file.proofs.format.close_slots.Goals as goal

pub loop-slot-init : goal.loop-slot-init
loop-slot-init g c = (λ t told. (t, told, none_closed t), refl, (refl, refl, refl), used_none _, adds_none WritesOrSyncs _)

pub loop-slot-preserved : goal.loop-slot-preserved
loop-slot-preserved g c = (
  closes_more _ _ _ c.loop-slot.slot c.args.slots (g.D.Disk.size_is c.args.disk.now) (λ s is. g.met.D.Disk.sized c.args.disk.now s is)
      c.loop-slot-test.true c.requires.size c.loop-slot.invariant.0
      (subst (λ (n : ℕ). g.D.Disk.told c.write.new.self ≡ option_map (with_write n (0 ∷ [])) (g.D.Disk.told c.loop-slot.disk)) c.slot_place.ensures c.in-Done.ensures.told),
  c.in-Done.ensures.size ∙ c.loop-slot.invariant.1,
  same_then c.loop-slot.invariant.2 c.in-Done.ensures.same_disk,
  used_behind _ _ c.loop-slot.slot c.loop-slot.slot c.loop-slot.invariant.3 _ 1 1 (c.loop-slot.slot + 1) (c.loop-slot.slot + 1) refl refl c.in-Done.ensures.cause,
  adds_behind WritesOrSyncs c.loop-slot.invariant.4 (adds_done WritesOrSyncs (write_call c.slot_place.result (0 ∷ []) Done) (inl refl) c.in-Done.ensures.calls),
)

pub returns-in-Failed-clause-cause : goal.returns-in-Failed-clause-cause
returns-in-Failed-clause-cause g c =
    let used = c.loop-slot.invariant.3 in
    fault_behind _ _ c.loop-slot.slot c.loop-slot.slot used _ 1 c.args.slots _ ((g.D.Disk.health c.args.disk.now).room < c.args.slots)
    (omega (arith, c.loop-slot-test.true)) (λ less. omega (arith, less, used.room_left, c.loop-slot-test.true)) c.in-Failed.ensures.cause

pub returns-in-Failed-clause-calls : goal.returns-in-Failed-clause-calls
returns-in-Failed-clause-calls g c =
    adds_behind WritesOrSyncs c.loop-slot.invariant.4
    (adds_failed WritesOrSyncs (write_call c.slot_place.result (0 ∷ []) Failed) (inl refl) c.in-Failed.ensures.calls)

pub returns-clause-told : goal.returns-clause-told
returns-clause-told g c =
    let end : c.loop-slot.slot ≡ c.args.slots = omega (arith, c.loop-slot-test.false, c.loop-slot.auto.slot-end) in
    subst (λ n. ClosesTo (g.D.Disk.told c.args.disk.now) (g.D.Disk.told c.loop-slot.disk) n) end c.loop-slot.invariant.0

pub returns-clause-cause : goal.returns-clause-cause
returns-clause-cause g c =
    let end : c.loop-slot.slot ≡ c.args.slots = omega (arith, c.loop-slot-test.false, c.loop-slot.auto.slot-end) in
    subst (λ n. IsUsed (g.D.Disk.health c.args.disk.now) (g.D.Disk.health c.loop-slot.disk) n n) end c.loop-slot.invariant.3
