-- One part more is zeros; what was used of the disk, up to a fault or the end.

use Rattle.std.proofs.Common.{◌≡◌, inl, ◌∙◌, ◌+◌, ◌*◌, ◌<◌, ℕ, replicate, refl, subst, arith}
use Rattle.std.specs.Option.{option_map}
use Rattle.disk_base.specs.Calls.{write_call}
use Rattle.disk_base.specs.Story.{with_write}
use Rattle.disk_base.specs.declared.disk.DiskAnswer.TheVariants.{Done, Failed}
use Rattle.disk_base.proofs.Stretches.{fault_behind, same_then, used_behind}
use Rattle.spool_file.specs.Added.{WritesOrSyncs}
use Rattle.spool_file.specs.Format.{ClearsTo}
use Rattle.spool_file.proofs.Added.{adds_behind, adds_done, adds_failed}
use Rattle.spool_file.proofs.Cleared.{clears_more}
use Rattle.spool_file.proofs.setup.clear_area.Goals as goal

pub loop-part-preserved : goal.loop-part-preserved
loop-part-preserved g c =
    let k = c.loop-part.part in (
      clears_more _ _ _ c.args.slots k (g.D.Disk.size_is c.args.disk.now) _ refl
          (λ s is. g.met.D.Disk.sized c.args.disk.now s is) c.loop-part-test.true c.requires.size c.loop-part.invariant.0
          (subst (λ (n : ℕ). g.D.Disk.told c.write.new.self ≡ option_map (with_write (n + 16384 * k) (replicate 16384 0)) (g.D.Disk.told c.loop-part.disk)) c.slot_place.ensures c.in-Done.ensures.told),
      c.in-Done.ensures.size ∙ c.loop-part.invariant.1,
      same_then c.loop-part.invariant.2 c.in-Done.ensures.same_disk,
      used_behind _ _ k (16384 * k) c.loop-part.invariant.3 _ 1 16384 (k + 1) (16384 * (k + 1)) refl (omega arith) c.in-Done.ensures.cause,
      adds_behind WritesOrSyncs c.loop-part.invariant.4 (adds_done WritesOrSyncs (write_call (c.slot_place.result + 16384 * k) (replicate 16384 0) Done) (inl refl) c.in-Done.ensures.calls),
    )

pub returns-in-Failed-clause-cause : goal.returns-in-Failed-clause-cause
returns-in-Failed-clause-cause g c =
    let k = c.loop-part.part in
    let used = c.loop-part.invariant.3 in
    fault_behind _ _ k (16384 * k) used _ 1 32 _ ((g.D.Disk.health c.args.disk.now).room < 524288)
    (omega (arith, c.loop-part-test.true)) (λ less. omega (arith, less, used.room_left, c.loop-part-test.true)) c.in-Failed.ensures.cause

pub returns-in-Failed-clause-calls : goal.returns-in-Failed-clause-calls
returns-in-Failed-clause-calls g c =
    adds_behind WritesOrSyncs c.loop-part.invariant.4
    (adds_failed WritesOrSyncs (write_call (c.slot_place.result + 16384 * c.loop-part.part) (replicate 16384 0) Failed) (inl refl) c.in-Failed.ensures.calls)

pub returns-clause-told : goal.returns-clause-told
returns-clause-told g c =
    let end : c.loop-part.part ≡ 32 = omega (arith, c.loop-part-test.false, c.loop-part.auto.part-end) in
    subst (λ n. ClearsTo (g.D.Disk.told c.args.disk.now) (g.D.Disk.told c.loop-part.disk) c.args.slots n) end c.loop-part.invariant.0
