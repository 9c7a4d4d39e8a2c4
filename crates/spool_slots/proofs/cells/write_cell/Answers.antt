-- The value by how far its change comes: what a crash leaves, which calls are listed, and what a fault has left.

use Rattle.std.proofs.Common.{◌+◌, ◌<◌, inl, inr, ⊎_elim, refl, arith}
use Rattle.disk_base.specs.Faults.{DiskHealth, HasCause, IsLeftOut, IsPlanned}
use Rattle.disk_base.specs.declared.disk.DiskAnswer.TheVariants.{Done, Failed}
use Rattle.disk_base.proofs.Listings.{listed_behind}
use Rattle.disk_base.proofs.Stretches.{fault_behind, fault_wider, left_out_behind, lists_on, planned_or_left_out}
use Rattle.disk_base.proofs.Stretches.{used_behind}
use Rattle.spool_slots.specs.Losses.{IsSure}
use Rattle.spool_slots.proofs.CellWrites.{commit_images, either_of, gate_calls, has_value}
use Rattle.spool_slots.proofs.LostCells.{lost_late}
use Rattle.spool_slots.proofs.cells.write_cell.Goals as goal

pub returns-in-Err-clause-images : goal.returns-in-Err-clause-images
returns-in-Err-clause-images g c = λ s told. either_of s c.args.at _ _ _ (c.in-Err.ensures.told s told).images

pub returns-in-Err-clause-calls : goal.returns-in-Err-clause-calls
returns-in-Err-clause-calls g c = λ s told.
    inl (c.in-Err.ensures.calls s told)

pub returns-in-Err-clause-cause : goal.returns-in-Err-clause-cause
returns-in-Err-clause-cause g c =
    fault_wider (g.D.Disk.health c.args.disk) _ 3 5 _ ((g.D.Disk.health c.args.disk).room < 9) (omega arith)
    (λ less. omega (arith, less)) c.in-Err.ensures.cause

pub returns-in-Ok-commit-clause-images : goal.returns-in-Ok-commit-clause-images
returns-in-Ok-commit-clause-images g c = λ s told.
    let p = c.in-Ok.ensures.told s told in
    commit_images s p.images.0 c.args.at c.args.value _ _ c.in-Ok.ensures.value.0 p.images.1 p c.in-Ok.ensures.value.1 _
    _ Done
    (c.in-Ok-commit.ensures.told p.images.0 p.images.1)

pub returns-in-Ok-commit-clause-value : goal.returns-in-Ok-commit-clause-value
returns-in-Ok-commit-clause-value g c = λ s told.
    let p = c.in-Ok.ensures.told s told in
    has_value s p.images.0 c.args.at c.args.value _ _ c.in-Ok.ensures.value.0 p.images.1 p c.in-Ok.ensures.value.1 _ _
    (c.in-Ok-commit.ensures.told p.images.0 p.images.1) (c.in-Ok-commit.ensures.value p.images.0 p.images.1)

pub returns-in-Ok-commit-clause-calls : goal.returns-in-Ok-commit-clause-calls
returns-in-Ok-commit-clause-calls g c = λ s told. record {
  prepared = g.D.Disk.calls c.in-Ok.prepared.disk;
  first = c.in-Ok.ensures.calls s told;
  last = gate_calls s c.args.at _ _
      (IsLeftOut (g.D.Disk.health c.in-Ok.prepared.disk) (g.D.Disk.health c.in-Ok-commit.disk))
      (λ made n. IsLeftOut (g.D.Disk.health c.args.disk) (g.D.Disk.health c.in-Ok-commit.disk) (3 + made) (8 + n)) _ _
      Done
      (λ made n few short is.
      left_out_behind _ _ 3 8 c.in-Ok.ensures.cause _ made n (3 + made) (8 + n) refl (omega arith) is)
      c.in-Ok.ensures.value.0 (c.in-Ok.ensures.second s told) c.in-Ok-commit.ensures.calls;
}

pub returns-in-Ok-commit-clause-listed : goal.returns-in-Ok-commit-clause-listed
returns-in-Ok-commit-clause-listed g c =
    λ going. listed_behind (c.in-Ok.ensures.listed going)
    (c.in-Ok-commit.ensures.listed (lists_on _ _ 3 8 c.in-Ok.ensures.cause going))

pub returns-in-Ok-commit-clause-cause : goal.returns-in-Ok-commit-clause-cause
returns-in-Ok-commit-clause-cause g c =
    used_behind _ _ 3 8 c.in-Ok.ensures.cause _ 2 1 5 9 (omega arith) (omega arith) c.in-Ok-commit.ensures.cause

pub returns-in-Err-commit-clause-images : goal.returns-in-Err-commit-clause-images
returns-in-Err-commit-clause-images g c = λ s told.
    let p = c.in-Ok.ensures.told s told in
    commit_images s p.images.0 c.args.at c.args.value _ _ c.in-Ok.ensures.value.0 p.images.1 p c.in-Ok.ensures.value.1 _
    _ Failed
    (c.in-Err-commit.ensures.told p.images.0 p.images.1)

pub returns-in-Err-commit-clause-calls : goal.returns-in-Err-commit-clause-calls
returns-in-Err-commit-clause-calls g c = λ s told. inr (record {
  prepared = g.D.Disk.calls c.in-Ok.prepared.disk;
  first = c.in-Ok.ensures.calls s told;
  last = gate_calls s c.args.at _ _
      (IsLeftOut (g.D.Disk.health c.in-Ok.prepared.disk) (g.D.Disk.health c.in-Err-commit.disk))
      (λ made n. IsLeftOut (g.D.Disk.health c.args.disk) (g.D.Disk.health c.in-Err-commit.disk) (3 + made) (8 + n)) _ _
      Failed
      (λ made n few short is.
      left_out_behind _ _ 3 8 c.in-Ok.ensures.cause _ made n (3 + made) (8 + n) refl (omega arith) is)
      c.in-Ok.ensures.value.0 (c.in-Ok.ensures.second s told) c.in-Err-commit.ensures.calls;
})

pub returns-in-Err-commit-clause-listed : goal.returns-in-Err-commit-clause-listed
returns-in-Err-commit-clause-listed g c =
    λ going. listed_behind (c.in-Ok.ensures.listed going)
    (c.in-Err-commit.ensures.listed (lists_on _ _ 3 8 c.in-Ok.ensures.cause going))

pub returns-in-Err-commit-clause-cause : goal.returns-in-Err-commit-clause-cause
returns-in-Err-commit-clause-cause g c =
    fault_behind _ _ 3 8 c.in-Ok.ensures.cause _ 2 5 _ ((g.D.Disk.health c.args.disk).room < 9) (omega arith)
    (λ less. omega (arith, less, c.in-Ok.ensures.cause.room_left)) c.in-Err-commit.ensures.cause

planned_of : (h k : DiskHealth) → IsSure h k 5 9 → HasCause h k 3 8 (h.room < 8) Failed → IsPlanned h 3
planned_of h k sure fault =
    ⊎_elim (λ planned. planned)
    (λ out. absurd (sure.listed fault.made 8 (omega (arith, fault.few)) (omega arith) out))
    (planned_or_left_out h k 3 8 sure.going.on fault)

pub returns-in-Err-clause-loss : goal.returns-in-Err-clause-loss
returns-in-Err-clause-loss g c = λ s told. record {
  early = λ planned. (c.in-Err.ensures.told s told).images;
  late = λ sure none. absurd (none (planned_of _ _ sure c.in-Err.ensures.cause));
}

pub returns-in-Err-commit-clause-loss : goal.returns-in-Err-commit-clause-loss
returns-in-Err-commit-clause-loss g c = λ s told.
    let p = c.in-Ok.ensures.told s told in
    let w = c.in-Ok.prepared in
    let d = c.in-Err-commit.disk in
    record {
      early = λ planned. absurd (c.in-Ok.ensures.cause.unplanned planned);
      late = λ sure none. lost_late c.failed_settle_has_written.ensures c.cut_leaves_the_chosen_byte.ensures s
          p.images.0 c.args.at c.args.value w.at w.second
          (g.D.Disk.health c.args.disk) (g.D.Disk.health w.disk) (g.D.Disk.health d) (g.D.Disk.told w.disk) (g.D.Disk.told d)
          (g.D.Disk.calls w.disk) (g.D.Disk.calls d)
          sure c.in-Ok.ensures.cause p.images.1 p c.in-Ok.ensures.value.1 c.in-Ok.ensures.value.0
          (w.spare p.images.0 p.images.1)
          (c.in-Ok.ensures.second s told) (g.met.D.Disk.calls_told w.disk p.images.0 p.images.1)
          c.in-Err-commit.ensures.calls
          c.in-Err-commit.ensures.listed;
    }
