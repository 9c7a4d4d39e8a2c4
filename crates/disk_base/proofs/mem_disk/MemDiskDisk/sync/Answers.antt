-- The cause of a sync's answer, and its entry in the list.

use Rattle.std.proofs.Common.{Some, subst, sym, refl, arith}
use Rattle.disk_base.specs.Faults.{HasCause}
use Rattle.disk_base.specs.Listed.{AsListed}
use Rattle.disk_base.specs.MemDisk.{DiskState, answer_of, disk_health, next_sync}
use Rattle.disk_base.specs.declared.disk.DiskAnswer.{DiskAnswer}
use Rattle.disk_base.proofs.Causes.{cause}
use Rattle.disk_base.proofs.Listings.{as_listed}
use Rattle.disk_base.proofs.mem_disk.MemDiskDisk.sync.Goals as goal

pub returns-clause-cause : goal.returns-clause-cause
returns-clause-cause c =
    let s = c.args.self.now in
    let is = cause s (next_sync s) ⊥ c.call.ensures.range (λ less. absurd (omega (arith, less))) refl in
    subst (λ (answer : DiskAnswer). HasCause (disk_health s) (disk_health c.call.new.self) 1 0 ⊥ answer) (sym c.call.ensures.answer)
    (subst (λ (t : DiskState). HasCause (disk_health s) (disk_health t) 1 0 ⊥ (answer_of (next_sync s) s)) (sym c.call.ensures.state) is)

pub returns-clause-listed : goal.returns-clause-listed
returns-clause-listed c =
    let s = c.args.self.now in
    λ going. subst (λ (t : DiskState). AsListed (Some s.story) (Some s.calls) (Some t.story) (Some t.calls)) (sym c.call.ensures.state)
    (as_listed s (next_sync s) going.on)
