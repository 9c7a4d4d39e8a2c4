-- The marked places are those of the loose ranges, which lie within the disk.

use Rattle.std.proofs.Common.{◌≡◌, ◌∙◌, ℕ, ap, rules}
use Rattle.std.proofs.lemmas.Result.{IfOk-weaker}
use Rattle.disk_base.specs.Cut.{marks_at, marks_of}
use Rattle.disk_base.specs.MemDisk.{DiskState, disk_size}
use Rattle.disk_base.proofs.Replays.{loose_sized_of, marks_from}
use Rattle.disk_base.proofs.mem_disk.MemDisk.marks.Goals as goal

pub mark_writes-requires : goal.mark_writes-requires
mark_writes-requires c =
    loose_sized_of c.self.inside c.self.invariant c.len.result c.deref.result.now (search rules) c.deref.ensures.value

pub returns-clause-marks : goal.returns-clause-marks
returns-clause-marks c =
    let size : disk_size c.args.self.now ≡ c.len.result = search rules in
    let are =
    marks_from c.self.inside c.self.invariant c.len.result c.deref.result.now (search rules) c.deref.ensures.value
    ∙ ap (λ (s : DiskState). marks_of (disk_size s) s.story.now.loose) c.self.view_is in
    IfOk-weaker c.mark_writes.result _ _
    (λ marked is. ap (λ (n : ℕ). marks_at n marked.0 marked.1.items) size ∙ (is ∙ are)) c.mark_writes.ensures.marks
