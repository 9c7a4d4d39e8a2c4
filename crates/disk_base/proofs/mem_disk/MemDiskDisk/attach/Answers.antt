-- Attaching that fails keeps the story, and has a cause; what is told are bytes.

use Rattle.std.proofs.Common.{◌<◌, ℕ, Some, [], ◌∙◌, refl, sym, ap, subst}
use Rattle.std.specs.List.{All}
use Rattle.disk_base.specs.MemDisk.{DiskState, answer_of, disk_health, disk_size, next_attach}
use Rattle.disk_base.specs.Story.{Story}
use Rattle.disk_base.specs.Faults.{HasCause}
use Rattle.disk_base.specs.declared.disk.DiskAnswer.{DiskAnswer}
use Rattle.disk_base.proofs.Causes.{attach_cause}
use Rattle.disk_base.proofs.Listings.{attaching_keeps}
use Rattle.disk_base.proofs.Told.{told_bytes}
use Rattle.disk_base.proofs.mem_disk.MemDiskDisk.attach.Goals as goal

pub returns-in-Failed-clause-told : goal.returns-in-Failed-clause-told
returns-in-Failed-clause-told c =
    let kept = ap (λ (t : DiskState). t.story) c.call-answer.ensures.state ∙ attaching_keeps c.args.self.now c.args.grow in
    record { more = []; grown = ap (λ (story : Story). Some story) kept; enough = λ s told less. refl }

pub returns-in-Failed-clause-bytes : goal.returns-in-Failed-clause-bytes
returns-in-Failed-clause-bytes c = told_bytes c.call-answer.new.self.story c.tells_bytes.ensures

pub returns-in-Done-clause-bytes : goal.returns-in-Done-clause-bytes
returns-in-Done-clause-bytes c =
    told_bytes _
    (subst (λ (s : DiskState). All (λ (byte : ℕ). byte < 256) s.story.now.bytes) (sym c.self.view_is) c.tells_bytes.ensures)

pub returns-in-Failed-clause-cause : goal.returns-in-Failed-clause-cause
returns-in-Failed-clause-cause c =
    let s = c.args.self.now in
    let grow = c.args.grow in
    subst (λ (answer : DiskAnswer). HasCause (disk_health s) (disk_health c.call-answer.new.self) 1 0 (disk_size s < grow) answer)
    (sym c.call-answer.ensures.answer)
    (subst (λ (t : DiskState). HasCause (disk_health s) (disk_health t) 1 0 (disk_size s < grow) (answer_of (next_attach grow s) s))
    (sym c.call-answer.ensures.state) (attach_cause s grow c.call-answer.ensures.range))
