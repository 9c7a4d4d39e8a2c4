-- The image of a choice is one of those that a crash may leave.

use Rattle.std.proofs.Common.{◌≡◌, List, ℕ, length, sym, subst, rules}
use Rattle.std.proofs.lemmas.Result.{IfOk-weaker}
use Rattle.disk_base.specs.Cut.{image_of, settled_bytes}
use Rattle.disk_base.specs.Images.{IsImage}
use Rattle.disk_base.specs.MemDisk.{DiskState, disk_size}
use Rattle.disk_base.proofs.Marks.{AreIn, image_is}
use Rattle.disk_base.proofs.Replays.{ranges_in}
use Rattle.disk_base.proofs.mem_disk.MemDisk.cut.Goals as goal

pub returns-clause-image : goal.returns-clause-image
returns-clause-image c =
    let story = c.args.self.now.story in
    let are = subst (λ (s : DiskState). AreIn (disk_size s) s.story.now.loose) c.self.view_is (ranges_in c.self.inside c.self.invariant) in
    let long : length (settled_bytes story) ≡ length story.now.bytes = search rules in
    let left : c.in_ok-image.image.items ≡ image_of c.args.choice story = search rules in
    let good = subst (λ (bytes : List ℕ). IsImage story.now bytes) (sym left) (image_is c.args.choice story are long) in
    IfOk-weaker c.over.result _ _ (λ disk is. subst (λ (s : DiskState). IsImage story.now s.story.now.bytes) (sym is) good) c.over.ensures
