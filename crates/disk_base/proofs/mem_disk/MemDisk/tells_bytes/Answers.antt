-- The bytes of the story are those of the vector, and so below 256.

use Rattle.std.proofs.Common.{◌≡◌, ◌<◌, ℕ, sym, subst, ◌∙◌, rules}
use Rattle.std.specs.List.{All}
use Rattle.disk_base.specs.MemDisk.{DiskState}
use Rattle.disk_base.proofs.mem_disk.MemDisk.tells_bytes.Goals as goal

pub returns : goal.returns
returns c =
    let same : c.deref.result.now ≡ c.self.inside.bytes.items = search rules in
    subst (λ (s : DiskState). All (λ (byte : ℕ). byte < 256) s.story.now.bytes) c.self.view_is
    (subst (All (λ (byte : ℕ). byte < 256)) (same ∙ sym c.self.invariant.settled.bytes) c.are_bytes.ensures)
