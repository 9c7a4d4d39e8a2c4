-- The calls up to the last good sync give the settled bytes.

use Rattle.std.proofs.Common.{◌∙◌, ap, rules}
use Rattle.std.proofs.lemmas.List.{with_items_is}
use Rattle.disk_base.specs.Cut.{settled_bytes}
use Rattle.disk_base.specs.MemDisk.{DiskState}
use Rattle.disk_base.proofs.Replays.{front_within_of, settled_from}
use Rattle.disk_base.proofs.mem_disk.MemDisk.settled.Goals as goal

pub replay-requires : goal.replay-requires
replay-requires c =
    front_within_of c.self.inside c.self.invariant c.as_mut_slice.result.now c.deref.result.now c.deref-2.result.now (search rules)
    c.deref.ensures.value c.deref-2.ensures.value

pub returns-clause-bytes : goal.returns-clause-bytes
returns-clause-bytes c =
    with_items_is c.in_ok-bytes.bytes c.replay.new.bytes (search rules)
    ∙ c.replay.ensures.bytes
    ∙ settled_from c.self.inside c.self.invariant c.as_mut_slice.result.now c.deref.result.now c.deref-2.result.now (search rules)
    c.deref.ensures.value c.deref-2.ensures.value
    ∙ ap (λ (s : DiskState). settled_bytes s.story) c.self.view_is
