-- The last entry is that of the last call.

use Rattle.std.proofs.Common.{◌≡◌, ◌-◌, ◌∙◌, ap, length, ℕ, rules}
use Rattle.std.specs.Prelude.{slice_index_or}
use Rattle.disk_base.specs.MemDisk.{DiskState}
use Rattle.disk_base.specs.declared.log.LoggedCall.{LoggedCall}
use Rattle.disk_base.proofs.Fitted.{answer_last}
use Rattle.disk_base.proofs.mem_disk.MemDisk.last_answer.Goals as goal

pub returns : goal.returns
returns c front call listed =
    let d = c.self.inside in
    let entry : LoggedCall = c.index.result.now in
    let made : c.len-made.result ≡ length d.entries.items = search rules in
    let found : entry ≡ slice_index_or d.entries.items (c.len-made.result - 1) entry = search rules in
    ap (λ (one : LoggedCall). one.answer)
    (found ∙ ap (λ (k : ℕ). slice_index_or d.entries.items (k - 1) entry) made)
    ∙ answer_last d.entries.items d.written.items front call entry
    (ap (λ (s : DiskState). s.calls) c.self.view_is ∙ listed)
