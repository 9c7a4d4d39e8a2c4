-- What is left is counted as `disk_health` counts it.

use Rattle.std.proofs.Common.{◌≡◌, ◌-◌, ◌&&◌, ℕ, nat_le, length, vec_len, sym, ap, subst, ◌∙◌, rules}
use Rattle.disk_base.specs.Log.{calls_of}
use Rattle.disk_base.specs.MemDisk.{DiskState, disk_health}
use Rattle.disk_base.proofs.Logs.{length-calls}
use Rattle.disk_base.proofs.mem_disk.MemDisk.has_room.Goals as goal

pub returns : goal.returns
returns c =
    let d = c.self.inside in
    let made : c.len-made.result ≡ length d.entries.items = search rules in
    let used : c.len-used.result ≡ vec_len d.written = search rules in
    let calls : c.saturating_sub.result ≡ d.most - c.len-made.result = search rules in
    let bytes : c.saturating_sub-2.result ≡ d.room - c.len-used.result = search rules in
    subst
    (λ (s : DiskState).
    c.are_left.result ≡ nat_le c.args.calls (disk_health s).calls && nat_le c.args.bytes (disk_health s).room)
    c.self.view_is
    (c.are_left.ensures
    ∙ ap (λ (k : ℕ). nat_le c.args.calls k && nat_le c.args.bytes c.saturating_sub-2.result) calls
    ∙ ap (λ (k : ℕ). nat_le c.args.calls (d.most - c.len-made.result) && nat_le c.args.bytes k) bytes
    ∙ ap (λ (k : ℕ). nat_le c.args.calls (d.most - k) && nat_le c.args.bytes (d.room - c.len-used.result))
    (made ∙ sym (length-calls d.entries.items d.written.items))
    ∙ ap
    (λ (k : ℕ).
    nat_le c.args.calls (d.most - length (calls_of d.entries.items d.written.items)) && nat_le c.args.bytes
    (d.room - k))
    used)
