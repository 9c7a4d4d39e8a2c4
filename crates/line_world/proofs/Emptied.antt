-- That a disk in memory on which a file was just made holds an empty spool, and has been asked for what that takes.
use Rattle.std.proofs.Common.{◌≡◌, refl, sym, ap, ◌∙◌, arith, ℕ, ◌+◌, ◌-◌, ◌≤◌, List, length, Ok}
use Rattle.disk_base.specs.Calls.{written_of}
use Rattle.disk_base.specs.Faults.{GoesAsListed, IsUsed}
use Rattle.disk_base.specs.MemDisk.{DiskState, HasFitted, disk_health, disk_with}
use Rattle.disk_base.specs.contracts.mem_disk.MemDiskDisk.TheImpl.{ghosts}
use Rattle.equipment_node.specs.InMemory.{IsBounded, asked_of}
use Rattle.message_end.specs.Ends.{Asked, most_asked}
use Rattle.spool_slots.specs.Format.{Formats}
use Rattle.spool_slots.specs.Spool.{SpoolView}
use Rattle.line_world.specs.Disk.{IsEmptySpool}

abbrev asks : ℕ → ℕ → Asked
asks calls bytes = record { calls = calls; bytes = bytes }

-- a disk as an end's is made, and some calls behind that
module _ (bytes : List ℕ) (spare : ℕ × ℕ) (disk : DiskState) (calls n : ℕ) (low : n ≤ 16777216)
    (used : IsUsed (disk_health (disk_with bytes most_asked.calls most_asked.bytes spare)) (disk_health disk) calls n)
    (fitted : HasFitted disk)
  where
    goes : GoesAsListed (disk_health (disk_with bytes most_asked.calls most_asked.bytes spare))
    goes = record { exact = refl; on = refl }

    pub bounded-behind : IsBounded disk
    bounded-behind =
        (ap (λ (w : ℕ × ℕ). w.0) used.bounds_kept, ap (λ (w : ℕ × ℕ). w.1) used.bounds_kept)

    many : length disk.calls ≡ calls
    many =
        let made = used.counted goes in
        let all = (fitted.going used.going).0 in
        omega (arith, made, all)

    wrote : written_of disk.calls ≡ n
    wrote =
        let left : most_asked.bytes - 0 ≡ disk.room - disk.used + n = used.room_is goes in
        let room = bounded-behind.1 in
        let sum = fitted.used in
        omega (arith, left, room, sum, low)

    pub asked-behind : asked_of disk ≡ asks calls n
    asked-behind = ap (λ (k : ℕ). asks k (written_of disk.calls)) many ∙ ap (λ (k : ℕ). asks calls k) wrote

pub emptied :
    (bytes : List ℕ) (spare : ℕ × ℕ) (slots : ℕ) → slots ≤ 1024 → (spool : SpoolView DiskState)
    → Formats ghosts (disk_with bytes most_asked.calls most_asked.bytes spare) slots (Ok spool)
    → HasFitted spool.disk → IsEmptySpool slots spool
emptied bytes spare slots most spool (made, is, told) fitted =
    let used = made.cause in
    let low : slots + 528384 ≤ 16777216 = omega (arith, most) in
    record {
      first = ap (λ (v : SpoolView DiskState). v.first) is;
      file = sym (told spool.disk.story refl).ends.stands.is;
      fails_not = let left = used.fail_left in omega (arith, left);
      stops_not = let left = used.stop_left in omega (arith, left);
      going = used.going;
      bounded = bounded-behind bytes spare spool.disk (slots + 34) (slots + 528384) low used fitted;
      asked = asked-behind bytes spare spool.disk (slots + 34) (slots + 528384) low used fitted;
    }
