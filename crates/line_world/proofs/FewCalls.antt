-- That a disk of which little was asked has room for more.
use Rattle.std.proofs.Common.{◌≡◌, ◌⊎◌, inl, inr, sym, arith, subst, ◌<◌, ◌≤◌, ◌+◌, ◌-◌, ◌==◌, ℕ, Bool, true, false, List, [], ◌∷◌, length, Option, Some, None, if◌then◌else◌}
use Rattle.std.proofs.Math.Nat.{min-le_right}
use Rattle.std.specs.List.{sum_by}
use Rattle.std.specs.Option.{option_map_or}
use Rattle.disk_base.specs.Calls.{DiskCall}
use Rattle.message_end.specs.Ends.{Asked, Loss, Reach, asked_both, most_asked, passing, room_behind}
use Rattle.message_end.specs.Ends.Passing.{Lacks}
use Rattle.message_end.proofs.Passing.{lacks-short}
use Rattle.setup_store.specs.Copies.{gate_look, kept_length, list_look, load_calls, names_list, value_looks}
use Rattle.spool_file.specs.File.{SpoolFile}
use Rattle.tool_step.specs.Disk.{asks}
use Rattle.tool_step.specs.End.{machine}
use Rattle.tool_step.specs.Equipment.{EquipmentView}
use Rattle.tool_step.specs.Losses.{LossesAreCounted, losses}
use Rattle.tool_step.specs.Setup.{loading}
use Rattle.line_world.specs.FewCalls.{FewCallsFindRoom}

-- a start reads its setup with two calls at most: the cell, and the list or what tells where the cell is bad
reads-few : (file : SpoolFile) → (loading file).calls ≤ 2
reads-few file = of file.setup.bytes
  where
    value : ℕ
    value = file.setup.cell.value

    list-few : (empty : Bool) (look : DiskCall) → length (if empty then [] else look ∷ []) ≤ 1
    list-few true look = omega arith
    list-few false look = omega arith

    looks-few : (good : Bool) (list : List DiskCall) → length list ≤ 1
        → length (if good then list else gate_look) ≤ 1
    looks-few true list few = few
    looks-few false list few = omega arith

    calls-few : length (load_calls file.slots value) ≤ 2
    calls-few =
        let few = looks-few (names_list value) (list_look file.slots value) (list-few (kept_length value == 0) _) in
        omega (arith, few)

    of : (kept : Option (List ℕ)) → option_map_or (λ bytes. length (load_calls file.slots value)) kept 0 ≤ 2
    of None = omega arith
    of (Some bytes) = calls-few

-- a start leaves room for more than 62,000 calls and 64,000,000 bytes
pub record IsRoomy (used : Asked) : Type 0 where
  pub calls : 62000 ≤ (room_behind most_asked used).calls
  pub bytes : 64000000 ≤ (room_behind most_asked used).bytes

module _ (start : EquipmentView) (most : start.file.slots ≤ 1024) (has : length start.file.list ≤ start.file.slots)
  where
    first-roomy : IsRoomy (machine.first_use start)
    first-roomy =
        let read = reads-few start.file in
        record { calls = omega (arith, most, has, read); bytes = omega (arith, most) }

    anew-roomy : IsRoomy (machine.anew_use start)
    anew-roomy =
        let last = min-le_right start.file.slots 257 in
        let read = reads-few start.file in
        record { calls = omega (arith, most, has, last, read); bytes = omega arith }

    roomy : (used : Asked) → (used ≡ machine.first_use start) ⊎ (used ≡ machine.anew_use start) → IsRoomy used
    roomy used (inl is) = subst IsRoomy (sym is) first-roomy
    roomy used (inr is) = subst IsRoomy (sym is) anew-roomy

few : (behind left asked room : ℕ) → room ≤ behind → (behind - left) + asked < room → left < asked → ⊥
few behind left asked room most below short = omega (arith, most, below, short)

-- so there is room for all calls of a step, whatever has a disk
module _ {S : Type 0} (used : Asked) (room : IsRoomy used) (reach : Reach) (lost : List (Loss S)) (asked : Asked)
    (calls_are : length lost ≡ asked.calls) (bytes_are : sum_by (λ (loss : Loss S). loss.bytes) lost ≡ asked.bytes)
  where
    abbrev all : Asked
    all = asked_both (room_behind (room_behind most_asked used) reach.room) asked

    pub finds-room : all.calls < 32768 → all.bytes < 33554432 → (loss : Loss S) → passing reach lost ≡ Lacks loss → ⊥
    finds-room calls bytes loss lacks = go (lacks-short reach lost loss lacks)
      where
        go : (reach.room.calls < length lost)
            ⊎ (reach.room.bytes < sum_by (λ (loss : Loss S). loss.bytes) lost) → ⊥
        go (inl short) =
            few (room_behind most_asked used).calls reach.room.calls asked.calls 32768
            (let some = room.calls in omega (arith, some)) calls
            (subst (λ (n : ℕ). reach.room.calls < n) calls_are short)
        go (inr short) =
            few (room_behind most_asked used).bytes reach.room.bytes asked.bytes 33554432
            (let some = room.bytes in omega (arith, some)) bytes
            (subst (λ (n : ℕ). reach.room.bytes < n) bytes_are short)

pub few-find-room : {H : Type 0} → LossesAreCounted → FewCallsFindRoom H
few-find-room counted start used world input of most has calls bytes full =
    finds-room used (roomy start most has used of) world.reach (losses world.equipment input world.moment)
    (asks world.equipment input world.moment) (counted world.equipment input world.moment).0.0
    (counted world.equipment input world.moment).0.1 calls bytes full.1.0 full.1.1
