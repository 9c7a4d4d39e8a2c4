-- The run over the spool's disk: it starts on an empty spool.
use Rattle.std.proofs.Common.{◌≡◌, ◌≢◌, ◌<◌, ◌≤◌, ◌+◌, ◌*◌, ◌-◌, ◌==◌, ℕ, false, List, [], ◌∷◌}
use Rattle.std.proofs.Common.{◌++◌, length, length-append, take, replicate, Option, refl, sym, ap, subst, ◌∙◌, arith}
use Rattle.std.proofs.lemmas.List.{get_or-append_right, get_or-replicate, length-replicate, take-append-le}
use Rattle.std.proofs.lemmas.List.Folds.{sum_by-replicate}
use Rattle.std.proofs.lemmas.List.Sums.{sum_by-cons}
use Rattle.disk_base.specs.Calls.{DiskCall, sync_call, write_call, written_of}
use Rattle.disk_base.specs.MemDisk.{DiskState, disk_with}
use Rattle.disk_base.specs.declared.disk.DiskAnswer.TheVariants.{Done}
use Rattle.end_pair.specs.Run as pair
use Rattle.end_pair.specs.Run.{HandsBack}
use Rattle.end_pair.specs.World.{World}
use Rattle.end_pair.specs.declared.answers.RunEnd.{RunEnd}
use Rattle.end_pair.specs.declared.answers.RunEnd.TheVariants as end
use Rattle.end_pair.specs.declared.answers.WorldStep.TheVariants as went
use Rattle.tool_step.specs.End as equipment
use Rattle.tool_step.specs.End.{making}
use Rattle.spool_works.specs.Found.{first_in}
use Rattle.tool_step.specs.Equipment.{starts}
use Rattle.equipment_node.specs.InMemory.{Holds}
use Rattle.tool_law.specs.Sound.{AllCanBeSent}
use Rattle.equipment_tables.specs.declared.plan.EquipmentPlan.{EquipmentPlan}
use Rattle.equipment_tables.specs.declared.plan.Plans.{Plans}
use Rattle.gl_base.specs.Told.{SinkTold}
use Rattle.host_node.specs.Host as host
use Rattle.line_schedule.specs.declared.event.Event.{Event}
use Rattle.line_schedule.specs.declared.schedule.Schedule.{Schedule}
use Rattle.message_end.specs.Core.{Step, Went, step_in}
use Rattle.message_end.specs.Core.Went.{Goes}
use Rattle.message_end.specs.Ends.{Asked, Opens, most_asked}
use Rattle.gate_cell.specs.Cell.{cell_of}
use Rattle.spool_file.specs.File.{SpoolFile, file_in}
use Rattle.spool_file.specs.Format.{empty_file, first_page}
use Rattle.spool_file.specs.Setup.{area_end, setup_cell}
use Rattle.spool_file.specs.Slot.{Message, is_open, slot_in, slot_place}
use Rattle.spool_file.proofs.Cleared.{bytes_before}
use Rattle.spool_file.proofs.Fresh.{empty_stands, page_long, zero_setup}
use Rattle.spool_slots.specs.Spool.{SpoolView}
use Rattle.trace_log.specs.Log.{Happening}
use Rattle.line_world.specs.Disk.{IsEmptySpool}
use Rattle.line_world.specs.Run.{EquipmentView, HostView, Runs, equipment_start, host_start, piece_of, went_of}

-- ---- the empty spool

-- a start of the equipment over a spool
abbrev pub starts_over : EquipmentPlan → SpoolView DiskState → Went EquipmentView Happening
starts_over plan spool = starts plan (file_in spool.disk.story.now.bytes)

pub none-sent : (list : List Message) → list ≡ [] → AllCanBeSent list
none-sent list none = subst AllCanBeSent (sym none) (λ k message within. absurd (omega (arith, within)))

pub holds_empty : (slots : ℕ) (spool : SpoolView DiskState) → IsEmptySpool slots spool → Holds spool
holds_empty slots spool is = record {
  version = ap (λ (file : SpoolFile). file.version) is.file;
  can = none-sent (file_in spool.disk.story.now.bytes).list (ap (λ (file : SpoolFile). file.list) is.file);
  first = is.first ∙ sym (ap first_in is.file);
  sure = record { fails_not = is.fails_not; stops_not = is.stops_not; going = is.going };
  bounded = is.bounded;
  asked = is.asked ∙ ap making (sym (ap (λ (file : SpoolFile). file.slots) is.file));
}

starts-over : (plans : Plans) (spool : SpoolView DiskState) → IsEmptySpool plans.slots spool
    → starts_over plans.equipment spool ≡ Goes (equipment_start plans)
starts-over plans spool is = ap (λ (file : SpoolFile). starts plans.equipment file) is.file

pub opens_empty : (plans : Plans) (spool : SpoolView DiskState) → IsEmptySpool plans.slots spool
    → Opens (starts_over plans.equipment spool)
opens_empty plans spool is =
    subst (λ (went : Went EquipmentView Happening). Opens went) (sym (starts-over plans spool is)) tt

pub first-is : (plans : Plans) (spool : SpoolView DiskState) → IsEmptySpool plans.slots spool
    → step_in (starts_over plans.equipment spool) ≡ equipment_start plans
first-is plans spool is = ap (λ (went : Went EquipmentView Happening). step_in went) (starts-over plans spool is)

-- ---- a spool whose bytes say so, for laws that speak of no value

-- its first page, and zeros behind that, for the slots and the area
abbrev zeroed : (slots more : ℕ) → List ℕ
zeroed slots more = first_page slots ++ replicate more 0

module _ (slots n : ℕ) (some : 1 ≤ slots) (most : slots ≤ 65535) (room : 4096 * slots + 524288 ≤ n) where
  abbrev bytes : List ℕ
  bytes = zeroed slots n

  same : (many : ℕ) → many ≤ 4096 → take many bytes ≡ take many (first_page slots)
  same many within = take-append-le many (first_page slots) (replicate n 0) (omega (arith, within, page_long slots))

  long : area_end slots ≤ length bytes
  long =
      let behind = length-replicate {A = ℕ} n 0 in
      omega (arith, length-append (first_page slots) (replicate n 0), page_long slots, behind, room)

  closed : (k : ℕ) → k < slots → is_open (slot_in bytes k) ≡ false
  closed k below =
      ap (λ (byte : ℕ). byte == 90)
      (get_or-append_right (first_page slots) (replicate n 0) 4096 (slot_place k) 0 (page_long slots) (omega arith)
      ∙ get_or-replicate n (slot_place k - 4096) 0 0 (omega (arith, below, room)))

  blank-file : file_in bytes ≡ empty_file slots
  blank-file =
      sym (empty_stands bytes slots (same 47 (omega arith)) some most long closed
      (ap cell_of (bytes_before bytes (first_page slots) 64 (same 64 (omega arith)) setup_cell 17 (omega arith))
      ∙ zero_setup slots)).is

-- calls, so many behind one that writes so many bytes
abbrev blank_calls : (more bytes : ℕ) → List DiskCall
blank_calls more bytes = write_call 0 (replicate bytes 0) Done ∷ replicate more (sync_call Done)

abbrev asks : ℕ → ℕ → Asked
asks calls bytes = record { calls = calls; bytes = bytes }

blank-asks : (calls more bytes : ℕ) → calls ≡ more + 1
    → asks (length (blank_calls more bytes)) (written_of (blank_calls more bytes)) ≡ asks calls bytes
blank-asks calls more bytes is =
    ap (λ (n : ℕ). asks n (written_of (blank_calls more bytes))) many ∙ ap (λ (n : ℕ). asks calls n) all
  where
    many : length (blank_calls more bytes) ≡ calls
    many = let syncs = length-replicate more (sync_call Done) in omega (arith, syncs, is)

    all : written_of (blank_calls more bytes) ≡ bytes
    all =
        let sum =
        sum_by-cons (λ (call : DiskCall). length call.bytes) (write_call 0 (replicate bytes 0) Done)
        (replicate more (sync_call Done)) in
        let none = sum_by-replicate (λ (call : DiskCall). length call.bytes) more (sync_call Done) in
        let page = length-replicate {A = ℕ} bytes 0 in
        omega (arith, sum, none, page)

-- as many calls as make a file, which write as many bytes
abbrev pub blank_disk : ℕ → DiskState
blank_disk slots =
    record (disk_with (zeroed slots (4096 * slots + 524288)) most_asked.calls most_asked.bytes (0, 0)) {
      calls = blank_calls (slots + 33) (slots + 528384);
    }

abbrev pub blank_spool : ℕ → SpoolView DiskState
blank_spool slots =
    record { disk = blank_disk slots; version = 2; slots = slots; first = 0; next = 0; len = 0; mark = 0 }

pub blank-empty : (slots : ℕ) → 1 ≤ slots → slots ≤ 65535 → IsEmptySpool slots (blank_spool slots)
blank-empty slots some most = record {
  first = refl;
  file = blank-file slots (4096 * slots + 524288) some most (omega arith);
  fails_not = refl;
  stops_not = refl;
  going = refl;
  bounded = (refl, refl);
  asked = blank-asks (slots + 34) (slots + 33) (slots + 528384) (omega arith);
}

-- ---- the run, over the start that the value has

-- a run that no full store has ended isn't told to be ended so
pub ends-by-no-store :
    (plans : Plans) (schedule : Schedule) (out : SinkTold) (ended : RunEnd) → went_of plans schedule ≢ went.JournalFull
    → Runs out plans schedule ended → ended ≢ end.JournalFull
ends-by-no-store plans schedule out end.JournalFull never runs is = never runs.0
ends-by-no-store plans schedule out other never runs is = cc

module _ (plans : Plans) (schedule : Schedule) (first : Step EquipmentView Happening)
    (is : first ≡ equipment_start plans) (events : List Event) (same : events ≡ schedule.events) where
  pub runs-over :
      (out : SinkTold) (ended : RunEnd)
      → pair.Runs out (pair.trace_text equipment.machine host.host_machine first (host_start plans.host) events)
      (pair.went_of equipment.machine host.host_machine first (host_start plans.host) events) ended
      → Runs out plans schedule ended
  runs-over out ended runs =
      subst (λ (s : Step EquipmentView Happening).
      pair.Runs out (pair.trace_text equipment.machine host.host_machine s (host_start plans.host) schedule.events)
      (pair.went_of equipment.machine host.host_machine s (host_start plans.host) schedule.events) ended) is
      (subst (λ (them : List Event).
      pair.Runs out (pair.trace_text equipment.machine host.host_machine first (host_start plans.host) them)
      (pair.went_of equipment.machine host.host_machine first (host_start plans.host) them) ended) same runs)

  pub hands-over :
      {W : Type 0} (show : W → World EquipmentView HostView) (ended : RunEnd) (handed : Option W)
      → HandsBack show
      (pair.piece_of equipment.machine host.host_machine first (host_start plans.host) events).world ended handed
      → HandsBack show (piece_of plans schedule).world ended handed
  hands-over show ended handed hands =
      subst (λ (s : Step EquipmentView Happening).
      HandsBack show
      (pair.piece_of equipment.machine host.host_machine s (host_start plans.host) schedule.events).world ended handed)
      is
      (subst (λ (them : List Event).
      HandsBack show
      (pair.piece_of equipment.machine host.host_machine first (host_start plans.host) them).world ended handed) same
      hands)
