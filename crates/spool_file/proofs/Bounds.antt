-- For how many slots a file is read at most.
use Rattle.std.proofs.Common.{◌≡◌, ℕ, ◌+◌, ◌*◌, ◌/◌, ◌≤◌, List, length, Option, Some, None, refl, sym, ap, subst, ◌∙◌}
use Rattle.std.proofs.Common.{arith}
use Rattle.std.specs.Option.{option_map}
use Rattle.disk_base.specs.Calls.{DiskCall}
use Rattle.disk_base.specs.Faults.{DiskHealth}
use Rattle.disk_base.specs.Story.{Story, with_sync}
use Rattle.disk_base.specs.declared.disk.DiskAnswer.{DiskAnswer}
use Rattle.spool_file.specs.File.{frame_in, slots_in}
use Rattle.spool_file.specs.Front.{front_break, front_in, mark_of}
use Rattle.spool_file.specs.Reads.{HasRead, most_reads, slots_if, slots_looked}
use Rattle.spool_file.specs.Slot.{slot_place}
use Rattle.spool_file.specs.declared.front.Front.{Front}
use Rattle.spool_file.specs.declared.slot.Frame.{Frame}

-- as many as its front says, which has no break
pub looked_for : (told : Option Story) (size slots : ℕ) → slot_place slots ≤ size →
    ((s : Story) → told ≡ Some s →
    (front_break (front_in s.now.bytes) (length s.now.bytes) ≡ None) × (slots ≡ slots_in s.now.bytes)) →
    slots ≤ slots_looked told size
looked_for None size slots fits says = omega (arith, fits)
looked_for (Some s) size slots fits says =
    let front = says s refl in
    subst (λ (break : Option ℕ). slots ≤ slots_if break (slots_in s.now.bytes)) (sym front.0) (omega (arith, front.1))

pub front_slots : (bytes : List ℕ) (found : Front) →
    (front_break (front_in bytes) (length bytes) ≡ None) × (found.frame ≡ frame_in bytes)
    × (found.mark ≡ mark_of (front_in bytes)) →
    (front_break (front_in bytes) (length bytes) ≡ None) × (found.frame.slots ≡ slots_in bytes)
front_slots bytes found is = (is.0, ap (λ (frame : Frame). frame.slots) is.1)

-- a sync changes nothing of that
module _ (size old : ℕ) (same : size ≡ old) where
  synced_looked : (told : Option Story) → slots_looked (option_map with_sync told) size ≡ slots_looked told old
  synced_looked None = ap (λ (n : ℕ). n / 4096) same
  synced_looked (Some s) = refl

  pub most_same : {a b : DiskHealth} {k l : Option (List DiskCall)} {answer : DiskAnswer} (told synced : Option Story) →
      synced ≡ option_map with_sync told → HasRead a b k l (most_reads synced size) answer →
      HasRead a b k l (most_reads told old) answer
  most_same {a} {b} {k} {l} {answer} told synced is =
      subst (λ (n : ℕ). HasRead a b k l (3 * n + 1) answer)
      (ap (λ (t : Option Story). slots_looked t size) is ∙ synced_looked told)
