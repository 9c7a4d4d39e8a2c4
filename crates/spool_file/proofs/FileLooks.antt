-- The calls that read a file which stands for a list.
use Rattle.std.proofs.Common.{◌≡◌, ℕ, ◌+◌, ◌<◌, ◌≤◌, min, List, [], ◌∷◌, length, Option, None, sym, subst, arith, inl}
use Rattle.disk_base.specs.Calls.{DiskCall, Logs, read_call, sync_call}
use Rattle.disk_base.specs.Faults.{DiskHealth, HasCause, IsLeftOut}
use Rattle.disk_base.specs.Story.{Story}
use Rattle.disk_base.specs.declared.disk.DiskAnswer.{DiskAnswer}
use Rattle.disk_base.specs.declared.disk.DiskAnswer.TheVariants.{Done, Failed}
use Rattle.disk_base.proofs.Stretches.{fault_wider}
use Rattle.spool_file.specs.File.{frame_in, slots_in, spool_break, version_in}
use Rattle.spool_file.specs.Front.{front_size}
use Rattle.spool_file.specs.Logs.{MakesAll}
use Rattle.spool_file.specs.Reads.{file_looks, front_look, look_back, looks_at, recover_calls, slot_behind}
use Rattle.spool_file.specs.Reads.{slots_looks, start_looks}
use Rattle.spool_file.specs.Slot.{slot_place}
use Rattle.spool_file.proofs.Wholes.{sound_slots}
use Rattle.spool_file.specs.declared.slot.Frame.{Frame}
use Rattle.spool_file.proofs.Making.{makes_before, makes_then}

-- such a file has all of the front
whole_front : (bytes : List ℕ) (size : ℕ) → length bytes ≡ size → spool_break bytes ≡ None →
    min front_size size ≡ front_size
whole_front bytes size sized none =
    let fits : slot_place (slots_in bytes) ≤ length bytes =
    (sound_slots bytes none).fits in
    omega (arith, fits, sized)

module _ (a b c : DiskHealth) (k l m : Option (List DiskCall)) (s : Story) (size : ℕ) where
  -- the front, and then the slots
  pub whole_looks : (answer : DiskAnswer) → length s.now.bytes ≡ size → spool_break s.now.bytes ≡ None →
      MakesAll a b k l (front_look size) Done →
      MakesAll b c l m (slots_looks (version_in s.now.bytes) (slots_in s.now.bytes)) answer →
      MakesAll a c k m (file_looks (version_in s.now.bytes) (slots_in s.now.bytes)) answer
  whole_looks answer sized none front slots =
      let looks = slots_looks (version_in s.now.bytes) (slots_in s.now.bytes) in
      subst (λ (n : ℕ). MakesAll a c k m (read_call 0 n Done ∷ looks) answer)
      (whole_front s.now.bytes size sized none)
      (makes_then a b c k l m (front_look size) looks answer front slots)

module _ (a b : DiskHealth) (k l : Option (List DiskCall)) (s : Story) (size : ℕ) where
  pub front_looks : length s.now.bytes ≡ size → spool_break s.now.bytes ≡ None →
      MakesAll a b k l (front_look size) Failed →
      MakesAll a b k l (file_looks (version_in s.now.bytes) (slots_in s.now.bytes)) Failed
  front_looks sized none front =
      let looks = slots_looks (version_in s.now.bytes) (slots_in s.now.bytes) in
      subst (λ (n : ℕ). MakesAll a b k l (read_call 0 n Done ∷ looks) Failed)
      (whole_front s.now.bytes size sized none)
      (makes_before a b k l (front_look size) looks front)

-- the slots of a file of version 2: all of them, and then again
pub both_looks : {a b c : DiskHealth} {k l m : Option (List DiskCall)} (slots : ℕ) (answer : DiskAnswer) →
    MakesAll a b k l (start_looks slots) Done →
    MakesAll b c l m (looks_at (slot_behind slots) (slots + look_back slots)) answer →
    MakesAll a c k m (slots_looks 2 slots) answer
both_looks {a} {b} {c} {k} {l} {m} slots answer first second =
    makes_then a b c k l m (start_looks slots) (looks_at (slot_behind slots) (slots + look_back slots)) answer first
    second

pub first_looks : {a b : DiskHealth} {k l : Option (List DiskCall)} (slots : ℕ) →
    MakesAll a b k l (start_looks slots) Failed → MakesAll a b k l (slots_looks 2 slots) Failed
first_looks {a} {b} {k} {l} slots first =
    makes_before a b k l (start_looks slots) (looks_at (slot_behind slots) (slots + look_back slots)) first

-- the slots, whatever the frame is called
pub frame_looks : {a b : DiskHealth} {k l : Option (List DiskCall)} {answer : DiskAnswer} (bytes : List ℕ)
    (frame : Frame) → frame ≡ frame_in bytes → MakesAll a b k l (slots_looks frame.version frame.slots) answer →
    MakesAll a b k l (slots_looks (version_in bytes) (slots_in bytes)) answer
frame_looks {a} {b} {k} {l} {answer} bytes frame is =
    subst (λ (f : Frame). MakesAll a b k l (slots_looks f.version f.slots) answer) is

-- and whatever their version
pub version_looks : {a b : DiskHealth} {k l : Option (List DiskCall)} {answer : DiskAnswer} (slots : ℕ) {v w : ℕ} →
    v ≡ w → MakesAll a b k l (slots_looks w slots) answer → MakesAll a b k l (slots_looks v slots) answer
version_looks {a} {b} {k} {l} {answer} slots is =
    subst (λ (version : ℕ). MakesAll a b k l (slots_looks version slots) answer) (sym is)

-- a sync, and then those
pub synced_looks : (a b c : DiskHealth) (k l m : Option (List DiskCall)) (version slots : ℕ) (answer : DiskAnswer) →
    HasCause a b 1 0 ⊥ Done →
    Logs sync_call (IsLeftOut a b 0 0) k l Done → MakesAll b c l m (file_looks version slots) answer →
    MakesAll a c k m (recover_calls version slots) answer
synced_looks a b c k l m version slots answer cause logs looks =
    makes_then a b c k l m (sync_call Done ∷ []) (file_looks version slots) answer (record { cause = cause; logs = logs }) looks

pub no_sync : (a b : DiskHealth) (k l : Option (List DiskCall)) (version slots : ℕ) → HasCause a b 1 0 ⊥ Failed →
    Logs sync_call (IsLeftOut a b 0 0) k l Failed →
    MakesAll a b k l (recover_calls version slots) Failed
no_sync a b k l version slots cause logs =
    makes_before a b k l (sync_call Done ∷ []) (file_looks version slots) (record {
      cause = fault_wider a b 1 1 ⊥ (a.room < 0) (omega arith) (λ none. absurd none) cause;
      logs = inl logs;
    })
