-- What the slots of the oldest message come to, whichever way their reading ends.
use Rattle.std.proofs.Common.{◌≡◌, ℕ, suc, ◌+◌, ◌-◌, ◌≤◌, List, ◌∷◌, ◌++◌, drop, take, Some, Ok, Err, Result, IfOk}
use Rattle.std.proofs.Common.{sym, ap, subst, ◌∙◌, arith}
use Rattle.std.specs.List.{slice_get}
use Rattle.disk_base.specs.Story.{Story}
use Rattle.disk_base.specs.declared.disk.Disk as disk
use Rattle.disk_base.specs.declared.disk.DiskAnswer.TheVariants.{Done, Failed}
use Rattle.gem_spool.specs.Oldest.{HasReadSlots, ReadsOldest, ReadsOn, known_head, message_in, oldest_looks}
use Rattle.gem_spool.specs.Spool.{HasList}
use Rattle.gem_spool.specs.Standing.{Standing, Stands}
use Rattle.gem_spool.specs.declared.kept.Kept.{Kept}
use Rattle.gem_spool.specs.declared.kept.Unread.{Unread}
use Rattle.gem_spool.specs.declared.kept.Unread.TheVariants as unread
use Rattle.gem_spool.proofs.First.{first_read, head_known, same_stands}
use Rattle.gem_spool.proofs.Pieces.{reads_then}
use Rattle.spool_file.specs.File.{file_in}
use Rattle.spool_file.specs.Slot.{Message, areas_from, slot_in}
use Rattle.spool_file.specs.declared.slot.SlotHead.{SlotHead}
use Rattle.spool_slots.specs.Changes.{IsFirstSize, IsListed, LooksFirst}
use Rattle.spool_slots.specs.Spool.{Rests, SpoolView, known_of}
use Rattle.spool_slots.specs.declared.states.OldestAnswer.TheVariants as oldest

-- the first slot was read, which has this head, of a message that takes so many
module _ {D : Type 0} (members : disk.Ghosts D) (v u : SpoolView D) (before into : List ℕ) (head : SlotHead)
    (looks : LooksFirst members v u before into (oldest.Found head)) (slots : ℕ) (size : IsFirstSize members v slots)
    (room : v.next ≤ v.first + v.slots)
    (rests : (s : Story) → members.told v.disk ≡ Some s → Rests s (known_of v)) where
  abbrev known : SlotHead
  known = known_head head v.first slots

  module _ (s : Story) (told : members.told v.disk ≡ Some s) where
    there : (head.number ≡ v.first) × IsListed s head
    there = looks.2.listed s told

    pub same_head : known_head head v.first slots ≡ head
    same_head = head_known s (known_of v) (rests s told) room looks.1 slots (size.is s told) head there.1 there.0

    pub known_listed : IsListed s (known_head head v.first slots)
    known_listed = subst (IsListed s) (sym same_head) there.1

    got : (kept : Kept) → kept ≡ record {
      stream = head.stream;
      function = head.function;
      body = take (known_head head v.first slots).len
          (drop 15 into ++ areas_from v.slots (slot_in s.now.bytes) (v.first + 1) (slots - 1));
    } → slice_get (file_in s.now.bytes).list 0 ≡ Some (message_in v.first kept)
    got kept is =
        first_read s (known_of v) (rests s told) room looks.1 slots (size.is s told) head there.1 there.0 into
        (looks.2.slot s told)
        ∙ ap (λ (k : Kept). Some (message_in v.first k))
        (ap (λ (h : SlotHead). record {
          stream = head.stream;
          function = head.function;
          body = take h.len (drop 15 into ++ areas_from v.slots (slot_in s.now.bytes) (v.first + 1) (slots - 1));
        }) (sym same_head) ∙ sym is)

  slots_suc : suc (slots - 1) ≡ slots
  slots_suc = let some = size.some in omega (arith, some)

  same_slots : u.slots ≡ v.slots
  same_slots = ap (λ (x : SpoolView D). x.slots) looks.0.same

  same_first : u.first ≡ v.first
  same_first = ap (λ (x : SpoolView D). x.first) looks.0.same

  pub reads_oldest : (w : SpoolView D) (r : Result Kept Unread) →
      ReadsOn members u w slots (known_head head v.first slots) into r → ReadsOldest members v w slots r
  reads_oldest w (Ok kept) reads = (
    subst (λ (n : ℕ). HasReadSlots members v w (oldest_looks v n) Done) slots_suc
        (reads_then members v u w looks.0 (slots - 1) Done reads.0),
    looks.1,
    λ s told. got s told kept
        (reads.1 s (looks.0.told ∙ told)
        ∙ ap (λ (n : ℕ). record {
          stream = head.stream;
          function = head.function;
          body = take (known_head head v.first slots).len
              (drop 15 into ++ areas_from n (slot_in s.now.bytes) (u.first + 1) (slots - 1));
        }) same_slots
        ∙ ap (λ (n : ℕ). record {
          stream = head.stream;
          function = head.function;
          body = take (known_head head v.first slots).len
              (drop 15 into ++ areas_from v.slots (slot_in s.now.bytes) (n + 1) (slots - 1));
        }) same_first),
  )
  reads_oldest w (Err unread.Empty) reads = absurd reads
  reads_oldest w (Err unread.Failed) reads = (
    subst (λ (n : ℕ). HasReadSlots members v w (oldest_looks v n) Failed) slots_suc
        (reads_then members v u w looks.0 (slots - 1) Failed reads),
    looks.1,
  )
  reads_oldest w (Err unread.NoMemory) reads = (
    record {
      made = suc (reads.made - 1);
      few = let few = reads.few in let some = size.some in omega (arith, few, some);
      reads = reads_then members v u w looks.0 (reads.made - 1) Done reads.reads;
    },
    looks.1,
  )

pub read_message : {D : Type 0} (members : disk.Ghosts D) (v w : SpoolView D) (slots : ℕ) (r : Result Kept Unread) →
    ReadsOldest members v w slots r → (s : Story) → members.told v.disk ≡ Some s → (message : Message)
    (rest : List Message) → HasList members v (message ∷ rest) →
    IfOk r (λ kept. message_in v.first kept ≡ message)
read_message members v w slots (Ok kept) reads s told message rest has =
    let first : Some message ≡ Some (message_in v.first kept) =
    ap (λ (all : List Message). slice_get all 0) (sym (has.is s told)) ∙ reads.2 s told in
    cc
read_message members v w slots (Err why) reads s told message rest has = tt

-- and the list stands as it did
pub read_stands : {D : Type 0} (members : disk.Ghosts D) (v w : SpoolView D) (st : Standing) → Stands members v st →
    (slots : ℕ) (r : Result Kept Unread) → ReadsOldest members v w slots r → Stands members w st
read_stands {D} members v w st stands slots (Ok kept) reads = same_stands members v w st stands reads.0.same reads.0.told
read_stands {D} members v w st stands slots (Err unread.Empty) reads =
    subst (λ (x : SpoolView D). Stands members x st) (sym reads.0) stands
read_stands {D} members v w st stands slots (Err unread.Failed) reads =
    same_stands members v w st stands reads.0.same reads.0.told
read_stands {D} members v w st stands slots (Err unread.NoMemory) reads =
    same_stands members v w st stands reads.0.reads.same reads.0.reads.told
