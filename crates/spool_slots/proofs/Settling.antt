-- Calls of a disk in a row: a write with its sync, and those that write a cell.
use Rattle.std.proofs.Common.{◌≡◌, inl, inr, ℕ, ◌+◌, ◌≤◌, not, List, [], ◌∷◌, length, Option, Some, ◌∙◌, refl, ap, subst}
use Rattle.std.proofs.Common.{arith}
use Rattle.disk_base.specs.Calls.{DiskCall, read_call, sync_call, with_call, write_call}
use Rattle.disk_base.specs.Faults.{IsLeftOut}
use Rattle.disk_base.specs.Settle.{LogsBoth}
use Rattle.disk_base.specs.Story.{Story}
use Rattle.disk_base.specs.declared.disk.Disk as disk
use Rattle.disk_base.specs.declared.disk.DiskAnswer.{DiskAnswer}
use Rattle.disk_base.specs.declared.disk.DiskAnswer.TheVariants.{Done, Failed}
use Rattle.gate_cell.specs.Cell.{cell_in, copy_bytes, gate_byte, spare_place}
use Rattle.spool_file.specs.File.{SpoolFile}
use Rattle.spool_file.specs.Logs.{LogsAll, MakesAll}
use Rattle.disk_base.proofs.Stretches.{left_out_wider, logs_wider}
use Rattle.spool_file.proofs.Making.{failed_before, failed_then, makes_as}
use Rattle.spool_slots.specs.Changes.{HasMoved, HasSettled, LogsValue}

-- the calls of a write with its sync, and those that write another value of a cell
abbrev pub settle_calls : ℕ → List ℕ → List DiskCall
settle_calls at bytes = write_call at bytes Done ∷ sync_call Done ∷ []

abbrev pub value_calls : Story → (at value : ℕ) → List DiskCall
value_calls s at value =
    read_call (at + 16) 1 Done
    ∷ write_call (spare_place at (cell_in s.now.bytes at)) (copy_bytes value) Done
    ∷ sync_call Done
    ∷ write_call (at + 16) (gate_byte (not (cell_in s.now.bytes at).second) ∷ []) Done
    ∷ sync_call Done
    ∷ []

pub length_copy : (value : ℕ) → length (copy_bytes value) ≡ 8
unfolding copy_bytes
length_copy value = refl

-- one that writes nothing may be left out for no want of bytes
both_all : (at : ℕ) (bytes : List ℕ) (C E : ℕ → ℕ → Type 0) (before after : Option (List DiskCall))
    (answer : DiskAnswer) → (C 0 (length bytes) → E 0 (length bytes)) → (C 1 0 → E 1 (length bytes)) →
    LogsBoth at bytes C before after answer → LogsAll (settle_calls at bytes) E before after answer
both_all at bytes C E before after Done one two is = is
both_all at bytes C E before after Failed one two (inl is) =
    inl (logs_wider (write_call at bytes) (C 0 (length bytes)) (E 0 (length bytes)) before after one is)
both_all at bytes C E before after Failed one two (inr is) =
    inr (inl (logs_wider sync_call (C 1 0) (E 1 (length bytes + 0)) (with_call (write_call at bytes Done) before) after
    (λ out. subst (E 1) (omega arith) (two out)) is))

-- the first three of a cell's calls
abbrev prepare_calls : Story → (at value : ℕ) → List DiskCall
prepare_calls s at value =
    read_call (at + 16) 1 Done ∷ settle_calls (spare_place at (cell_in s.now.bytes at)) (copy_bytes value)

module _ (s : Story) (at value : ℕ) (C : ℕ → ℕ → Type 0) (more : (made n both : ℕ) → n ≤ both → C made n → C made both)
    (before after : Option (List DiskCall)) where
  abbrev gate : List ℕ
  gate = gate_byte (not (cell_in s.now.bytes at).second) ∷ []

  value_all : (answer : DiskAnswer) → LogsValue s at value C before after answer →
      LogsAll (value_calls s at value) C before after answer
  value_all Done is =
      is.last
      ∙ ap (λ (told : Option (List DiskCall)). with_call (sync_call Done) (with_call (write_call (at + 16) gate Done) told))
      is.first
  value_all Failed (inl (inl read)) = inl read
  value_all Failed (inl (inr is)) =
      let told = with_call (read_call (at + 16) 1 Done) before in
      let spare = spare_place at (cell_in s.now.bytes at) in
      inr (failed_before (settle_calls spare (copy_bytes value)) (settle_calls (at + 16) gate)
      (λ made n. C (1 + made) (0 + n)) told after
      (both_all spare (copy_bytes value) (λ made n. C (1 + made) n) (λ made n. C (1 + made) (0 + n)) told after Failed
      (more 1 (length (copy_bytes value)) (0 + length (copy_bytes value)) (omega arith))
      (more 2 0 (0 + length (copy_bytes value)) (omega arith)) is))
  value_all Failed (inr is) =
      failed_then (prepare_calls s at value) (settle_calls (at + 16) gate) C (λ made n. C (3 + made) (8 + n)) C before
      is.prepared after
      (λ made n all both is_all is_both out.
      subst (λ (m : ℕ). C m both) (omega (arith, is_all))
      (more (3 + made) (8 + n) both (let copy = length_copy value in omega (arith, is_both, copy)) out))
      is.first
      (both_all (at + 16) gate (λ made n. C (3 + made) (8 + n)) (λ made n. C (3 + made) (8 + n)) is.prepared after
      Failed (λ out. out) (more 4 8 9 (omega arith)) is.last)

module _ {D : Type 0} (members : disk.Ghosts D) (old new : D) where
  abbrev LeftOut : ℕ → ℕ → Type 0
  LeftOut = IsLeftOut (members.health old) (members.health new)

  pub makes_settled : (at : ℕ) (bytes : List ℕ) (answer : DiskAnswer) → HasSettled members old new at bytes answer →
      MakesAll (members.health old) (members.health new) (members.calls old) (members.calls new)
      (settle_calls at bytes) answer
  makes_settled at bytes answer is =
      makes_as (members.health old) (members.health new) (members.calls old) (members.calls new)
      (settle_calls at bytes) answer 2 (length bytes) (omega arith) (omega arith) is.cause
      (both_all at bytes LeftOut LeftOut (members.calls old) (members.calls new) answer (λ out. out)
      (left_out_wider (members.health old) (members.health new) 1 0 (length bytes) (omega arith)) is.calls)

  pub makes_moved : (at value : ℕ) (moved : List ℕ → SpoolFile) (answer : DiskAnswer) →
      HasMoved members old new at value moved answer → (s : Story) → members.told old ≡ Some s →
      MakesAll (members.health old) (members.health new) (members.calls old) (members.calls new)
      (value_calls s at value) answer
  makes_moved at value moved answer is s told =
      let copy = length_copy value in
      makes_as (members.health old) (members.health new) (members.calls old) (members.calls new)
      (value_calls s at value) answer 5 9 (omega arith) (omega (arith, copy)) is.cause
      (value_all s at value LeftOut (left_out_wider (members.health old) (members.health new)) (members.calls old)
      (members.calls new) answer (is.calls s told))
