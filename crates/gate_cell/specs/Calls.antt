-- The disk calls of reading, preparing and committing a value (this profile).
use Rattle.std.specs.Prelude.{◌⊎◌, ℕ, ◌+◌, List, Option}
use Rattle.disk_base.specs.Calls.{DiskCall, Logs, read_call, with_call}
use Rattle.disk_base.specs.Settle.{LogsBoth}
use Rattle.disk_base.specs.Story.{Story}
use Rattle.disk_base.specs.declared.disk.DiskAnswer.{DiskAnswer}
use Rattle.disk_base.specs.declared.disk.DiskAnswer.TheVariants.{Done, Failed}
use Rattle.gate_cell.specs.Cell.{cell_in, copy_bytes, spare_place}
use Rattle.gate_cell.specs.Holds.{IsRead}
use Rattle.gate_cell.specs.declared.cell.CellAnswer.{CellAnswer}
use Rattle.gate_cell.specs.declared.cell.CellAnswer.TheVariants.{Value}
use Rattle.gate_cell.specs.declared.cell.CellAnswer.TheVariants as cell

-- the call of a reading, which is done where there is a value
abbrev pub call_answer : CellAnswer → DiskAnswer
call_answer (Value value) = Done
call_answer cell.Failed = Failed

-- the value was read, where there is one
abbrev pub ReadsCell : Story → ℕ → CellAnswer → Type 0
ReadsCell s at (Value value) = IsRead s at value
ReadsCell s at cell.Failed = Unit {0}

-- a read of the gate, and a write of the other copy with its sync; where this failed, the last one of them did, or it
-- was left out
abbrev pub LogsPreparing : Story → ℕ → ℕ → (ℕ → ℕ → Type 0) → Option (List DiskCall) → Option (List DiskCall) →
    DiskAnswer → Type 0
LogsPreparing s at value LeftOut before after Done =
    LogsBoth (spare_place at (cell_in s.now.bytes at)) (copy_bytes value) (λ made n. LeftOut (1 + made) n)
    (with_call (read_call (at + 16) 1 Done) before) after Done
LogsPreparing s at value LeftOut before after Failed =
    Logs (read_call (at + 16) 1) (LeftOut 0 0) before after Failed
    ⊎ LogsBoth (spare_place at (cell_in s.now.bytes at)) (copy_bytes value) (λ made n. LeftOut (1 + made) n)
    (with_call (read_call (at + 16) 1 Done) before) after Failed
