-- Where power may be lost in a step of the equipment, and what that leaves of its spool (this profile).
use Rattle.std.specs.Prelude.{◌≡◌, ℕ, List, [], ◌∷◌, ◌++◌, length, map}
use Rattle.std.specs.List.{sum_by}
use Rattle.gem_spool.specs.Standing.{Standing}
use Rattle.spool_file.specs.File.{SpoolFile}
use Rattle.message_end.specs.Core.{step_in}
use Rattle.message_end.specs.Ends.{Input, Loss}
use Rattle.message_end.specs.Own.{Has}
use Rattle.trace_log.specs.declared.commands.ToolCommand.{ToolCommand}
use Rattle.trace_log.specs.Log.{Happening}
use Rattle.spool_works.specs.DiskWorks.{DiskWork, front_at, lines_behind, lines_up_to, standing_behind}
use Rattle.tool_step.specs.Disk.{asks, standing_in, stops, works_of}
use Rattle.tool_step.specs.Equipment.{EquipmentView, begun_step}
use Rattle.gem_spool.specs.Updates.{Left}
use Rattle.spool_works.specs.WorkLosses.{lost_calls}

-- all else is gone with the power, and a start anew asks for none of it but the plan
abbrev pub left_as : EquipmentView → SpoolFile → EquipmentView
left_as s file = record s { file = file }

abbrev pub loss_at : EquipmentView → List Happening → ℕ × Left → Loss EquipmentView
loss_at s front lost =
    record { bytes = lost.0; front = front; left = λ choice. left_as s (lost.1 choice) }

-- at each call of these works, with what is noted by then
abbrev pub losses_of : EquipmentView → Standing → List Happening → List DiskWork → List Happening →
    List (Loss EquipmentView)
losses_of s st before [] notes = []
losses_of s st before (one ∷ works) notes =
    map (loss_at s (front_at one before notes)) (lost_calls st one)
    ++ losses_of s (standing_behind st one) (lines_up_to one before notes) works (lines_behind one notes)

abbrev pub losses : EquipmentView → Input ToolCommand → ℕ → List (Loss EquipmentView)
losses s input now =
    losses_of s (standing_in s) [] (works_of s input now) (step_in (begun_step s input now)).notes

-- a step may be interrupted once at each call that it asks for, which write as many bytes as it asks for, with what is
-- noted where the disk fails at that call's work
abbrev pub LossesAreCounted : Type 0
LossesAreCounted =
    (s : EquipmentView) (input : Input ToolCommand) (now : ℕ)
    → ((length (losses s input now) ≡ (asks s input now).calls)
    × (sum_by (λ loss. loss.bytes) (losses s input now) ≡ (asks s input now).bytes))
    × ((loss : Loss EquipmentView) → Has (losses s input now) loss → Has (stops s input now) loss.front)
