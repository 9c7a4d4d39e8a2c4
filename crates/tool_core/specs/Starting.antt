-- The equipment as it starts, before its disk is in hand.
use Rattle.std.specs.Prelude.{◌≡◌, ℕ, List, ◌∷◌, ◌++◌, Option}
use Rattle.message_flow.specs.declared.step.Note.{Note}
use Rattle.message_flow.specs.declared.step.StepOut.{StepOut}
use Rattle.trace_log.specs.Text.{IsStartNote}
use Rattle.transact.specs.Numbers.{numbers_from}
use Rattle.message_end.specs.Ends.{printed}
use Rattle.message_end.specs.Laws.{new_end}
use Rattle.setup_store.specs.Entries.{Entry}
use Rattle.message_end.specs.Parts.{Node}
use Rattle.spool_ledger.specs.Ledger.{LedgerView}
use Rattle.equipment_tables.specs.declared.plan.EquipmentPlan.{EquipmentPlan}
use Rattle.tool_step.specs.declared.kind.Kind.{Kind}
use Rattle.tool_step.specs.Equipment.{new_own, setup_lines}
use Rattle.tool_step.specs.Own.{OwnView}
use Rattle.tool_step.specs.Step.{end_plan}

-- ---- its pieces

-- as it starts, with the setup that is found, what is known of the spool, and the system bytes from a base on
abbrev pub new_node : EquipmentPlan → Option (List Entry) → LedgerView → ℕ → Node OwnView Kind
new_node plan setup ledger base =
    record { own = new_own plan setup ledger; core = new_end (end_plan plan) (numbers_from base 4096) }

-- such a note was made, and these behind it
pub record IsNotedBehind (Is : Note → Type 0) (behind : List Note) (out_old out_new : StepOut) : Type 0 where
  pub note : Note
  pub is : Is note
  pub notes : out_new.notes ≡ out_old.notes ++ note ∷ behind

-- the start is noted, and what becomes of the setup that it finds
abbrev pub IsStartNoted : EquipmentPlan → Option (List Entry) → (len base : ℕ) → StepOut → StepOut → Type 0
IsStartNoted plan setup len base out_old out_new =
    IsNotedBehind (IsStartNote len base) (printed (setup_lines plan setup)) out_old out_new
