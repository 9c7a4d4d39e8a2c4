-- What holds of the tables after every history.
use Rattle.std.specs.Prelude.{◌≡◌, ℕ, List, [], ◌∷◌}
use Rattle.trace_log.specs.Log.{Past}
use Rattle.spool_rule.specs.Rule.{covered, covers}
use Rattle.equipment_tables.specs.declared.plan.EquipmentPlan.{EquipmentPlan}
use Rattle.equipment_tables.specs.Past.{entries_at, spooled_by, tables_at}
use Rattle.equipment_tables.specs.Plan.{EquipmentPlanFits}
use Rattle.equipment_tables.specs.Tables.{after_past, planned_tables}

-- at first the tables are as planned; an entry more changes them as it changes the tables that are looked back for; and
-- what is spooled is what the entries name that hold
pub record TablesAreLookedBackFor : Type 0 where
  pub first : (plan : EquipmentPlan) → tables_at plan [] ≡ planned_tables plan
  pub next :
      (plan : EquipmentPlan) (past : List Past) (entry : Past) → EquipmentPlanFits plan
      → tables_at plan (entry ∷ past) ≡ after_past entry (tables_at plan past)
  pub covers_as_named :
      (plan : EquipmentPlan) (past : List Past) (stream function : ℕ)
      → covered (tables_at plan past).rule stream function
      ≡ covers (spooled_by plan (entries_at plan past)) stream function
