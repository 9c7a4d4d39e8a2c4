-- What the list that is kept tells of the tables. The newest note comes first.
use Rattle.std.specs.Prelude.{◌≡◌, List, Option, Some, None}
use Rattle.setup_store.specs.Entries.{Entry}
use Rattle.trace_log.specs.Log.{Happening}
use Rattle.equipment_tables.specs.declared.plan.EquipmentPlan.{EquipmentPlan}
use Rattle.equipment_tables.specs.Past.{tables_at}
use Rattle.equipment_tables.specs.Setup.{carried_out, setup_of}
use Rattle.setup_law.specs.Setup.{Due, KeepsSetup, due_in, list_in, tables_in, with_kept}
use Rattle.setup_law.specs.Setup.Due.{AKeep, Anything, ItsEnd}

-- the list that tells the setup: the one that is kept, and while a primary is being kept the one behind that; None while
-- a start carries out what it has found, and where the file has no room for any
abbrev pub told_by : Due → Option (List Entry) → Option (List Entry)
told_by (AKeep primary) list = with_kept primary list
told_by (ItsEnd primary) list = with_kept primary list
told_by Anything list = list
told_by _ list = None

-- the constants, reports, links, enables, alarm enables and the rule of spooling that hold are those that such a list
-- tells as a start carries it out
abbrev pub TellsSetup : EquipmentPlan → Option (List Entry) → List Happening → Type 0
TellsSetup plan held notes =
    (list : List Entry) → told_by (due_in plan held notes) (list_in held notes) ≡ Some list
    → setup_of (tables_in plan notes) ≡ setup_of (tables_at plan (carried_out list))

-- so it is behind each note of an equipment that keeps its setup. So each start has the setup of the start before it,
-- with or without the primary that was being kept as power was lost
abbrev pub KeptSetupHolds : Type 0
KeptSetupHolds =
    (plan : EquipmentPlan) (held : Option (List Entry)) (notes : List Happening) → KeepsSetup plan held notes
    → TellsSetup plan held notes
