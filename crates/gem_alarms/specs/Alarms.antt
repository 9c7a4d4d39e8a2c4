-- The table of alarms, what its calls answer and leave, and the items that it gives.
use Rattle.std.specs.Prelude.{ℕ, Bool, List, [], ◌∷◌, map, filter, bit_or, nat_eq, Option, Some, None, if◌then◌else◌}
use Rattle.std.specs.Bool.{beq}
use Rattle.std.specs.Map.{lookup}
use Rattle.std.specs.Option.{option_map_or}
use Rattle.secs_items.specs.declared.item.Item.{Item}
use Rattle.secs_items.specs.declared.item.Item.TheVariants as item
use Rattle.secs_items.specs.Items.{number_item}
use Rattle.gem_tables.specs.Rows.{with_each, with_row}
use Rattle.gem_alarms.specs.declared.alarm.Alarm.{Alarm}
use Rattle.gem_alarms.specs.declared.alarms.Ackc5.{Ackc5}
use Rattle.gem_alarms.specs.declared.alarms.Ackc5.TheVariants as ackc5
use Rattle.gem_alarms.specs.declared.alarms.AlarmStep.{AlarmStep}
use Rattle.gem_alarms.specs.declared.alarms.AlarmStep.TheVariants as step

-- the alarms with their ALIDs, in the plan's order
abbrev pub AlarmTable : Type 0
AlarmTable = List (ℕ × Alarm)

abbrev pub alarm_in : AlarmTable → ℕ → Option Alarm
alarm_in table alid = lookup (nat_eq alid) table

abbrev pub with_set : Bool → Alarm → Alarm
with_set is_set alarm = record alarm { is_set = is_set }

abbrev pub with_enabled : Bool → Alarm → Alarm
with_enabled is_enabled alarm = record alarm { is_enabled = is_enabled }

-- all alarms enabled or disabled
abbrev pub all_enabled : Bool → AlarmTable → AlarmTable
all_enabled is_enabled table = with_each (λ alid. with_enabled is_enabled) table

-- an ALID, or none for all (SEMI E5, S5F3)
abbrev pub enabled_by : Option ℕ → Bool → AlarmTable → AlarmTable
enabled_by (Some alid) is_enabled table = with_row alid (with_enabled is_enabled) table
enabled_by None is_enabled table = all_enabled is_enabled table

-- what a command for an alarm does that is there
abbrev pub step_for : Bool → Alarm → AlarmStep
step_for is_set alarm = if beq alarm.is_set is_set then step.Same else step.Changed alarm.is_enabled

abbrev pub step_of : AlarmTable → ℕ → Bool → AlarmStep
step_of table alid is_set = option_map_or (step_for is_set) (alarm_in table alid) step.Unknown

-- S5F3 is refused where its ALID isn't one of the plan's (SEMI E5, ACKC5)
abbrev pub ackc5_of : AlarmTable → Option ℕ → Ackc5
ackc5_of table (Some alid) = option_map_or (λ alarm. ackc5.Done) (alarm_in table alid) (ackc5.Unknown alid)
ackc5_of table None = ackc5.Done

-- the category, with bit 80 where the alarm is set (SEMI E5, ALCD)
abbrev pub alcd_of : Alarm → ℕ
alcd_of alarm = if alarm.is_set then bit_or alarm.category 128 else alarm.category

-- ALCD, ALID and ALTX (SEMI E5, S5F1 and S5F6)
abbrev pub triple : List ℕ → ℕ → List ℕ → Item
triple alcd alid altx = item.L (item.B alcd ∷ number_item alid ∷ item.A altx ∷ [])

-- of an alarm that isn't there ALCD and ALTX are empty (SEMI E5, S5F6)
abbrev pub alarm_item : ℕ → Option Alarm → Item
alarm_item alid (Some alarm) = triple (alcd_of alarm ∷ []) alid alarm.text
alarm_item alid None = triple [] alid []

abbrev pub body_of : AlarmTable → ℕ → Item
body_of table alid = alarm_item alid (alarm_in table alid)

abbrev pub entry_item : ℕ × Alarm → Item
entry_item e = alarm_item e.0 (Some e.1)

-- those asked for, in the order of asking; where none is asked for, all in the plan's order (SEMI E5, S5F5)
abbrev pub items_of : AlarmTable → List ℕ → List Item
items_of table [] = map entry_item table
items_of table (alid ∷ alids) = map (body_of table) (alid ∷ alids)

abbrev pub list_of : AlarmTable → List ℕ → Item
list_of table alids = item.L (items_of table alids)

-- the enabled ones, in the plan's order (SEMI E5, S5F7)
abbrev pub enabled_items : AlarmTable → List Item
enabled_items table = map entry_item (filter (λ e. e.1.is_enabled) table)

abbrev pub enabled_list_of : AlarmTable → Item
enabled_list_of table = item.L (enabled_items table)
