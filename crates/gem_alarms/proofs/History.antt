-- The table of alarms after one entry more.
use Rattle.std.proofs.Common.{◌≡◌, refl, ◌∙◌, ap, Bool, ℕ, List, [], ◌∷◌, Option, Some, None, nat_eq}
use Rattle.std.specs.List.{IsDistinct}
use Rattle.std.specs.Option.{option_map, option_map_or}
use Rattle.gem_tables.proofs.Looking.{changed, looked_up}
use Rattle.gem_alarms.specs.declared.alarm.Alarm.{Alarm}
use Rattle.gem_alarms.specs.declared.alarms.AlarmStep.TheVariants as step
use Rattle.gem_alarms.specs.declared.plan.AlarmPlan.{AlarmPlan}
use Rattle.gem_alarms.specs.Alarms.{alarm_in, all_enabled, step_for, step_of, with_enabled, with_set}
use Rattle.gem_alarms.specs.History.{AlarmEntry, alarm_after, alarms_at, planned_at, step_at}
use Rattle.gem_alarms.specs.History.AlarmEntry.{Change, Enable}
use Rattle.gem_alarms.specs.Laws.{after_entry}
use Rattle.gem_alarms.specs.Plan.{alids_of}

abbrev alid_of : AlarmPlan → ℕ
alid_of planned = planned.alid

-- one that enables all or none
all-changed :
    (past : List AlarmEntry) (on : Bool) (plan : List AlarmPlan)
    → all_enabled on (alarms_at plan past) ≡ alarms_at plan (Enable None on ∷ past)
all-changed past on [] = refl
all-changed past on (p ∷ plan) =
    ap (λ t. (p.alid, alarm_after (Enable None on ∷ past) p) ∷ t) (all-changed past on plan)

pub entry_after :
    (plan : List AlarmPlan) (past : List AlarmEntry) (entry : AlarmEntry) → IsDistinct nat_eq (alids_of plan)
    → after_entry (alarms_at plan past) entry ≡ alarms_at plan (entry ∷ past)
entry_after plan past (Change alid is_set) distinct =
    changed alid_of (alarm_after past) (alarm_after (Change alid is_set ∷ past)) alid (with_set is_set)
    (λ p same. rw same refl) (λ p other. rw other refl) plan distinct
entry_after plan past (Enable (Some alid) on) distinct =
    changed alid_of (alarm_after past) (alarm_after (Enable (Some alid) on ∷ past)) alid (with_enabled on)
    (λ p same. rw same refl) (λ p other. rw other refl) plan distinct
entry_after plan past (Enable None on) distinct = all-changed past on plan

-- what the table has at an ALID is of the planned alarm
pub alarm_looked_up :
    (plan : List AlarmPlan) (past : List AlarmEntry) (alid : ℕ)
    → alarm_in (alarms_at plan past) alid ≡ option_map (alarm_after past) (planned_at plan alid)
alarm_looked_up plan past alid = looked_up alid_of (alarm_after past) plan alid

-- what a command does to the alarm of the table is what it does to the planned one
stepped :
    (past : List AlarmEntry) (is_set : Bool) (o : Option AlarmPlan)
    → option_map_or (step_for is_set) (option_map (alarm_after past) o) step.Unknown
    ≡ option_map_or (step_at past is_set) o step.Unknown
stepped past is_set None = refl
stepped past is_set (Some p) = refl

pub step_looked_up :
    (plan : List AlarmPlan) (past : List AlarmEntry) (alid : ℕ) (is_set : Bool)
    → step_of (alarms_at plan past) alid is_set ≡ option_map_or (step_at past is_set) (planned_at plan alid) step.Unknown
step_looked_up plan past alid is_set =
    ap (λ (o : Option Alarm). option_map_or (step_for is_set) o step.Unknown) (alarm_looked_up plan past alid)
    ∙ stepped past is_set (planned_at plan alid)
