-- An alarm that isn't known, or is in that state already, leaves the tables as they are.
use Rattle.std.proofs.Common.{◌≡◌, refl, sym, ap, ◌∙◌, ℕ, Bool, true, false, List, [], ◌∷◌, ◌++◌, Option, Some, None, if◌then◌else◌}
use Rattle.std.specs.Prelude.{nat_eq}
use Rattle.std.specs.Bool.{beq}
use Rattle.std.specs.Option.{option_map_or}
use Rattle.std.specs.Map.{set_value}
use Rattle.std.proofs.lemmas.Map.Steps.{set_value_same}
use Rattle.gem_alarms.specs.declared.alarm.Alarm.{Alarm}
use Rattle.gem_alarms.specs.declared.alarms.AlarmStep.{AlarmStep}
use Rattle.gem_alarms.specs.declared.alarms.AlarmStep.TheVariants.{Changed, Same, Unknown}
use Rattle.gem_alarms.specs.Alarms.{AlarmTable, alarm_in, step_for, step_of, with_set}
use Rattle.gem_tables.specs.Rows.{with_row}
use Rattle.message_flow.specs.declared.step.Note.{Note}
use Rattle.message_flow.specs.declared.step.StepOut.{StepOut}
use Rattle.trace_log.specs.Log.{Happening}
use Rattle.trace_log.specs.Text.{note_of, printed_note}
use Rattle.message_end.specs.Core.Went.{Goes}
use Rattle.message_end.specs.Parts.{after_turn, on_the_way}
use Rattle.tool_step.specs.Own.{with_tables}
use Rattle.tool_step.specs.Tool.{alarm_turn}
use Rattle.tool_core.proofs.Turned.{HasTaken, ToolNode}
use Rattle.equipment_tables.specs.Tables.{TablesState, alarm_after, with_alarms}

-- in that state already it is as it would be
as_it_was : (alarm : Alarm) (is_set : Bool) → step_for is_set alarm ≡ Same → with_set is_set alarm ≡ alarm
as_it_was alarm is_set same = ap (λ (b : Bool). record alarm { is_set = b }) (sym (go alarm.is_set is_set same))
  where
    go : (was is : Bool) → (if beq was is then Same else Changed alarm.is_enabled) ≡ Same → was ≡ is
    go true true e = refl
    go false false e = refl
    go true false e = absurd (cc)
    go false true e = absurd (cc)

row_same :
    (alid : ℕ) (is_set : Bool) (table : AlarmTable) → step_of table alid is_set ≡ Same
    → with_row alid (with_set is_set) table ≡ table
row_same alid is_set table same = go (alarm_in table alid) refl same
  where
    go : (found : Option Alarm) → alarm_in table alid ≡ found → option_map_or (step_for is_set) found Unknown ≡ Same
        → option_map_or (λ alarm. set_value (nat_eq alid) table (with_set is_set alarm)) found table ≡ table
    go None is e = refl
    go (Some alarm) is e =
        ap (λ (a : Alarm). set_value (nat_eq alid) table a) (as_it_was alarm is_set e)
        ∙ set_value_same (nat_eq alid) table alarm is

row_unknown :
    (alid : ℕ) (is_set : Bool) (table : AlarmTable) → step_of table alid is_set ≡ Unknown
    → with_row alid (with_set is_set) table ≡ table
row_unknown alid is_set table unknown = go (alarm_in table alid) refl unknown
  where
    other : (same : Bool) (alarm : Alarm) → (if same then Same else Changed alarm.is_enabled) ≡ Unknown → ⊥
    other true alarm e = absurd (cc)
    other false alarm e = absurd (cc)

    go : (found : Option Alarm) → alarm_in table alid ≡ found → option_map_or (step_for is_set) found Unknown ≡ Unknown
        → option_map_or (λ alarm. set_value (nat_eq alid) table (with_set is_set alarm)) found table ≡ table
    go None is e = refl
    go (Some alarm) is e = absurd (other (beq alarm.is_set is_set) alarm e)

pub unchanged_same :
    (alid : ℕ) (is_set : Bool) (t : TablesState) → step_of t.alarms alid is_set ≡ Same → alarm_after alid is_set t ≡ t
unchanged_same alid is_set t same =
    ap (λ (alarms : AlarmTable). with_alarms alarms t) (row_same alid is_set t.alarms same)

pub unchanged_unknown :
    (alid : ℕ) (is_set : Bool) (t : TablesState) → step_of t.alarms alid is_set ≡ Unknown
    → alarm_after alid is_set t ≡ t
unchanged_unknown alid is_set t unknown =
    ap (λ (alarms : AlarmTable). with_alarms alarms t) (row_unknown alid is_set t.alarms unknown)

-- an alarm that is in that state already is noted
pub same_so :
    (alid : ℕ) (is_set : Bool) (s : ToolNode) (tables : TablesState) (out : StepOut) (notes : List Note)
    → step_of s.own.tables.alarms alid is_set ≡ Same → tables ≡ alarm_after alid is_set s.own.tables
    → notes ≡ out.notes ++ note_of (Happening.Alarm alid is_set) ∷ []
    → HasTaken (alarm_turn (step_of s.own.tables.alarms alid is_set) alid is_set s.own s.core) s out
    (record { own = with_tables tables s.own; core = s.core }) (record { line = out.line; notes = notes })
same_so alid is_set s tables out notes same stands noted =
    ap (λ (step : AlarmStep). after_turn printed_note (alarm_turn step alid is_set s.own s.core) (on_the_way s out))
    same
    ∙ ap (λ (t : TablesState). Goes (on_the_way (record { own = with_tables t s.own; core = s.core })
    (record { line = out.line; notes = out.notes ++ note_of (Happening.Alarm alid is_set) ∷ [] })))
    (sym (stands ∙ unchanged_same alid is_set s.own.tables same))
    ∙ ap (λ (ns : List Note). Goes (on_the_way (record { own = with_tables tables s.own; core = s.core })
    (record { line = out.line; notes = ns })))
    (sym noted)
