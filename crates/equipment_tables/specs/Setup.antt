-- What the primaries that are kept tell of the tables: the same as all that were accepted.
use Rattle.std.specs.Prelude.{◌≡◌, ◌==◌, ℕ, Bool, true, false, List, [], ◌∷◌, ◌++◌, fold, if◌then◌else◌}
use Rattle.std.specs.Option.{option_map_or}
use Rattle.message_flow.specs.declared.message.Message.{Message}
use Rattle.trace_log.specs.Log.{Past}
use Rattle.trace_log.specs.Log.Past.{Asked, Commanded}
use Rattle.gem_alarms.specs.Alarms.{ackc5_of}
use Rattle.gem_reports.specs.Reporting.{Reporting, drack_in, erack_in, lrack_in}
use Rattle.gem_shapes.specs.declared.request.TablesRequest.{TablesRequest}
use Rattle.gem_tables.specs.Rows.{with_each}
use Rattle.gem_vars.specs.declared.constant.Constant.{Constant}
use Rattle.gem_vars.specs.Settings.{eac_of}
use Rattle.setup_store.specs.declared.change.Change.{Change}
use Rattle.setup_store.specs.declared.change.Change.TheVariants as change
use Rattle.setup_store.specs.Entries.{Entry}
use Rattle.setup_store.specs.Kept.{change_by, change_of, kept}
use Rattle.spool_rule.specs.declared.rule.RuleAnswer.{RuleAnswer}
use Rattle.spool_rule.specs.declared.rule.RuleAnswer.TheVariants.{Rejected, Replaced}
use Rattle.spool_rule.specs.declared.rule.SpoolRule.{SpoolRule}
use Rattle.spool_rule.specs.Rule.{answer_of as rule_answer}
use Rattle.equipment_tables.specs.declared.plan.EquipmentPlan.{EquipmentPlan}
use Rattle.equipment_tables.specs.Answers.{ackc5_code, drack_code, eac_code, erack_code, lrack_code}
use Rattle.equipment_tables.specs.Past.{tables_at}
use Rattle.equipment_tables.specs.Tables.{TablesState, value_of}

-- ---- what is accepted

abbrev pub is_replaced : RuleAnswer → Bool
is_replaced Replaced = true
is_replaced (Rejected faults) = false

-- a change of the setup isn't refused: its code is 0 (SEMI E5, EAC, DRACK, LRACK, ERACK, RSPACK, ACKC5)
abbrev pub accepts : TablesState → Change → Bool
accepts t (change.Constants list) = eac_code (eac_of t.vars list) == 0
accepts t (change.Definitions list) = drack_code (drack_in (value_of t) t.reports list) == 0
accepts t (change.Linkings list) = lrack_code (lrack_in t.reports list) == 0
accepts t (change.Events on ceids) = erack_code (erack_in t.reports ceids) == 0
accepts t (change.Rule list) = is_replaced (rule_answer list)
accepts t (change.Alarms on alid) = ackc5_code (ackc5_of t.alarms alid) == 0

-- a request changes the setup, and isn't refused
abbrev pub accepts_request : TablesState → TablesRequest → Bool
accepts_request t asked = option_map_or (accepts t) (change_of asked) false

abbrev pub accepts_primary : TablesState → Entry → Bool
accepts_primary t primary = option_map_or (accepts t) (change_by primary) false

-- ---- what is kept

-- a message as it is kept
abbrev pub primary_of : Message → Entry
primary_of m = record { stream = m.stream; function = m.function; body = m.body }

-- an entry that a start carries out, as if the host had just sent it
abbrev pub asked_of : Entry → Past
asked_of entry = Asked (record {
  stream = entry.stream;
  function = entry.function;
  wait = false;
  system = 0;
  body = entry.body;
})

-- the history of a start that has found this list; the newest stands first
abbrev pub carried_out : List Entry → List Past
carried_out list = fold (λ past entry. asked_of entry ∷ past) [] list

-- Parameters: what is kept after one more accepted primary; the list that a start has found; its history behind that.
abbrev pub kept_behind : (List Entry → Entry → List Entry) → EquipmentPlan → List Entry → List Past → List Entry
kept_behind keep plan found [] = found
kept_behind keep plan found (Commanded command ∷ past) = kept_behind keep plan found past
kept_behind keep plan found (Asked m ∷ past) =
    if accepts_primary (tables_at plan (past ++ carried_out found)) (primary_of m)
    then keep (kept_behind keep plan found past) (primary_of m)
    else kept_behind keep plan found past

-- ---- what that tells

-- the constants, the events with their links and enables, the reports, which alarms are enabled, and the rule of
-- spooling: all of the tables but the variables' values and whether alarms are set
pub record SetupState : Type 0 where
  pub constants : List (ℕ × Constant)
  pub reports : Reporting
  pub alarms : List (ℕ × Bool)
  pub rule : SpoolRule

abbrev pub setup_of : TablesState → SetupState
setup_of t = record {
  constants = t.vars.constants;
  reports = t.reports;
  alarms = with_each (λ alid alarm. alarm.is_enabled) t.alarms;
  rule = t.rule;
}

-- a start that carries out what was kept has the setup that the start before it had in the end
abbrev pub TellsTheSame : (List Entry → Entry → List Entry) → Type 0
TellsTheSame keep =
    (plan : EquipmentPlan) (found : List Entry) (past : List Past)
    → setup_of (tables_at plan (carried_out (kept_behind keep plan found past)))
    ≡ setup_of (tables_at plan (past ++ carried_out found))

abbrev pub KeptTellsTheSame : Type 0
KeptTellsTheSame = TellsTheSame kept
