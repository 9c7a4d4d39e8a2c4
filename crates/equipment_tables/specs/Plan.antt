-- What a plan may say.
use Rattle.std.specs.Prelude.{◌≡◌, ◌≢◌, ◌<◌, ◌≤◌, ◌⊎◌, ℕ, List, [], ◌∷◌, length, nat_eq, All}
use Rattle.std.specs.List.{IsDistinct}
use Rattle.equipment_tables.specs.declared.plan.EquipmentPlan.{EquipmentPlan}
use Rattle.equipment_tables.specs.declared.plan.Plans.{Plans}
use Rattle.gem_alarms.specs.Plan.{AlarmsFit}
use Rattle.gem_remote.specs.Plan.{RemoteFits}
use Rattle.gem_shapes.specs.declared.entries.RuleEntry.{RuleEntry}
use Rattle.gem_states.specs.declared.control.ControlState.{ControlState}
use Rattle.gem_states.specs.declared.control.ControlState.TheVariants.{Attempt}
use Rattle.gem_vars.specs.Plan.{VarsFit}
use Rattle.line_end.specs.Plan.{HostPlanFits, LinePlanFits}

abbrev pub IsAscii : ℕ → Type 0
IsAscii character = character < 128

-- MDLN and SOFTREV have at most 20 characters of ASCII (SEMI E5, MDLN, SOFTREV; the length is this profile's)
pub record IsShortText (text : List ℕ) : Type 0 where
  pub short : length text ≤ 20
  pub ascii : All IsAscii text

-- a start may be in any control state but ATTEMPT ON-LINE, which only a request brings (SEMI E30, control state model)
abbrev pub CanBegin : ControlState → Type 0
CanBegin state = state ≢ Attempt

-- one function of one stream
abbrev pub function_of : ℕ → ℕ → RuleEntry
function_of stream function = record { stream = stream; functions = function ∷ [] }

-- S5F1, S6F11 or S10F1 (this profile)
abbrev pub CanBeSpooled : RuleEntry → Type 0
CanBeSpooled entry = (entry ≡ function_of 5 1) ⊎ (entry ≡ function_of 6 11) ⊎ (entry ≡ function_of 10 1)

-- at most 1,024 events (this profile), each with a CEID of its own (SEMI E5, CEID)
pub record EventsFit (ceids : List ℕ) : Type 0 where
  pub few : length ceids ≤ 1024
  pub distinct : IsDistinct nat_eq ceids

pub record EquipmentPlanFits (plan : EquipmentPlan) : Type 0 where
  pub line : LinePlanFits plan.line
  pub mdln : IsShortText plan.mdln
  pub softrev : IsShortText plan.softrev
  pub control : CanBegin plan.control
  pub spooled : All CanBeSpooled plan.spooled
  pub vars : VarsFit plan.vars
  pub events : EventsFit plan.events
  pub alarms : AlarmsFit plan.alarms
  pub remote : RemoteFits plan.remote

-- both ends fit, and the spool has 1 to 1,024 slots (this profile)
pub record PlansFit (plans : Plans) : Type 0 where
  pub equipment : EquipmentPlanFits plans.equipment
  pub host : HostPlanFits plans.host
  pub slots_at_least : 1 ≤ plans.slots
  pub slots_at_most : plans.slots ≤ 1024
