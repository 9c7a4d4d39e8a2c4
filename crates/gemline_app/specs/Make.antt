-- What `make` carries out and writes (this profile).
use Rattle.std.specs.Prelude.{◌≡◌, ◌⊎◌, ℕ, true, List, [], ◌∷◌, codes}
use Rattle.end_pair.specs.declared.answers.RunEnd.{RunEnd}
use Rattle.equipment_tables.specs.declared.plan.EquipmentPlan.{EquipmentPlan}
use Rattle.equipment_tables.specs.declared.plan.Plans.{Plans}
use Rattle.equipment_tables.specs.Plan.{function_of}
use Rattle.gem_shapes.specs.declared.entries.RuleEntry.{RuleEntry}
use Rattle.gem_states.specs.declared.control.ControlState.TheVariants.{Remote}
use Rattle.gem_vars.specs.declared.plan.VariablePlan.{VariablePlan}
use Rattle.gem_vars.specs.declared.plan.VarsPlan.{VarsPlan}
use Rattle.gl_base.specs.Told.{SinkTold}
use Rattle.line_end.specs.declared.plan.LinePlan.{LinePlan}
use Rattle.line_end.specs.declared.plan.Times.{Times}
use Rattle.line_world.specs.Making.{MakesRounds}
use Rattle.secs_items.specs.declared.item.Item.{Item}
use Rattle.secs_items.specs.declared.item.Item.TheVariants as item
use Rattle.gemline_app.specs.Replay.{outcome_of_end}
use Rattle.gemline_app.specs.Written.{IsUntouched}
use Rattle.gemline_app.specs.declared.outcome.Outcome.{Outcome}
use Rattle.gemline_app.specs.declared.outcome.Outcome.TheVariants.{NoMemory}

-- ---- the plans: those of a file that says of variable 1 and event 1 alone, so each key has its default

abbrev pub made_times : Times
made_times = record { t1 = 500; t2 = 10000; rty = 3 }

abbrev pub made_line : LinePlan
made_line = record { device = 0; times = made_times; t3 = 45000; t4 = 45000; max_body = 1048576 }

-- S5F1, S6F11 and S10F1
abbrev pub made_spooled : List RuleEntry
made_spooled = function_of 5 1 ∷ function_of 6 11 ∷ function_of 10 1 ∷ []

abbrev pub made_value : Item
made_value = item.U4 (0 ∷ [])

abbrev pub made_variable : VariablePlan
made_variable = record { vid = 1; name = []; units = []; value = made_value }

-- the built-in constants: EstablishCommunicationsTimeout, EnableSpool, OverWriteSpool and MaxSpoolTransmit
abbrev pub made_vars : VarsPlan
made_vars = record { variables = made_variable ∷ []; constants = []; built_in = 10 ∷ 1 ∷ 1 ∷ 0 ∷ [] }

abbrev pub made_equipment : EquipmentPlan
made_equipment = record {
  line = made_line;
  mdln = codes "GEMLINE";
  softrev = codes "1";
  enable = true;
  control = Remote;
  spooled = made_spooled;
  vars = made_vars;
  events = 1 ∷ [];
  alarms = [];
  remote = record { commands = []; terminals = 1 };
}

abbrev pub made_plans : Plans
made_plans = record { equipment = made_equipment; host = record { line = made_line; enable = true }; slots = 16 }

-- ---- the run

-- so many rounds were carried out over plans, and the summary of their trace was written, or a part of it, or nothing,
-- where they weren't carried out whole
pub record WereMade (plans : Plans) (rounds : ℕ) (out : SinkTold) (outcome : Outcome) : Type 0 where
  pub ended : RunEnd
  pub outcome_is : outcome ≡ outcome_of_end ended
  pub made : MakesRounds out plans rounds ended

-- what `make` came to
abbrev pub MakeComes : ℕ → SinkTold → Outcome → Type 0
MakeComes rounds out outcome = ((outcome ≡ NoMemory) × IsUntouched out) ⊎ WereMade made_plans rounds out outcome
