-- What a plan file means: the plans of both ends, or the first refusal (this profile).
use Rattle.std.specs.Prelude.{◌≡◌, ◌⊎◌, ℕ, Bool, List, [], ◌∷◌, codes, IsUtf8, IfErr, IfOk, ◌≢◌, Option, Some, None, Result, Ok, Err}
use Rattle.equipment_tables.specs.declared.plan.EquipmentPlan.{EquipmentPlan}
use Rattle.equipment_tables.specs.declared.plan.Plans.{Plans}
use Rattle.equipment_tables.specs.Plan.{PlansFit}
use Rattle.line_end.specs.declared.plan.LinePlan.{LinePlan}
use Rattle.toml.specs.Data.{Members}
use Rattle.toml.specs.Parse.{parse_document}
use Rattle.gem_config.specs.declared.fault.ConfigFault.{ConfigFault}
use Rattle.gem_config.specs.declared.fault.ConfigFault.TheVariants as fault
use Rattle.gem_config.specs.declared.fault.ConfigWhat.TheVariants.{Syntax, Unknown}
use Rattle.gem_config.specs.declared.plans.Tables.{Tables}
use Rattle.gem_config.specs.declared.sections.Constants.{Constants}
use Rattle.gem_config.specs.declared.sections.ToolSection.{ToolSection}
use Rattle.gem_config.specs.Others.{least_of, other_keys}
use Rattle.gem_config.specs.Reading.{Gives, Read, refused, ◌>>=◌}
use Rattle.gem_config.specs.Rows.{commands_in, rows_in, section}
use Rattle.gem_config.specs.Sections.{alarm_of, constant_of, event_of, host_enable_of, line_of, tool_of, variable_of, worth}

-- each section that is an array, with how many elements it may have
unfoldable pub tables_of : Members → Read Tables
tables_of document = do
  variables ← rows_in variable_of (codes "variable") (codes "vid") 0 1024 document
  constants ← rows_in constant_of (codes "constant") (codes "ecid") 100 256 document
  events ← rows_in event_of (codes "event") (codes "ceid") 0 1024 document
  alarms ← rows_in alarm_of (codes "alarm") (codes "alid") 0 1024 document
  commands ← commands_in (codes "command") 256 document
  Ok (record { variables = variables; constants = constants; events = events; alarms = alarms; commands = commands })

-- the constants that every equipment has, by their ECIDs from 1
abbrev pub built_in_of : Constants → List ℕ
built_in_of constants =
    constants.delay ∷ worth constants.enable_spool ∷ worth constants.overwrite ∷ constants.max_transmit ∷ []

-- the equipment, on its line
abbrev pub equipment_of : LinePlan → ToolSection → Tables → EquipmentPlan
equipment_of line tool tables =
    record {
      line = line;
      mdln = tool.identity.mdln;
      softrev = tool.identity.softrev;
      enable = tool.identity.enable;
      control = tool.identity.control;
      spooled = tool.spooled;
      vars = record {
        variables = tables.variables;
        constants = tables.constants;
        built_in = built_in_of tool.constants;
      };
      events = tables.events;
      alarms = tables.alarms;
      remote = record { commands = tables.commands; terminals = tool.terminals };
    }

-- one line for both ends
abbrev pub plans_from : LinePlan → ToolSection → Tables → Bool → Plans
plans_from line tool tables enable =
    record {
      equipment = equipment_of line tool tables;
      host = record { line = line; enable = enable };
      slots = tool.constants.slots;
    }

-- a key that has no meaning is refused last
abbrev pub unless_other : {A : Type 0} → Option (List ℕ) → A → Read A
unless_other None x = Ok x
unless_other (Some key) x = refused key Unknown

abbrev pub line_in : Members → Read LinePlan
line_in document = section (codes "line") document >>= line_of

abbrev pub tool_in : Members → Read ToolSection
tool_in document = section (codes "equipment") document >>= tool_of

abbrev pub host_enable_in : Members → Read Bool
host_enable_in document = section (codes "host") document >>= host_enable_of

unfoldable pub plans_of : Members → Read Plans
plans_of document = do
  line ← line_in document
  tool ← tool_in document
  tables ← tables_of document
  enable ← host_enable_in document
  unless_other (least_of None (other_keys document)) (plans_from line tool tables enable)

-- the bytes are UTF-8, and TOML of this document
pub record IsDocument (text : List ℕ) (document : Members) : Type 0 where
  pub utf8 : IsUtf8 text
  pub parsed : parse_document text ≡ Some document

-- What a plan file means: what its document is read as, and a refusal without a key where it has none.
abbrev pub Means : List ℕ → Read Plans → Type 0
Means text read =
    ((document : Members) × IsDocument text document × (plans_of document ≡ read))
    ⊎ (((document : Members) → IsDocument text document → ⊥) × (refused [] Syntax ≡ read))

-- What was returned is what the file means, and it fits; a refusal is the file's first, unless memory ran out.
pub record IsReadAs (text : List ℕ) (result : Result Plans ConfigFault) : Type 0 where
  pub found : IfOk result (λ plans. Means text (Ok plans))
  pub fits : IfOk result PlansFit
  pub refuses : IfErr result (λ e. e ≢ fault.NoMemory → Means text (Err e))
  pub only : (read : Read Plans) → Means text read → Gives result read
