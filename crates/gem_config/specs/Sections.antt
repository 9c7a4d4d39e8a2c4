-- The sections of a plan file that are tables, and the elements of those that are arrays, key by key (this profile).
use Rattle.std.specs.Prelude.{◌-◌, ◌^◌, ℕ, Bool, true, false, List, [], codes, Ok, if◌then◌else◌}
use Rattle.std.specs.List.{list_any}
use Rattle.gem_alarms.specs.declared.plan.AlarmPlan.{AlarmPlan}
use Rattle.gem_remote.specs.declared.plan.CommandPlan.{CommandPlan}
use Rattle.gem_remote.specs.declared.plan.ParamPlan.{ParamPlan}
use Rattle.gem_remote.specs.Plan.{has_name}
use Rattle.gem_states.specs.declared.control.ControlState.TheVariants as control
use Rattle.gem_vars.specs.declared.plan.ConstantPlan.{ConstantPlan}
use Rattle.gem_vars.specs.declared.plan.VariablePlan.{VariablePlan}
use Rattle.line_end.specs.declared.plan.LinePlan.{LinePlan}
use Rattle.line_end.specs.declared.plan.Times.{Times}
use Rattle.toml.specs.Data.{as_table}
use Rattle.gem_config.specs.declared.fault.ConfigWhat.TheVariants.{Repeated}
use Rattle.gem_config.specs.declared.sections.Constants.{Constants}
use Rattle.gem_config.specs.declared.sections.Identity.{Identity}
use Rattle.gem_config.specs.declared.sections.ToolSection.{ToolSection}
use Rattle.gem_config.specs.Reading.{Read, SectionView, at, key_of, refused, within, ◌>>=◌}
use Rattle.gem_config.specs.Values.{Rule, flag, item_text, list, needed, number, of_kind, optional, short_text, text, value_text, word}
use Rattle.gem_config.specs.Words.{all_spooled, control_named, kind_named, spooled_named}

-- the greatest number of four bytes
abbrev pub greatest : ℕ
greatest = 2 ^ 32 - 1

-- ---- tables

unfoldable pub line_of : SectionView → Read LinePlan
line_of line = do
  device ← optional 0 (number 0 32767) (at line (codes "device"))
  t1 ← optional 500 (number 100 10000) (at line (codes "t1"))
  t2 ← optional 10000 (number 200 25000) (at line (codes "t2"))
  t3 ← optional 45000 (number 1000 120000) (at line (codes "t3"))
  t4 ← optional 45000 (number 1000 120000) (at line (codes "t4"))
  rty ← optional 3 (number 0 31) (at line (codes "rty"))
  max_body ← optional 1048576 (number 244 7995148) (at line (codes "max_body"))
  let times : Times = record { t1 = t1; t2 = t2; rty = rty }
  Ok (record { device = device; times = times; t3 = t3; t4 = t4; max_body = max_body })

-- 1 for true, as a constant has it
abbrev pub worth : Bool → ℕ
worth true = 1
worth false = 0

unfoldable pub identity_of : SectionView → Read Identity
identity_of tool = do
  mdln ← optional (codes "GEMLINE") (short_text 20) (at tool (codes "mdln"))
  softrev ← optional (codes "1") (short_text 20) (at tool (codes "softrev"))
  enable ← optional true flag (at tool (codes "enable"))
  control ← optional control.Remote (word control_named) (at tool (codes "control"))
  Ok (record { mdln = mdln; softrev = softrev; enable = enable; control = control })

unfoldable pub constants_of : SectionView → Read Constants
constants_of tool = do
  slots ← optional 16 (number 1 1024) (at tool (codes "slots"))
  enable_spool ← optional true flag (at tool (codes "enable_spool"))
  overwrite ← optional true flag (at tool (codes "overwrite"))
  max_transmit ← optional 0 (number 0 greatest) (at tool (codes "max_transmit"))
  delay ← optional 10 (number 1 120) (at tool (codes "delay"))
  Ok
      (record {
        slots = slots;
        delay = delay;
        enable_spool = enable_spool;
        overwrite = overwrite;
        max_transmit = max_transmit;
      })

-- the keys of the section in their order
unfoldable pub tool_of : SectionView → Read ToolSection
tool_of tool = do
  identity ← identity_of tool
  constants ← constants_of tool
  spooled ← optional all_spooled (list (word spooled_named)) (at tool (codes "spooled"))
  terminals ← optional 1 (number 0 255) (at tool (codes "terminals"))
  Ok (record { identity = identity; constants = constants; spooled = spooled; terminals = terminals })

abbrev pub host_enable_of : SectionView → Read Bool
host_enable_of host = optional true flag (at host (codes "enable"))

-- ---- elements, each behind its identifier

unfoldable pub variable_of : ℕ → SectionView → Read VariablePlan
variable_of vid variable = do
  name ← optional [] text (at variable (codes "name"))
  units ← optional [] text (at variable (codes "units"))
  value ← needed value_text (at variable (codes "value"))
  Ok (record { vid = vid; name = name; units = units; value = value })

unfoldable pub constant_of : ℕ → SectionView → Read ConstantPlan
constant_of ecid constant = do
  name ← optional [] text (at constant (codes "name"))
  units ← optional [] text (at constant (codes "units"))
  min ← optional 0 (number 0 greatest) (at constant (codes "min"))
  max ← optional greatest (number 0 greatest) (at constant (codes "max"))
  value ← needed (number min max) (at constant (codes "value"))
  Ok (record { ecid = ecid; name = name; units = units; min = min; max = max; value = value })

-- an event's name is read, and not kept
unfoldable pub event_of : ℕ → SectionView → Read ℕ
event_of ceid event = do
  name ← optional [] text (at event (codes "name"))
  Ok ceid

unfoldable pub alarm_of : ℕ → SectionView → Read AlarmPlan
alarm_of alid alarm = do
  category ← optional 0 (number 0 127) (at alarm (codes "category"))
  words ← optional [] (short_text 40) (at alarm (codes "text"))
  enabled ← optional true flag (at alarm (codes "enabled"))
  Ok (record { alid = alid; category = category; text = words; enabled = enabled })

-- ---- commands

-- a parameter; what is refused in it is refused at the key of all parameters
unfoldable pub param : Rule ParamPlan
param key d = do
  members ← of_kind key (as_table d)
  name ← needed text (within key members (codes "name"))
  kind ← needed (word kind_named) (within key members (codes "kind"))
  values ← optional [] (list item_text) (within key members (codes "values"))
  Ok (record { name = name; kind = kind; values = values })

-- no command before it has its name
abbrev pub own_name : List CommandPlan → List ℕ → List ℕ → Read (List ℕ)
own_name before key name = if list_any (has_name name) before then refused key Repeated else Ok name

unfoldable pub command_of : List CommandPlan → SectionView → Read CommandPlan
command_of before command = do
  said ← needed text (at command (codes "name"))
  name ← own_name before (key_of command.name (codes "name")) said
  later ← optional false flag (at command (codes "later"))
  params ← optional [] (list param) (at command (codes "params"))
  Ok (record { name = name; later = later; params = params })
