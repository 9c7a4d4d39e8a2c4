-- The remote commands and the terminals of the plan.
use Rattle.std.specs.Prelude.{◌≤◌, ℕ, Bool, List, length, map, bytes_eq}
use Rattle.std.specs.List.{IsDistinct}
use Rattle.gem_remote.specs.declared.plan.CommandPlan.{CommandPlan}
use Rattle.gem_remote.specs.declared.plan.ParamPlan.{ParamPlan}
use Rattle.gem_remote.specs.declared.plan.RemotePlan.{RemotePlan}

abbrev pub names_of : List CommandPlan → List (List ℕ)
names_of commands = map (λ command. command.name) commands

-- at most 256 commands (this profile), each with a name of its own (SEMI E5, RCMD)
pub record RemoteFits (plan : RemotePlan) : Type 0 where
  pub few : length plan.commands ≤ 256
  pub distinct : IsDistinct bytes_eq (names_of plan.commands)

-- the command, or the parameter, has this name
abbrev pub has_name : List ℕ → CommandPlan → Bool
has_name name command = bytes_eq name command.name

abbrev pub has_cpname : List ℕ → ParamPlan → Bool
has_cpname name param = bytes_eq name param.name
