-- When a step that is asked for leaves a run no turn (this profile).
use Rattle.std.specs.Prelude.{◌≡◌, ◌↔◌, ◌⊎◌}
use Rattle.gl_base.specs.declared.side.Side.TheVariants.{Equipment, Host}
use Rattle.message_end.specs.Ends.{Input, Machine}
use Rattle.trace_log.specs.declared.commands.HostCommand.{HostCommand}
use Rattle.trace_log.specs.declared.commands.ToolCommand.{ToolCommand}
use Rattle.end_pair.specs.declared.answers.WorldStep.TheVariants.{Turns}
use Rattle.end_pair.specs.Laws.{LacksRoom}
use Rattle.end_pair.specs.World.{World, equipment_stepped, host_stepped, most_steps}

-- a step is asked for behind the last one that a run makes
abbrev pub IsBehindLast : {E H : Type 0} → World E H → Type 0
IsBehindLast world = world.steps ≡ most_steps

-- in a step the disk of an end has no room for a call or for its bytes, and no cut has the power go there or before
abbrev pub FindsNoRoom : {E H : Type 0} → Machine E ToolCommand → World E H → Input ToolCommand → Type 0
FindsNoRoom e world input = LacksRoom e Equipment world.moment world.reach input world.equipment world.ways

abbrev pub HostFindsNoRoom : {E H : Type 0} → Machine H HostCommand → World E H → Input HostCommand → Type 0
HostFindsNoRoom h world input = LacksRoom h Host world.moment world.host_reach input world.host world.ways

-- there is no turn left exactly for one of these, whichever end is to make the step
pub record TurnsByCause {E H : Type 0} (e : Machine E ToolCommand) (h : Machine H HostCommand) (world : World E H)
    : Type 0 where
  pub equipment :
      (input : Input ToolCommand)
      → ((equipment_stepped e h input world).went ≡ Turns ↔ (IsBehindLast world ⊎ FindsNoRoom e world input))
  pub host :
      (input : Input HostCommand)
      → ((host_stepped e h input world).went ≡ Turns ↔ (IsBehindLast world ⊎ HostFindsNoRoom h world input))

-- in every world, so at each step that a run asks for; no more is asked for then
abbrev pub TurnsEndByCause : Type 0 → Type 0 → Type 0
TurnsEndByCause E H =
    (e : Machine E ToolCommand) (h : Machine H HostCommand) (world : World E H) → TurnsByCause e h world
