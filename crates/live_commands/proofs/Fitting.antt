-- What a line asks for is within its ranges.
use Rattle.std.proofs.Common.{◌≡◌, ℕ, Bool, true, false, cond, nat_lt, bytes_eq, codes, List, ◌++◌, length, Option, Some, None, refl, sym, subst}
use Rattle.std.specs.Option.{option_map, option_or}
use Rattle.gl_base.specs.declared.side.Side.TheVariants as side
use Rattle.trace_log.specs.declared.commands.ToolCommand.{ToolCommand}
use Rattle.line_schedule.specs.declared.event.Event.TheVariants as event
use Rattle.line_schedule.specs.declared.script.ScriptStep.{ScriptStep}
use Rattle.line_schedule.specs.declared.script.ScriptStep.TheVariants as step
use Rattle.line_schedule.specs.Commands.{tool_command_in}
use Rattle.line_schedule.specs.Reading.{step_in}
use Rattle.line_schedule.proofs.CommandReaders.{tool_command}
use Rattle.line_schedule.proofs.Ranges.{event_fits}
use Rattle.live_commands.specs.declared.asks.Asks.{Asks}
use Rattle.live_commands.specs.declared.asks.Asks.TheVariants.{Nothing}
use Rattle.live_commands.specs.Commands.{AsksFits, asked_by, asked_by_step, line_limit}
use Rattle.live_commands.specs.Places.{command_goes}

-- a step that is a command was read as one
as_command : (read : Option ToolCommand) (is_stop : Bool) (command : ToolCommand)
    → option_or (option_map (λ c. step.Tool c) read) (cond is_stop (Some step.Stop) None) ≡ Some (step.Tool command)
    → read ≡ Some command
as_command (Some read) is_stop command h = cc
as_command None true command h = absurd cc
as_command None false command h = absurd cc

step_fits : (line : List ℕ) (at : ℕ) (read : Option ScriptStep) → step_in side.Equipment line ≡ read
    → AsksFits (asked_by_step read at)
step_fits line at None e = tt
step_fits line at (Some (step.Host command)) e = tt
step_fits line at (Some step.Stop) e = tt
step_fits line at (Some (step.Tool command)) e =
    let read = as_command (tool_command_in line) (bytes_eq line (codes "stop")) command e in
    event_fits (event.Tool command) (codes "tool " ++ line) (line, refl, tool_command.there command line read)

asked_fits : (line : List ℕ) → AsksFits (asked_by line)
asked_fits line = go (nat_lt line_limit (length line)) where
  go : (long : Bool)
      → AsksFits (cond long (Nothing line_limit) (asked_by_step (step_in side.Equipment line) (command_goes line)))
  go true = tt
  go false = step_fits line (command_goes line) (step_in side.Equipment line) refl

pub asks_fits : (asks : Asks) (line : List ℕ) → asks ≡ asked_by line → AsksFits asks
asks_fits asks line is = subst AsksFits (sym is) (asked_fits line)
