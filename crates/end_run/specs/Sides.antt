-- What the lines of a script tell each of the two ends (this profile).
use Rattle.std.specs.Prelude.{[]}
use Rattle.line_schedule.specs.declared.script.ScriptStep.{ScriptStep}
use Rattle.line_schedule.specs.declared.script.ScriptStep.TheVariants as step
use Rattle.trace_log.specs.declared.commands.HostCommand.{HostCommand}
use Rattle.trace_log.specs.declared.commands.ToolCommand.{ToolCommand}
use Rattle.end_run.specs.Commands.{Telling}
use Rattle.end_run.specs.Commands.Telling.{IsOther, Stops, Tells}

abbrev pub told_host : ScriptStep → Telling HostCommand
told_host (step.Tool command) = IsOther
told_host (step.Host command) = Tells command []
told_host step.Stop = Stops

abbrev pub told_equipment : ScriptStep → Telling ToolCommand
told_equipment (step.Tool command) = Tells command []
told_equipment (step.Host command) = IsOther
told_equipment step.Stop = Stops
