-- Which commands a row of bytes is (this profile).
use Rattle.std.specs.Prelude.{ℕ, nat_lt, List, [], ◌∷◌, length, Option, Some, None, if◌then◌else◌}
use Rattle.gl_base.specs.Faults.{one_more}
use Rattle.gl_base.specs.declared.side.Side.TheVariants as side
use Rattle.trace_log.specs.Commands.{ToolCommandFits}
use Rattle.line_schedule.specs.declared.script.ScriptStep.{ScriptStep}
use Rattle.line_schedule.specs.declared.script.ScriptStep.TheVariants as step
use Rattle.line_schedule.specs.Lines.{lines_of}
use Rattle.line_schedule.specs.Reading.{is_passed_over, step_in}
use Rattle.live_commands.specs.declared.asks.Asks.{Asks}
use Rattle.live_commands.specs.declared.asks.Asks.TheVariants.{Command, Nothing, Stop}
use Rattle.live_commands.specs.Places.{command_goes}

-- ---- one line

-- how long a line may be, in bytes, its LF not counted
abbrev pub line_limit : ℕ
line_limit = 1048576

-- what a script's line tells the equipment, its moment aside; a line of another end, or of none, asks for nothing
abbrev pub asked_by_step : Option ScriptStep → ℕ → Asks
asked_by_step None at = Nothing at
asked_by_step (Some (step.Tool command)) at = Command command
asked_by_step (Some (step.Host command)) at = Nothing at
asked_by_step (Some step.Stop) at = Stop

-- what a line asks for that isn't passed over
abbrev pub asked_by : List ℕ → Asks
asked_by line =
    if nat_lt line_limit (length line) then Nothing line_limit
    else asked_by_step (step_in side.Equipment line) (command_goes line)

-- a command is within its ranges
abbrev pub AsksFits : Asks → Type 0
AsksFits (Command command) = ToolCommandFits command
AsksFits Stop = Unit {0}
AsksFits (Nothing at) = Unit {0}

abbrev pub FitsIfAny : Option (ℕ × Asks) → Type 0
FitsIfAny None = Unit {0}
FitsIfAny (Some read) = AsksFits read.1

-- ---- all lines

-- with the number of its line, which counts from 1 the lines that aren't passed over, and stands at its end, 2^64 - 1
abbrev pub Numbered : Type 0
Numbered = ℕ × Asks

-- what lines ask for behind so many that counted
abbrev pub asked_from : ℕ → List (List ℕ) → List Numbered
asked_from number [] = []
asked_from number (line ∷ lines) =
    if is_passed_over line then asked_from number lines
    else (one_more number, asked_by line) ∷ asked_from (one_more number) lines

-- LF ends each line; the last one may lack it
abbrev pub commands_of : List ℕ → List Numbered
commands_of text = asked_from 0 (lines_of text)
