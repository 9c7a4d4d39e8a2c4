-- What the text of a script means, and why it means none (this profile).
use Rattle.std.specs.Prelude.{◌≡◌, ◌⊎◌, ℕ, ◌<◌, ◌≤◌, ◌^◌, ◌&&◌, nat_le, Bool, true, List, [], ◌∷◌, length, All}
use Rattle.gl_base.specs.declared.side.Side.{Side}
use Rattle.trace_log.specs.Commands.{HostCommandFits, ToolCommandFits}
use Rattle.line_schedule.specs.declared.script.Script.{Script}
use Rattle.line_schedule.specs.declared.script.ScriptStep.{ScriptStep}
use Rattle.line_schedule.specs.declared.script.ScriptStep.TheVariants as step
use Rattle.line_schedule.specs.Grammar.{IsPassedOver, IsScriptLine}
use Rattle.line_schedule.specs.Lines.{StopsAt, Tell, lines_of}

-- how many lines a script may have
abbrev pub most_script_lines : ℕ
most_script_lines = 65536

abbrev pub moment_of_line : ℕ × ScriptStep → ℕ
moment_of_line line = line.0

-- the line tells this for a moment that isn't below the one before
abbrev pub IsToldLine : Side → ℕ → ℕ × ScriptStep → List ℕ → Type 0
IsToldLine side least told line = IsScriptLine side told line × (least ≤ moment_of_line told)

-- the text is a script for this end, with these lines; those behind `stop` count like all others
pub record IsScript (side : Side) (text : List ℕ) (lines : List (ℕ × ScriptStep)) : Type 0 where
  pub tell : Tell (IsToldLine side) moment_of_line 0 (lines_of text) lines
  pub within : length (lines_of text) ≤ most_script_lines

-- the line is neither passed over nor tells what may stand behind this moment
abbrev pub TellsNoLine : Side → ℕ → List ℕ → Type 0
TellsNoLine side least line =
    (IsPassedOver line → ⊥) × ((told : ℕ × ScriptStep) → IsToldLine side least told line → ⊥)

-- the line of this number, counted from 1, is outside the grammar, or past the last that a script may have, and those
-- before it are passed over or tell what is to happen
abbrev pub OutsideScriptAt : Side → List ℕ → ℕ → Type 0
OutsideScriptAt side text number =
    StopsAt (IsToldLine side) moment_of_line most_script_lines text number
    (λ least line. (most_script_lines < number) ⊎ TellsNoLine side least line)

-- ---- ranges

abbrev pub StepFits : ScriptStep → Type 0
StepFits (step.Tool command) = ToolCommandFits command
StepFits (step.Host command) = HostCommandFits command
StepFits step.Stop = Unit {0}

-- a moment of 32 bits, and a command within its ranges
abbrev pub LineFits : ℕ × ScriptStep → Type 0
LineFits line = (line.0 < 2 ^ 32) × StepFits line.1

-- no moment is below the one before
abbrev pub are_in_order : ℕ → List (ℕ × ScriptStep) → Bool
are_in_order least [] = true
are_in_order least (line ∷ lines) = nat_le least line.0 && are_in_order line.0 lines

pub record ScriptFits (script : Script) : Type 0 where
  pub lines : All LineFits script.lines
  pub order : are_in_order 0 script.lines ≡ true
  pub number : length script.lines ≤ most_script_lines
