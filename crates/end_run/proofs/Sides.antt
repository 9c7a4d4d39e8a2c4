-- What the lines of a script tell an end is what it takes.
use Rattle.std.proofs.Common.{ℕ, List, [], ◌∷◌, All, refl, subst, inl, inr}
use Rattle.std.proofs.lemmas.List.Elements.{All-cons, All-head, All-nil, All-same, All-tail}
use Rattle.gl_base.specs.declared.side.Side.{Side}
use Rattle.gl_base.specs.declared.side.Side.TheVariants as side
use Rattle.line_schedule.specs.Grammar.{IsScriptLine}
use Rattle.line_schedule.specs.Lines.{Tell}
use Rattle.line_schedule.specs.Script.{IsToldLine, LineFits, moment_of_line}
use Rattle.line_schedule.specs.declared.script.ScriptStep.{ScriptStep}
use Rattle.line_schedule.specs.declared.script.ScriptStep.TheVariants as step
use Rattle.trace_log.specs.Commands.{HostCommandFits, ToolCommandFits}
use Rattle.end_run.specs.Commands.{MayTell, Telling}
use Rattle.end_run.specs.Script.{AreTold, ScriptLine}
use Rattle.end_run.specs.Sides.{told_equipment, told_host}

-- a line of the host within its ranges tells it a command that it takes, or to stop
told_line : (line : ScriptLine) (text : List ℕ) → IsScriptLine side.Host line text → LineFits line
    → MayTell HostCommandFits (told_host line.1)
told_line (moment, step.Tool command) text spaced fits = spaced.4
told_line (moment, step.Host command) text spaced fits = (fits.1, refl)
told_line (moment, step.Stop) text spaced fits = tt

-- so does one of the equipment
told_tool_line : (line : ScriptLine) (text : List ℕ) → IsScriptLine side.Equipment line text → LineFits line
    → MayTell ToolCommandFits (told_equipment line.1)
told_tool_line (moment, step.Tool command) text spaced fits = (fits.1, refl)
told_tool_line (moment, step.Host command) text spaced fits = spaced.4
told_tool_line (moment, step.Stop) text spaced fits = tt

module _ {C : Type 0} (end : Side) (told : ScriptStep → Telling C) (takes : C → Type 0)
    (each : (line : ScriptLine) (text : List ℕ) → IsScriptLine end line text → LineFits line
    → MayTell takes (told line.1))
  where
    all_told : (lines : List (List ℕ)) (least : ℕ) (found : List ScriptLine)
        → Tell (IsToldLine end) moment_of_line least lines found → All LineFits found → AreTold told takes found
    all_told [] least found is fits =
        All-same (λ (line : ScriptLine). MayTell takes (told line.1)) found [] is
        (All-nil (λ (line : ScriptLine). MayTell takes (told line.1)))
    all_told (text ∷ lines) least found (inl (passed, rest)) fits = all_told lines least found rest fits
    all_told (text ∷ lines) least found (inr (line, others, is, tells, rest)) fits =
        let all = subst (All LineFits) is fits in
        All-same (λ (l : ScriptLine). MayTell takes (told l.1)) found (line ∷ others) is
        (All-cons (λ (l : ScriptLine). MayTell takes (told l.1)) line others
        (each line text tells.0 (All-head LineFits line others all))
        (all_told lines (moment_of_line line) others rest (All-tail LineFits line others all)))

pub are_told : (lines : List (List ℕ)) (least : ℕ) (found : List ScriptLine)
    → Tell (IsToldLine side.Host) moment_of_line least lines found → All LineFits found
    → AreTold told_host HostCommandFits found
are_told = all_told side.Host told_host HostCommandFits told_line

pub are_told_tool : (lines : List (List ℕ)) (least : ℕ) (found : List ScriptLine)
    → Tell (IsToldLine side.Equipment) moment_of_line least lines found → All LineFits found
    → AreTold told_equipment ToolCommandFits found
are_told_tool = all_told side.Equipment told_equipment ToolCommandFits told_tool_line
