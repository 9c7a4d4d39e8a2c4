-- Reading a schedule or a script line by line.
use Rattle.std.specs.Prelude.{◌≡◌, ℕ, ◌+◌, ◌==◌, nat_lt, Bool, true, List, [], ◌∷◌, ◌++◌, Option, Some, None, Result, Ok, Err, if◌then◌else◌}
use Rattle.gl_base.specs.declared.side.Side.{Side}
use Rattle.gl_base.specs.declared.side.Side.TheVariants as side
use Rattle.std.specs.Option.{option_map, option_or}
use Rattle.std.specs.Prelude.{codes}
use Rattle.line_schedule.specs.declared.event.Event.{Event}
use Rattle.line_schedule.specs.declared.schedule.ScheduleFault.{ScheduleFault}
use Rattle.line_schedule.specs.declared.schedule.ScheduleFault.TheVariants as fault
use Rattle.line_schedule.specs.declared.script.ScriptStep.{ScriptStep}
use Rattle.line_schedule.specs.declared.script.ScriptStep.TheVariants as step
use Rattle.line_schedule.specs.Commands.{host_command_in, tool_command_in}
use Rattle.line_schedule.specs.Events.{event_in, may_stand}
use Rattle.line_schedule.specs.Words.{any_number_in, read_split, word_in}
use Rattle.line_schedule.specs.Schedule.{moment_of_event, most_lines}
use Rattle.line_schedule.specs.Script.{moment_of_line, most_script_lines}

-- ---- any lines

-- how a line of a number is read behind values up to a moment: to its value, to nothing, or to why the reading stops
-- there; and the moment of a value
pub record LineReader (V : Type 0) : Type 0 where
  pub answer : ℕ → ℕ → List ℕ → Result (Option V) ScheduleFault
  pub moment_of : V → ℕ

-- values, and then those of what is left
abbrev pub with_values : {V : Type 0} → List V → Result (List V) ScheduleFault → Result (List V) ScheduleFault
with_values values (Ok others) = Ok (values ++ others)
with_values values (Err e) = Err e

-- what a line is read to, and then what is left is, by the moment up to which values stand
abbrev pub and_rest :
    {V : Type 0} → (V → ℕ) → ℕ → Result (Option V) ScheduleFault → (ℕ → Result (List V) ScheduleFault)
    → Result (List V) ScheduleFault
and_rest moment_of least (Ok None) rest = rest least
and_rest moment_of least (Ok (Some value)) rest = with_values (value ∷ []) (rest (moment_of value))
and_rest moment_of least (Err e) rest = Err e

-- the values of lines before which so many lines stand, or the fault of the first that stops the reading
abbrev pub read_lines : {V : Type 0} → LineReader V → ℕ → ℕ → List (List ℕ) → Result (List V) ScheduleFault
read_lines reader before least [] = Ok []
read_lines reader before least (line ∷ lines) =
    and_rest reader.moment_of least (reader.answer (before + 1) least line)
    (λ moment. read_lines reader (before + 1) moment lines)

-- what a function returned, seen by view, is what reading gives, unless memory ran out
abbrev pub Gives : {X Y : Type 0} → (X → Y) → Result X ScheduleFault → Result Y ScheduleFault → Type 0
Gives view (Ok x) read = read ≡ Ok (view x)
Gives view (Err (fault.Line n)) read = read ≡ Err (fault.Line n)
Gives view (Err fault.NoMemory) read = Unit {0}

-- ---- lines of a schedule

-- an empty line or a comment
abbrev pub is_passed_over : List ℕ → Bool
is_passed_over [] = true
is_passed_over (b ∷ rest) = b == 35

-- a value that passes a test
abbrev pub only_where : {V : Type 0} → (V → Bool) → Option V → Option V
only_where may None = None
only_where may (Some value) = if may value then Some value else None

-- the event that a line tells, where that may stand there
abbrev pub told_in : (host_loses : Bool) → List ℕ → Option Event
told_in host_loses line = only_where (may_stand host_loses) (event_in line)

-- the event of the line of a number
abbrev pub event_answer : ℕ → Option Event → Result (Option Event) ScheduleFault
event_answer number None = Err (fault.Line number)
event_answer number (Some event) = Ok (Some event)

abbrev pub schedule_answer : (host_loses : Bool) → ℕ → List ℕ → Result (Option Event) ScheduleFault
schedule_answer host_loses number line =
    if nat_lt most_lines number then Err (fault.Line number)
    else if is_passed_over line then Ok None
    else event_answer number (told_in host_loses line)

abbrev pub schedule_reader : (host_loses : Bool) → LineReader Event
schedule_reader host_loses =
    record { answer = λ number least line. schedule_answer host_loses number line; moment_of = moment_of_event }

-- ---- lines of a script

-- a command of this end
abbrev pub command_in : Side → List ℕ → Option ScriptStep
command_in side.Equipment text = option_map (λ command. step.Tool command) (tool_command_in text)
command_in side.Host text = option_map (λ command. step.Host command) (host_command_in text)

abbrev pub step_in : Side → List ℕ → Option ScriptStep
step_in side text = option_or (command_in side text) (word_in (codes "stop") step.Stop text)

-- a moment, and what is to happen then
abbrev pub script_line_in : Side → List ℕ → Option (ℕ × ScriptStep)
script_line_in side = read_split 32 any_number_in (step_in side)

-- what the line of a number tells, where its moment isn't below another
abbrev pub moment_answer : ℕ → ℕ → Option (ℕ × ScriptStep) → Result (Option (ℕ × ScriptStep)) ScheduleFault
moment_answer number least None = Err (fault.Line number)
moment_answer number least (Some line) = if nat_lt line.0 least then Err (fault.Line number) else Ok (Some line)

abbrev pub script_answer : Side → ℕ → ℕ → List ℕ → Result (Option (ℕ × ScriptStep)) ScheduleFault
script_answer side number least line =
    if nat_lt most_script_lines number then Err (fault.Line number)
    else if is_passed_over line then Ok None
    else moment_answer number least (script_line_in side line)

abbrev pub script_reader : Side → LineReader (ℕ × ScriptStep)
script_reader side = record { answer = script_answer side; moment_of = moment_of_line }
