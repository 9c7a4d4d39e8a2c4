-- What the commands that run an end over a link have in common (this profile).
use Rattle.std.specs.Prelude.{◌≡◌, ◌⊎◌, ℕ, List, Option, None, Result, Ok, Err}
use Rattle.gl_base.specs.Told.{FilesTold, SinkTold, SourceTold}
use Rattle.gl_base.specs.declared.input.Input.TheVariants as input
use Rattle.gl_base.specs.declared.side.Side.{Side}
use Rattle.equipment_tables.specs.declared.plan.Plans.{Plans}
use Rattle.line_schedule.specs.Script.{IsScript, OutsideScriptAt, ScriptFits}
use Rattle.line_schedule.specs.declared.schedule.ScheduleFault.{ScheduleFault}
use Rattle.line_schedule.specs.declared.schedule.ScheduleFault.TheVariants as script_fault
use Rattle.line_schedule.specs.declared.script.Script.{Script}
use Rattle.message_end.specs.Ends.{Asked, none_asked}
use Rattle.end_run.specs.Scenes.{Scene, StopAt}
use Rattle.end_run.specs.Script.{ScriptLine}
use Rattle.end_run.specs.declared.ending.Ending.{Ending}
use Rattle.end_run.specs.declared.ending.Ending.TheVariants as ending
use Rattle.gemline_app.specs.Files.{PlanRefuses, PlansAre}
use Rattle.gemline_app.specs.Inputs.{InputRefuses, IsUnread, WasRead}
use Rattle.gemline_app.specs.LinkTold.{IsUncalled, LinkTold}
use Rattle.gemline_app.specs.Words.{script_limit}
use Rattle.gemline_app.specs.Written.{IsUntouched}
use Rattle.gemline_app.specs.declared.inputs.Inputs.{Inputs}
use Rattle.gemline_app.specs.declared.outcome.Outcome.{Outcome}
use Rattle.gemline_app.specs.declared.outcome.Outcome.TheVariants.{Done, BadScript, DiskFailed, JournalFull, LinkFailed, NoMemory, NumbersSpent, TurnsSpent, WriteFailed}

-- ---- a run

-- what the end of a run is an outcome of, where a store that is full is this one
abbrev pub outcome_with : (full : Outcome) → Ending → Outcome
outcome_with full ending.Stopped = Done
outcome_with full ending.Closed = Done
outcome_with full ending.Turns = TurnsSpent
outcome_with full ending.NumbersSpent = NumbersSpent
outcome_with full ending.Full = full
outcome_with full ending.DiskFailed = DiskFailed
outcome_with full ending.LinkFailed = LinkFailed
outcome_with full ending.WriteFailed = WriteFailed
outcome_with full ending.NoMemory = NoMemory

-- of an end that has no store of its own which could be full
abbrev pub outcome_of_ending : Ending → Outcome
outcome_of_ending = outcome_with NoMemory

-- and of one that has a journal
abbrev pub outcome_of_journal : Ending → Outcome
outcome_of_journal = outcome_with JournalFull

-- what link and output tell before a run and after it, what the end is then, and the step that has stopped it, where
-- one has. Nothing is said of how much its disk has room for
abbrev pub before_run : {S C : Type 0} → LinkTold → SinkTold → S → Scene S C
before_run link out end = record {
  contents = link.before;
  moment = link.moment;
  link = link.health;
  received = out.before;
  out = out.health;
  end = end;
  room = none_asked;
  stop = None;
}

abbrev pub after_run : {S C : Type 0} → LinkTold → SinkTold → S → Asked → Option (StopAt S C) → Scene S C
after_run link out end room stop = record {
  contents = link.after;
  moment = link.moment_after;
  link = link.health_after;
  received = out.after;
  out = out.health_after;
  end = end;
  room = room;
  stop = stop;
}

-- ---- its script

-- nothing was written, and no call of the link was made
pub record IsIdle (link : LinkTold) (out : SinkTold) : Type 0 where
  pub uncalled : IsUncalled link
  pub written : IsUntouched out

-- an outcome comes, or memory ran out, and nothing was done
abbrev pub ComesIdle : Type 0 → Outcome → Outcome → Type 0
ComesIdle Idle due outcome = ((outcome ≡ due) ⊎ (outcome ≡ NoMemory)) × Idle

-- the refusal of a script's text
abbrev pub script_refusal : ScheduleFault → Outcome
script_refusal (script_fault.Line number) = BadScript number
script_refusal script_fault.NoMemory = NoMemory

-- why a text is refused
abbrev pub ScriptRefuses : Side → List ℕ → ScheduleFault → Type 0
ScriptRefuses side text (script_fault.Line number) = OutsideScriptAt side text number
ScriptRefuses side text script_fault.NoMemory = Unit {0}

-- what a text that is to be a script of a side came to: this was done of its lines, or it was refused and nothing was
-- done; and what it is decides which
pub record ScriptRuns
    (side : Side) (Idle : Type 0) (Was : List ScriptLine → Type 0) (text : List ℕ) (outcome : Outcome) : Type 0 where
  pub because :
      ((lines : List ScriptLine) × IsScript side text lines × Was lines)
      ⊎ ((fault : ScheduleFault) × ScriptRefuses side text fault × (outcome ≡ script_refusal fault) × Idle)
  pub outside : (number : ℕ) → OutsideScriptAt side text number → ComesIdle Idle (BadScript number) outcome
  pub only : (lines : List ScriptLine) → IsScript side text lines → Was lines ⊎ ((outcome ≡ NoMemory) × Idle)

-- what a command came to from its script on
abbrev pub ScriptComes : Side → Type 0 → (List ScriptLine → Type 0) → SourceTold → Outcome → Type 0
ScriptComes side Idle Was source outcome =
    (InputRefuses script_limit source outcome × Idle)
    ⊎ ((text : List ℕ) × WasRead script_limit source (input.Whole text) × ScriptRuns side Idle Was text outcome)

-- what a command came to that reads its plan, then its script, and then does this of its lines
abbrev pub LinkedComes :
    Side → Type 0 → (Plans → List ScriptLine → Type 0) → List ℕ → SourceTold → FilesTold → Outcome → Type 0
LinkedComes side Idle Was plan source files outcome =
    (PlanRefuses plan files outcome × IsUnread source × Idle)
    ⊎ ((plans : Plans) × PlansAre plan files plans × ScriptComes side Idle (Was plans) source outcome)

-- ---- its plan and its script, as they are read

-- a text means this script
pub record IsScriptOf (side : Side) (text : List ℕ) (script : Script) : Type 0 where
  pub found : IsScript side text script.lines
  pub fits : ScriptFits script
  pub only : (lines : List ScriptLine) → IsScript side text lines → script.lines ≡ lines
  pub outside : (number : ℕ) → OutsideScriptAt side text number → ⊥

-- it is refused for this fault
pub record IsRefusedFor (side : Side) (text : List ℕ) (fault : ScheduleFault) : Type 0 where
  pub why : ScriptRefuses side text fault
  pub only : (lines : List ScriptLine) → IsScript side text lines → fault ≡ script_fault.NoMemory
  pub outside :
      (number : ℕ) → OutsideScriptAt side text number
      → (fault ≡ script_fault.Line number) ⊎ (fault ≡ script_fault.NoMemory)

-- the script of a side that a text means, or why there is none
abbrev pub ScriptAnswers : Side → List ℕ → Result Script Outcome → Type 0
ScriptAnswers side text (Ok script) = IsScriptOf side text script
ScriptAnswers side text (Err refusal) =
    (fault : ScheduleFault) × IsRefusedFor side text fault × (refusal ≡ script_refusal fault)

-- the one that the input means
abbrev pub ScriptIsRead : Side → SourceTold → Result Script Outcome → Type 0
ScriptIsRead side source (Ok script) =
    (text : List ℕ) × WasRead script_limit source (input.Whole text) × ScriptAnswers side text (Ok script)
ScriptIsRead side source (Err refusal) =
    InputRefuses script_limit source refusal
    ⊎ ((text : List ℕ) × WasRead script_limit source (input.Whole text) × ScriptAnswers side text (Err refusal))

-- and the plans of a file before it
abbrev pub InputsAnswer : Side → List ℕ → SourceTold → FilesTold → Result Inputs Outcome → Type 0
InputsAnswer side plan source files (Ok inputs) =
    PlansAre plan files inputs.plans × ScriptIsRead side source (Ok inputs.script)
InputsAnswer side plan source files (Err refusal) =
    (PlanRefuses plan files refusal × IsUnread source)
    ⊎ ((plans : Plans) × PlansAre plan files plans × ScriptIsRead side source (Err refusal))
