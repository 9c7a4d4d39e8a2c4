-- The run of an end over a link, by what commands it, and what the link answers (this profile).
use Rattle.std.specs.Prelude.{zero, suc, ℕ, List, [], ◌∷◌, Option, Some}
use Rattle.gl_base.specs.Events.{moment_after}
use Rattle.gl_base.specs.declared.link.LinkIn.{LinkIn}
use Rattle.gl_base.specs.declared.link.LinkIn.TheVariants as link
use Rattle.gl_base.specs.declared.side.Side.{Side}
use Rattle.line_schedule.specs.declared.script.ScriptStep.{ScriptStep}
use Rattle.message_end.specs.Core.{Step}
use Rattle.message_end.specs.Ends.{Machine}
use Rattle.message_end.specs.Ends.Input.{Char, Time}
use Rattle.trace_log.specs.Log.{Happening}
use Rattle.trace_log.specs.Log.Happening.{Closed}
use Rattle.end_run.specs.declared.ending.Ending.TheVariants as ending
use Rattle.end_run.specs.Acts.Act.{Polls}
use Rattle.end_run.specs.Commands.{Commands, Telling, wait_until}
use Rattle.end_run.specs.Pieces.{Piece, and_more, behind, stops}
use Rattle.end_run.specs.Script.{ScriptLine, by_script}
use Rattle.end_run.specs.Steps.{answered, notes_at, started, stepped}

-- the peer has closed the connection, at the moment of the last answer that had one
abbrev pub closed : {S C : Type 0} → Side → ℕ → S → Piece S C
closed side now s = record {
  end = s;
  acts = notes_at side now (Closed ∷ []) [] ∷ [];
  ended = Some ending.Closed;
}

-- the end has started so: its lines are written, it connects, and makes a step with time at moment 0
abbrev pub begun : {S C : Type 0} → Machine S C → Side → Step S Happening → Piece S C
begun machine side start = and_more (started side start) (stepped machine side 0 Time)

-- an end is a machine with the moments at which its states act next by themselves, and with what commands it
module _ {S C Q : Type 0} (machine : Machine S C) (due : S → Option ℕ) (commands : Commands Q C) (side : Side)
  where
    -- what is done upon an answer, where the last one before it that had a moment had this one
    abbrev pub upon : Q → ℕ → LinkIn → S → Piece S C
    upon coming before (link.Char byte now) s =
        answered machine side now (commands.come now coming) (Char byte) s
    upon coming before (link.Quiet now) s = answered machine side now (commands.come now coming) Time s
    upon coming before link.Closed s = closed side before s
    upon coming before link.Failed s = stops ending.LinkFailed s

    -- a poll asks for the moment at which the end acts next, by itself or by what commands it
    abbrev pub turned : Q → ℕ → LinkIn → S → Piece S C
    turned coming before answer s =
        behind
        (Polls (wait_until (due s) (commands.asks coming)) answer (commands.early (moment_after before answer) coming)
        ∷ [])
        (upon coming before answer s)

    -- so many polls, as long as the run goes on; where no answer is left the peer has closed the connection
    abbrev pub polled : ℕ → Q → ℕ → List LinkIn → S → Piece S C
    polled zero coming before answers s = stops ending.Turns s
    polled (suc n) coming before [] s = turned coming before link.Closed s
    polled (suc n) coming before (answer ∷ answers) s =
        let now = moment_after before answer in
        and_more (turned coming before answer s) (polled n (commands.later now coming) now answers)

    -- all of a run from its start, where this and these answers are to come
    abbrev pub commanded_run : Step S Happening → Q → ℕ → List LinkIn → Piece S C
    commanded_run start coming polls answers = and_more (begun machine side start) (polled polls coming 0 answers)

-- the run by a script, of which what a line tells is given: an answer brings the lines that are due
abbrev pub started_run :
    {S C : Type 0} → Machine S C → (S → Option ℕ) → (ScriptStep → Telling C) → Side → Step S Happening
    → List ScriptLine → ℕ → List LinkIn → Piece S C
started_run machine due told side = commanded_run machine due (by_script told) side
