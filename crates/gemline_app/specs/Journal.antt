-- What `host --journal` reads, writes, sends, and leaves on its disk (this profile).
use Rattle.std.specs.Prelude.{ℕ, List, Option}
use Rattle.disk_base.specs.Story.{Story}
use Rattle.end_run.specs.Pieces.{Piece}
use Rattle.end_run.specs.Script.{ScriptLine}
use Rattle.end_run.specs.Sides.{told_host}
use Rattle.end_run.specs.declared.ending.Ending.{Ending}
use Rattle.gl_base.specs.Told.{FilesTold, SinkTold, SourceTold}
use Rattle.gl_base.specs.declared.link.LinkIn.{LinkIn}
use Rattle.gl_base.specs.declared.side.Side.TheVariants as side
use Rattle.journal_link.specs.Linked.{HoldsLeft, journal_due, linked_machine}
use Rattle.journal_node.specs.Journal.{JournalView, starts}
use Rattle.journal_node.specs.declared.journal_host.JournalStarting.{JournalStarting}
use Rattle.journal_node.specs.declared.journal_host.JournalStarting.TheVariants as starting
use Rattle.line_end.specs.declared.plan.HostPlan.{HostPlan}
use Rattle.message_end.specs.Core.{Step}
use Rattle.spool_file.specs.File.{spool_break}
use Rattle.spool_show.specs.Told.{DiskTold}
use Rattle.trace_log.specs.Log.{Happening}
use Rattle.trace_log.specs.declared.commands.HostCommand.{HostCommand}
use Rattle.gemline_app.specs.Filed as filed
use Rattle.gemline_app.specs.Filed.{BytesTold, Filed, run_of}
use Rattle.gemline_app.specs.LinkTold.{LinkTold}
use Rattle.gemline_app.specs.declared.outcome.Outcome.{Outcome}
use Rattle.gemline_app.specs.declared.outcome.Outcome.TheVariants.{DiskFailed, JournalFull, NoMemory, NotSpool, NumbersSpent}

-- the host with its journal: it can't start over bytes that stand for no spool
abbrev pub journal_host : Filed HostPlan JournalView HostCommand
journal_host = record {
  machine = linked_machine;
  due = journal_due;
  told = told_host;
  side = side.Host;
  break_in = spool_break;
  starts = starts;
  full = JournalFull;
}

-- its run from a start, with the lines of a script and so many polls, where these answers of the link are to come
abbrev pub journal_run :
    Step JournalView Happening → List ScriptLine → ℕ → List LinkIn → Piece JournalView HostCommand
journal_run start lines polls = run_of journal_host start lines polls

-- ---- from its start on

abbrev pub RunsFrom :
    Step JournalView Happening → List ScriptLine → ℕ → Option Story → LinkTold → SinkTold → Ending → Type 0
RunsFrom = filed.RunsFrom journal_host HoldsLeft

abbrev pub WasRunOn : HostPlan → List ScriptLine → ℕ → BytesTold → LinkTold → SinkTold → Outcome → Type 0
WasRunOn = filed.WasRunOn journal_host HoldsLeft

abbrev pub StartRefuses : BytesTold → Outcome → Type 0
StartRefuses = filed.StartRefuses spool_break

abbrev pub SpoolRuns : HostPlan → List ScriptLine → ℕ → BytesTold → LinkTold → SinkTold → Outcome → Type 0
SpoolRuns = filed.SpoolRuns journal_host HoldsLeft

abbrev pub FileRuns : HostPlan → List ℕ → List ScriptLine → ℕ → DiskTold → LinkTold → SinkTold → Outcome → Type 0
FileRuns = filed.FileRuns journal_host HoldsLeft

-- what `host --journal` came to
abbrev pub JournalComes :
    List ℕ → List ℕ → ℕ → SourceTold → FilesTold → DiskTold → LinkTold → SinkTold → Outcome → Type 0
JournalComes = filed.FiledComes journal_host HoldsLeft (λ plans. plans.host)

-- ---- a start that is refused

-- what it leaves, and what it comes to
abbrev pub unstarted_disk : {D : Type 0} → JournalStarting D → D
unstarted_disk (starting.NoMemory spent) = spent.disk
unstarted_disk (starting.NotSpool raw place) = raw.disk
unstarted_disk (starting.DiskFailed spent) = spent.disk
unstarted_disk (starting.NumbersSpent spent) = spent.disk

abbrev pub outcome_of_start : {D : Type 0} → JournalStarting D → Outcome
outcome_of_start (starting.NoMemory spent) = NoMemory
outcome_of_start (starting.NotSpool raw place) = NotSpool place.at
outcome_of_start (starting.DiskFailed spent) = DiskFailed
outcome_of_start (starting.NumbersSpent spent) = NumbersSpent
