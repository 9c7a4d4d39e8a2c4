-- What `host` reads, writes and sends (this profile).
use Rattle.std.specs.Prelude.{◌≡◌, ◌≢◌, ◌^◌, ℕ, List, Option}
use Rattle.gl_base.specs.Told.{FilesTold, SinkTold, SourceTold}
use Rattle.gl_base.specs.declared.link.LinkIn.{LinkIn}
use Rattle.gl_base.specs.declared.side.Side.TheVariants as side
use Rattle.line_end.specs.declared.plan.HostPlan.{HostPlan}
use Rattle.message_end.specs.Calls.{deadline_of_end}
use Rattle.message_end.specs.Core.{Step}
use Rattle.message_end.specs.Ends.{Asked}
use Rattle.message_end.specs.Parts.{Node, bare_started}
use Rattle.trace_log.specs.Log.{Happening}
use Rattle.trace_log.specs.declared.commands.HostCommand.{HostCommand}
use Rattle.transact.specs.Numbers.{numbers_from}
use Rattle.host_node.specs.Host.{HostOwn, Kind, end_plan, first_own, host_machine}
use Rattle.end_run.specs.Outcome.{RunsOver}
use Rattle.end_run.specs.Pieces.{Piece}
use Rattle.end_run.specs.Run.{started_run}
use Rattle.end_run.specs.Scenes.{StopAt}
use Rattle.end_run.specs.Script.{ScriptLine}
use Rattle.end_run.specs.Sides.{told_host}
use Rattle.end_run.specs.declared.ending.Ending.{Ending}
use Rattle.end_run.specs.declared.ending.Ending.TheVariants as ending
use Rattle.gemline_app.specs.LinkTold.{LinkTold}
use Rattle.gemline_app.specs.Linked.{IsIdle, LinkedComes, after_run, before_run, outcome_of_ending}
use Rattle.gemline_app.specs.declared.outcome.Outcome.{Outcome}

-- ---- the host's run

-- when the host acts next by itself: the least moment of its line's, of T4 and of T3
abbrev pub host_due : Node HostOwn Kind → Option ℕ
host_due host = deadline_of_end host.core

-- its start by a plan
abbrev pub host_start : HostPlan → Step (Node HostOwn Kind) Happening
host_start plan = bare_started (end_plan plan) (first_own plan) (numbers_from 0 (2 ^ 32))

-- its run by a plan, with the lines of a script and so many polls, where these answers of the link are to come
abbrev pub host_run : HostPlan → List ScriptLine → ℕ → List LinkIn → Piece (Node HostOwn Kind) HostCommand
host_run plan lines polls = started_run host_machine host_due told_host side.Host (host_start plan) lines polls

-- the host ran: its lines are those that plan, script and the link's answers ask for, and so are the moments asked of
-- the link and the characters sent (this profile)
pub record WasRun (plan : HostPlan) (lines : List ScriptLine) (polls : ℕ) (link : LinkTold) (out : SinkTold)
    (outcome : Outcome) : Type 0 where
  pub ended : Ending
  pub outcome_is : outcome ≡ outcome_of_ending ended
  -- it has no disk that may fail
  pub no_disk : ended ≢ ending.DiskFailed
  pub left : Node HostOwn Kind
  pub room : Asked
  pub stop : Option (StopAt (Node HostOwn Kind) HostCommand)
  pub runs :
      RunsOver
      (before_run link out (host_start plan).next)
      (after_run link out left room stop)
      (host_run plan lines polls)
      ended

-- ---- from its plan on

-- what `host` came to
abbrev pub HostComes : List ℕ → ℕ → SourceTold → FilesTold → LinkTold → SinkTold → Outcome → Type 0
HostComes plan polls source files link out outcome =
    LinkedComes side.Host (IsIdle link out) (λ plans lines. WasRun plans.host lines polls link out outcome) plan source
    files outcome
