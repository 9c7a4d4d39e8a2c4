-- Which outcome of `host` is due.
use Rattle.std.proofs.Common.{ℕ, List}
use Rattle.gl_base.specs.Told.{FilesTold, SinkTold, SourceTold}
use Rattle.gl_base.specs.declared.side.Side.TheVariants as side
use Rattle.equipment_tables.specs.declared.plan.Plans.{Plans}
use Rattle.spool_show.specs.Told.{DiskTold}
use Rattle.end_run.specs.Script.{ScriptLine}
use Rattle.gemline_app.specs.Host.{HostComes, WasRun, host_run}
use Rattle.gemline_app.specs.Laws.{HostAsks, IsLinkedDue}
use Rattle.gemline_app.specs.LinkTold.{LinkTold}
use Rattle.gemline_app.specs.Linked.{IsIdle}
use Rattle.gemline_app.specs.declared.outcome.Outcome.{Outcome}
use Rattle.gemline_app.specs.declared.outcome.Outcome.TheVariants.{NoMemory}
use Rattle.gemline_app.proofs.LinkedDue.{linked_due, run_due}
use Rattle.gemline_app.proofs.ReplayDue.{Comes}

module _ (source : SourceTold) (files : FilesTold) (disk : DiskTold) (link : LinkTold) (out : SinkTold) where
  lines_due :
      (polls : ℕ) (outcome due : Outcome) (plans : Plans) (lines : List ScriptLine)
      → WasRun plans.host lines polls link out outcome → HostAsks polls link plans lines due
      → Comes source files disk link out outcome due
  lines_due polls outcome due plans lines was asks =
      run_due source files disk link out NoMemory _ was.left was.room was.stop (host_run plans.host lines polls) was.ended
      outcome due was.outcome_is (λ at. absurd (was.no_disk at)) was.runs asks

  pub host_due :
      (plan : List ℕ) (polls : ℕ) (outcome due : Outcome) → HostComes plan polls source files link out outcome
      → IsLinkedDue side.Host (HostAsks polls link) plan source files due
      → Comes source files disk link out outcome due
  host_due plan polls outcome due comes is_due =
      linked_due source files disk link out side.Host (IsIdle link out)
      (λ (plans : Plans) (lines : List ScriptLine). WasRun plans.host lines polls link out outcome)
      (HostAsks polls link) outcome due (λ idle. idle.written)
      (λ plans lines was asks. lines_due polls outcome due plans lines was asks) plan comes is_due
