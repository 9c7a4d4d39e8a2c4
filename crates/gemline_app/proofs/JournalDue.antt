-- Which outcome of `host --journal` is due.
use Rattle.std.proofs.Common.{◌≡◌, sym, ap, ◌∙◌, ℕ, Bool, true, List, if◌then◌else◌}
use Rattle.gl_base.specs.Told.{FilesTold, SinkTold, SourceTold}
use Rattle.gl_base.specs.declared.side.Side.TheVariants as side
use Rattle.journal_link.specs.Linked.{HoldsLeft}
use Rattle.journal_node.specs.Journal.{JournalView, started_on, starts, unstarted}
use Rattle.line_end.specs.declared.plan.HostPlan.{HostPlan}
use Rattle.message_end.specs.Core.{Step, at_first}
use Rattle.message_end.specs.Core.Went.{Goes, Spent}
use Rattle.spool_file.specs.File.{SpoolFile}
use Rattle.spool_show.specs.Told.{DiskTold}
use Rattle.tool_step.specs.Equipment.{is_marked_out}
use Rattle.trace_log.specs.Log.{Happening}
use Rattle.gemline_app.specs.Journal.{JournalComes, journal_host}
use Rattle.gemline_app.specs.Laws.{FileAsks, IsLinkedDue}
use Rattle.gemline_app.specs.LinkTold.{LinkTold}
use Rattle.gemline_app.specs.declared.outcome.Outcome.{Outcome}
use Rattle.gemline_app.proofs.FiledDue.{filed_due}
use Rattle.gemline_app.proofs.ReplayDue.{Comes}

no_start :
    (plan : HostPlan) (file : SpoolFile) (step : Step JournalView Happening)
    → starts plan file ≡ Goes step → is_marked_out file.mark.value ≡ true → ⊥
no_start plan file step goes out = unlike (sym (spent out) ∙ goes)
  where
    spent : is_marked_out file.mark.value ≡ true → starts plan file ≡ Spent (at_first (unstarted plan file))
    spent is = ap (λ (b : Bool). if b then Spent (at_first (unstarted plan file)) else Goes (started_on plan file)) is

    unlike : {other : Step JournalView Happening} → Spent other ≡ Goes step → ⊥
    unlike is = cc

pub journal_due :
    (source : SourceTold) (files : FilesTold) (disk : DiskTold) (link : LinkTold) (out : SinkTold)
    (plan journal : List ℕ) (polls : ℕ) (outcome due : Outcome)
    → JournalComes plan journal polls source files disk link out outcome
    → IsLinkedDue side.Host (λ plans. FileAsks journal_host plans.host polls disk link) plan source files due
    → Comes source files disk link out outcome due
journal_due source files disk link out plan journal polls outcome due comes is_due =
    filed_due journal_host HoldsLeft no_start source files disk link out journal polls outcome due (λ plans. plans.host)
    plan comes is_due
