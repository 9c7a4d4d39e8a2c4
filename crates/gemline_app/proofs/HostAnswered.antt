-- What a host answers whose plan and script mean something.
use Rattle.std.proofs.Common.{◌≢◌, ℕ, List, Option, Some, refl, sym, subst, inl, inr}
use Rattle.command_words.specs.Asked.{Asked, Host}
use Rattle.gl_base.specs.Told.{FilesTold, SinkTold, SourceTold}
use Rattle.gl_base.specs.declared.side.Side.TheVariants as side
use Rattle.equipment_tables.specs.declared.plan.Plans.{Plans}
use Rattle.line_end.specs.declared.plan.HostPlan.{HostPlan}
use Rattle.message_end.specs.Ends.{Asked as Room}
use Rattle.message_end.specs.Parts.{Node}
use Rattle.host_node.specs.Host.{HostOwn, Kind}
use Rattle.spool_show.specs.Told.{DiskTold}
use Rattle.trace_log.specs.declared.commands.HostCommand.{HostCommand}
use Rattle.end_run.specs.Acts.{Act}
use Rattle.end_run.specs.Outcome.{Does}
use Rattle.end_run.specs.Scenes.{StopAt}
use Rattle.end_run.specs.Script.{ScriptLine}
use Rattle.end_run.specs.declared.ending.Ending.{Ending}
use Rattle.end_run.specs.declared.ending.Ending.TheVariants as ending
use Rattle.gemline_app.specs.Gemline.{RunComes}
use Rattle.gemline_app.specs.Host.{WasRun}
use Rattle.gemline_app.specs.Laws.{HostsAreAnswered, IsAnswered, IsGiven}
use Rattle.gemline_app.specs.LinkTold.{LinkTold}
use Rattle.gemline_app.specs.Linked.{IsIdle, after_run, before_run, outcome_of_ending}
use Rattle.gemline_app.specs.declared.outcome.Outcome.{Outcome}
use Rattle.gemline_app.proofs.LinkedAnswered.{Answered, linked_answered}
use Rattle.gemline_app.proofs.ReplayDue.{hindered}

module _ (source : SourceTold) (files : FilesTold) (disk : DiskTold) (link : LinkTold) (out : SinkTold) where
  by_ending :
      (host left : Node HostOwn Kind) (room : Room) (stop : Option (StopAt (Node HostOwn Kind) HostCommand))
      (how : Option Ending) (acts : List (Act (Node HostOwn Kind) HostCommand))
      (ended : Ending) → ended ≢ ending.DiskFailed
      → Does (before_run link out host) (after_run link out left room stop) how acts (Some ended)
      → Answered source files disk link out IsAnswered (outcome_of_ending ended)
  by_ending host left room stop how acts ending.Stopped none did = inl (inl refl)
  by_ending host left room stop how acts ending.Closed none did = inl (inl refl)
  by_ending host left room stop how acts ending.Turns none did = inl (inr (inl refl))
  by_ending host left room stop how acts ending.NumbersSpent none did = inl (inr (inr refl))
  by_ending host left room stop how acts ending.Full none did = inr tt
  by_ending host left room stop how acts ending.DiskFailed none fails = absurd (none refl)
  by_ending host left room stop how acts ending.LinkFailed none fails = inr fails.fault.rose
  by_ending host left room stop how acts ending.WriteFailed none fails = inr fails.fault.rose
  by_ending host left room stop how acts ending.NoMemory none part = inr tt

  ran : (plan : HostPlan) (lines : List ScriptLine) (polls : ℕ) (outcome : Outcome)
      → WasRun plan lines polls link out outcome → Answered source files disk link out IsAnswered outcome
  ran plan lines polls outcome was =
      subst (Answered source files disk link out IsAnswered) (sym was.outcome_is)
      (by_ending _ was.left was.room was.stop _ _ was.ended was.no_disk was.runs.runs)

  by_words :
      (plan address : List ℕ) (polls : ℕ) (outcome : Outcome) → IsGiven side.Host plan source files
      → RunComes (Some (Host plan address polls)) source files disk link out outcome
      → Answered source files disk link out IsAnswered outcome
  by_words plan address polls outcome given (inl memory) =
      inr (hindered source files disk link out outcome memory.refused)
  by_words plan address polls outcome given (inr (unused, comes, connects)) =
      linked_answered source files disk link out IsAnswered (inl refl) side.Host (IsIdle link out)
      (λ (plans : Plans) (lines : List ScriptLine). WasRun plans.host lines polls link out outcome) outcome
      (λ plans lines was. ran plans.host lines polls outcome was) plan given comes

pub hosts_answered : HostsAreAnswered
hosts_answered words source files disk link out err status plan address polls run asks given =
    by_words source files disk link out plan address polls run.outcome given
    (subst (λ (asked : Option Asked). RunComes asked source files disk link out run.outcome) asks run.comes)
