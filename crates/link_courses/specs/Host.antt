-- What a run of the host over a link keeps (this profile).
use Rattle.std.specs.Prelude.{◌≡◌, ◌⊎◌, ℕ, List, Option, Some}
use Rattle.command_words.specs.Asked.{Host}
use Rattle.command_words.specs.Words.{asked_of}
use Rattle.gl_base.specs.Told.{FilesTold, SinkTold, SourceTold}
use Rattle.gl_base.specs.declared.input.Input.TheVariants as input
use Rattle.gl_base.specs.declared.side.Side.TheVariants as side
use Rattle.line_end.specs.declared.plan.HostPlan.{HostPlan}
use Rattle.line_schedule.specs.Script.{IsScript}
use Rattle.message_end.specs.Doings.{Doing}
use Rattle.message_end.specs.Ends.{Asked}
use Rattle.message_end.specs.Parts.{Node}
use Rattle.trace_log.specs.declared.commands.HostCommand.{HostCommand}
use Rattle.equipment_tables.specs.declared.plan.Plans.{Plans}
use Rattle.spool_show.specs.Told.{DiskTold}
use Rattle.host_node.specs.Host.{HostOwn, Kind, end_plan, host_machine}
use Rattle.end_pair.specs.Noted.{noted_by}
use Rattle.end_run.specs.Scenes.{StopAt}
use Rattle.end_run.specs.Script.{ScriptLine}
use Rattle.end_run.specs.declared.ending.Ending.{Ending}
use Rattle.gemline_app.specs.Files.{PlansAre}
use Rattle.gemline_app.specs.Gemline.{IsRun}
use Rattle.gemline_app.specs.Host.{host_run, host_start}
use Rattle.gemline_app.specs.Inputs.{WasRead}
use Rattle.gemline_app.specs.LinkTold.{LinkTold}
use Rattle.gemline_app.specs.Linked.{IsIdle, after_run, before_run, outcome_of_ending}
use Rattle.gemline_app.specs.Words.{script_limit}
use Rattle.gemline_app.specs.declared.outcome.Outcome.{Outcome}
use Rattle.link_courses.specs.Lawful.{GiveBytes, KeepsLawOfEnd}
use Rattle.link_courses.specs.Noting.{HasNoted}

-- no more is asked of the host's doings
abbrev pub AreAny : List Doing → Type 0
AreAny doings = Unit {0}

-- it ran by these lines: what it has noted of its course, and what of that its output has. Where the link gives bytes,
-- it is of doings that keep the law of an end
pub record HostRanInCourse (plan : HostPlan) (lines : List ScriptLine) (polls : ℕ) (link : LinkTold) (out : SinkTold)
    (ended : Ending) : Type 0 where
  pub left : Node HostOwn Kind
  pub room : Asked
  pub stop : Option (StopAt (Node HostOwn Kind) HostCommand)
  pub noted :
      HasNoted host_machine (host_start plan) side.Host (host_run plan lines polls)
      (before_run link out (host_start plan).next) (after_run link out left room stop) ended
  pub lawful : GiveBytes noted.answers → KeepsLawOfEnd (end_plan plan) AreAny (noted_by side.Host noted.log)

-- so it was of the plan and of the script that were read
pub record HostRanLawfully (plan : List ℕ) (polls : ℕ) (source : SourceTold) (files : FilesTold) (link : LinkTold)
    (out : SinkTold) (outcome : Outcome) : Type 0 where
  pub plans : Plans
  pub plans_are : PlansAre plan files plans
  pub text : List ℕ
  pub read : WasRead script_limit source (input.Whole text)
  pub lines : List ScriptLine
  pub script : IsScript side.Host text lines
  pub ended : Ending
  pub outcome_is : outcome ≡ outcome_of_ending ended
  pub ran : HostRanInCourse plans.host lines polls link out ended

-- whatever the link does, each run of `host` is so; or it was refused before anything was written, and made no call of
-- the link
abbrev pub HostsKeepTheirLaws : Type 0
HostsKeepTheirLaws =
    (words : List (List ℕ)) (source : SourceTold) (files : FilesTold) (disk : DiskTold) (link : LinkTold)
    (out err : SinkTold) (status : ℕ) (plan address : List ℕ) (polls : ℕ)
    → (run : IsRun words source files disk link out err status) → asked_of words ≡ Some (Host plan address polls)
    → IsIdle link out ⊎ HostRanLawfully plan polls source files link out run.outcome
