-- What a run of the tool that lives keeps, where its disk tells its bytes (this profile).
use Rattle.std.specs.Prelude.{◌≡◌, ◌⊎◌, ℕ, nat_lt, List, [], ◌∷◌, All, Some}
use Rattle.disk_base.specs.Disk.{TellsBytes}
use Rattle.disk_base.specs.Story.{Story}
use Rattle.gl_base.specs.Told.{FilesTold, SinkTold}
use Rattle.trace_log.specs.Commands.{ToolCommandFits}
use Rattle.equipment_tables.specs.declared.plan.Plans.{Plans}
use Rattle.spool_show.specs.Told.{DiskTold}
use Rattle.spool_file.specs.File.{file_in}
use Rattle.end_run.specs.Commands.{IsTaken}
use Rattle.end_run.specs.declared.ending.Ending.{Ending}
use Rattle.gemline_app.specs.Files.{PlansAre}
use Rattle.gemline_app.specs.LinkTold.{LinkTold}
use Rattle.gemline_app.specs.Linked.{IsIdle}
use Rattle.gemline_app.specs.declared.outcome.Outcome.{Outcome}
use Rattle.live_teller.specs.Came.{Came}
use Rattle.live_teller.specs.Tellings.{ToolTelling}
use Rattle.tool_app.specs.Run.{MayBeTold, live_run}
use Rattle.tool_app.specs.Tool.{BesideTold, ToolComes, outcome_of_run}
use Rattle.link_courses.specs.Equipment.{RanInCourse}
use Rattle.link_courses.specs.Lawful.{GiveBytes}
use Rattle.link_courses.specs.Noting.{AnyReply}

-- each command that it is told, with each answer of the link, is one that a tool takes
abbrev pub AreTaken : List (List ToolTelling) → Type 0
AreTaken [] = Unit {0}
AreTaken (here ∷ coming) = All (IsTaken ToolCommandFits) here × AreTaken coming

-- so it was of the plan that was read, and of what it was told beside the link: it is given what it takes where the
-- link gives bytes and each of these commands is such, as all are where the input is told, whatever its bytes
pub record ToolRanLawfully (plan bytes : List ℕ) (beside : BesideTold) (files : FilesTold) (link : LinkTold)
    (out : SinkTold) (outcome : Outcome) : Type 0 where
  pub plans : Plans
  pub plans_are : PlansAre plan files plans
  pub ended : Ending
  pub outcome_is : outcome ≡ outcome_of_run (nat_lt beside.faults beside.faults_after) ended
  pub coming : List (List ToolTelling)
  pub may : MayBeTold beside.coming coming
  pub taken : (came : List Came) → beside.coming ≡ Some came → AreTaken coming
  pub ran :
      RanInCourse AnyReply (λ answers. GiveBytes answers × AreTaken coming) plans.equipment (file_in bytes)
      (λ start. live_run start coming) link out ended

-- whatever the link does and whatever comes beside it, each run of `tool` over a disk that tells its bytes is so; or it
-- was refused before anything was written, and made no call of the link
abbrev pub ToolsKeepTheirLaws : Type 0
ToolsKeepTheirLaws =
    (plan spool : List ℕ) (beside : BesideTold) (files : FilesTold) (disk : DiskTold) (link : LinkTold)
    (out : SinkTold) (outcome : Outcome) → ToolComes plan spool beside files disk link out outcome
    → TellsBytes disk.before → (s : Story) → disk.before ≡ Some s
    → IsIdle link out ⊎ ToolRanLawfully plan s.now.bytes beside files link out outcome
