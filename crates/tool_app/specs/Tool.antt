-- What `gemline_tool` reads, writes, sends, and leaves on its disk (this profile).
use Rattle.std.specs.Prelude.{◌≡◌, ◌⊎◌, ℕ, Bool, true, nat_lt, List, Option, Some}
use Rattle.gl_base.specs.Told.{FilesTold, SinkTold}
use Rattle.spool_show.specs.Told.{DiskTold}
use Rattle.equipment_tables.specs.declared.plan.EquipmentPlan.{EquipmentPlan}
use Rattle.equipment_tables.specs.declared.plan.Plans.{Plans}
use Rattle.end_run.specs.declared.ending.Ending.{Ending}
use Rattle.end_run.specs.declared.ending.Ending.TheVariants.{LinkFailed}
use Rattle.gemline_app.specs.Equipment.{StartRefuses}
use Rattle.gemline_app.specs.Filed.{BytesTold, IsAllIdle, IsNotTaken, bytes_told}
use Rattle.gemline_app.specs.Files.{PlanRefuses, PlansAre}
use Rattle.gemline_app.specs.LinkTold.{LinkTold}
use Rattle.gemline_app.specs.Linked.{IsIdle, outcome_of_ending}
use Rattle.gemline_app.specs.declared.outcome.Outcome.{Outcome}
use Rattle.gemline_app.specs.declared.outcome.Outcome.TheVariants.{ReadFailed}
use Rattle.live_teller.specs.Came.{Came}
use Rattle.tool_app.specs.Run.{WasLive}
use Rattle.live_teller.specs.declared.beside.Beside as beside

-- ---- what comes beside the link

-- what was to come before a run, and how many reads of the input had failed before it and behind it
pub record BesideTold : Type 0 where
  pub coming : Option (List Came)
  pub faults : ℕ
  pub faults_after : ℕ

abbrev pub beside_told : {B L : Type 0} → beside.Ghosts B L → B → B → BesideTold
beside_told members old new = record {
  coming = members.to_come old;
  faults = members.faults old;
  faults_after = members.faults new;
}

-- ---- how a run ends

-- a wait fails for the link, or for the input
abbrev pub outcome_of_run : (input_failed : Bool) → Ending → Outcome
outcome_of_run true LinkFailed = ReadFailed
outcome_of_run _ ended = outcome_of_ending ended

-- the equipment has run, and came to this
pub record CameLive (plan : EquipmentPlan) (beside : BesideTold) (disk : BytesTold) (link : LinkTold) (out : SinkTold)
    (outcome : Outcome) : Type 0 where
  pub ended : Ending
  pub outcome_is : outcome ≡ outcome_of_run (nat_lt beside.faults beside.faults_after) ended
  pub was : WasLive plan beside.coming disk link out ended

-- ---- from its disk on

-- where the equipment doesn't start, nothing was written, and no call of the link was made
abbrev pub SpoolComes : EquipmentPlan → BesideTold → BytesTold → LinkTold → SinkTold → Outcome → Type 0
SpoolComes plan beside disk link out outcome =
    (StartRefuses disk outcome × IsIdle link out) ⊎ CameLive plan beside disk link out outcome

-- over the spool file of this name, which the disk took or not
abbrev pub FileComes : EquipmentPlan → List ℕ → BesideTold → DiskTold → LinkTold → SinkTold → Outcome → Type 0
FileComes plan spool beside disk link out outcome =
    IsNotTaken disk link out outcome
    ⊎ ((disk.file_after ≡ Some spool) × SpoolComes plan beside (bytes_told disk) link out outcome)

-- ---- from its plan on

abbrev pub ToolComes :
    List ℕ → List ℕ → BesideTold → FilesTold → DiskTold → LinkTold → SinkTold → Outcome → Type 0
ToolComes plan spool beside files disk link out outcome =
    (PlanRefuses plan files outcome × IsAllIdle disk link out)
    ⊎ ((plans : Plans) × PlansAre plan files plans × FileComes plans.equipment spool beside disk link out outcome)
