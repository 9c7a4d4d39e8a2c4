-- Which outcome of `equipment` is due.
use Rattle.std.proofs.Common.{◌≡◌, sym, ap, ◌∙◌, ℕ, Bool, true, List, if◌then◌else◌}
use Rattle.gl_base.specs.Told.{FilesTold, SinkTold, SourceTold}
use Rattle.gl_base.specs.declared.side.Side.TheVariants as side
use Rattle.spool_show.specs.Told.{DiskTold}
use Rattle.spool_file.specs.File.{SpoolFile}
use Rattle.trace_log.specs.Log.{Happening}
use Rattle.message_end.specs.Core.{Step, at_first}
use Rattle.message_end.specs.Core.Went.{Goes, Spent}
use Rattle.equipment_tables.specs.declared.plan.EquipmentPlan.{EquipmentPlan}
use Rattle.tool_step.specs.Equipment.{EquipmentView, is_marked_out, started_on, starts, unstarted}
use Rattle.gemline_app.specs.Equipment.{EquipmentComes, HoldsLeft, tool}
use Rattle.gemline_app.specs.Laws.{FileAsks, IsLinkedDue}
use Rattle.gemline_app.specs.LinkTold.{LinkTold}
use Rattle.gemline_app.specs.declared.outcome.Outcome.{Outcome}
use Rattle.gemline_app.proofs.FiledDue.{filed_due}
use Rattle.gemline_app.proofs.ReplayDue.{Comes}

no_start :
    (plan : EquipmentPlan) (file : SpoolFile) (step : Step EquipmentView Happening)
    → starts plan file ≡ Goes step → is_marked_out file.mark.value ≡ true → ⊥
no_start plan file step goes out = unlike (sym (spent out) ∙ goes)
  where
    spent : is_marked_out file.mark.value ≡ true → starts plan file ≡ Spent (at_first (unstarted plan file))
    spent is = ap (λ (b : Bool). if b then Spent (at_first (unstarted plan file)) else Goes (started_on plan file)) is

    unlike : {other : Step EquipmentView Happening} → Spent other ≡ Goes step → ⊥
    unlike is = cc

pub equipment_due :
    (source : SourceTold) (files : FilesTold) (disk : DiskTold) (link : LinkTold) (out : SinkTold)
    (plan spool : List ℕ) (polls : ℕ) (outcome due : Outcome)
    → EquipmentComes plan spool polls source files disk link out outcome
    → IsLinkedDue side.Equipment (λ plans. FileAsks tool plans.equipment polls disk link) plan source files due
    → Comes source files disk link out outcome due
equipment_due source files disk link out plan spool polls outcome due comes is_due =
    filed_due tool HoldsLeft no_start source files disk link out spool polls outcome due (λ plans. plans.equipment) plan
    comes is_due
