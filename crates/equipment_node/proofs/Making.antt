-- That a step is of doings again.
use Rattle.std.proofs.Common.{◌≡◌, subst, ℕ, ◌++◌}
use Rattle.trace_log.specs.Commands.{ToolCommandFits}
use Rattle.trace_log.specs.Log.{Happening}
use Rattle.trace_log.specs.declared.commands.ToolCommand.{ToolCommand}
use Rattle.message_end.specs.Core.{Step, Went}
use Rattle.message_end.specs.Core.Went.{Goes}
use Rattle.message_end.specs.Ends.{DoesStep, Input, MayTake}
use Rattle.tool_step.specs.Equipment.{EquipmentView, act}
use Rattle.tool_law.specs.Laws.{DidOf}
use Rattle.tool_law.proofs.LawfulLosses.{equipment_lawful}
use Rattle.tool_step.specs.Step.{end_plan}
use Rattle.equipment_node.specs.Stepping.{IsMade}

pub next-made :
    (s : EquipmentView) (input : Input ToolCommand) (now : ℕ) (step : Step EquipmentView Happening)
    → IsMade s → MayTake ToolCommandFits input → act s input now ≡ Goes step → IsMade step.next
next-made s input now step made may is =
    let law = equipment_lawful made.plan s.file made.fits made.did.sound.list in
    let does =
    subst
    (λ (went : Went EquipmentView Happening).
    DoesStep (end_plan made.plan) (DidOf made.plan) made.base made.doings input now went)
    is (law.goes_on made.base made.doings s input now made.did may) in
    record {
      plan = made.plan;
      fits = made.fits;
      base = made.base;
      doings = does.done ++ made.doings;
      did = does.is;
    }
