-- A run by what comes beside a link, as the one of a tool.
use Rattle.std.proofs.Common.{◌≡◌, List, Option, Some, sym, subst}
use Rattle.std.specs.Option.{option_map}
use Rattle.disk_base.specs.declared.disk.Disk as disk
use Rattle.gl_base.specs.Told.{SinkTold}
use Rattle.spool_slots.specs.declared.states.Spent.{Spent}
use Rattle.trace_log.specs.Log.{Happening}
use Rattle.message_end.specs.Core.{Step}
use Rattle.message_end.specs.Ends.{none_asked}
use Rattle.tool_step.specs.Equipment.{EquipmentView}
use Rattle.gem_recipes.specs.declared.no_recipes.NoRecipes.{NoRecipes}
use Rattle.equipment_node.specs.Held.{Held}
use Rattle.end_run.specs.Outcome.{ByWhatComes, ComesOver, RunsOver}
use Rattle.end_run.specs.Told.{MayCome}
use Rattle.end_run.specs.declared.ending.Ending.{Ending}
use Rattle.gemline_app.specs.LinkTold.{LinkTold}
use Rattle.gemline_app.specs.Linked.{after_run, before_run}
use Rattle.gemline_app.specs.LinkedEquipment.{HoldsOne, IsKnown, LeavesDevice, disk_in, linked_view, tool_view}
use Rattle.gemline_app.proofs.Equipping.{holds_left}
use Rattle.live_commands.specs.Coming.{at_start}
use Rattle.live_teller.specs.Came.{Came}
use Rattle.tool_app.specs.Run.{RunsLive, live_run}
use Rattle.live_teller.specs.Tellings.{ToolTelling, told_by}

module _ {D : Type 0} (members : disk.Ghosts D) where
  pub runs_live :
      (h : Held D NoRecipes) (start : Step EquipmentView Happening) → start.next ≡ tool_view members h
      → (came : Option (List Came)) (told : Option (List (List ToolTelling)))
      → told ≡ option_map (told_by at_start) came
      → (going : Option (Held D NoRecipes)) (spent : Option (Spent D)) (d : D)
      → HoldsOne going spent → disk_in going spent ≡ Some d → (link : LinkTold) (out : SinkTold) (how : Ending)
      → ByWhatComes told (λ coming.
      ComesOver (IsKnown members) (LeavesDevice members) (record { going = going; spent = spent })
      (before_run link out (tool_view members h))
      (λ halt. after_run link out (linked_view members going) none_asked halt)
      (live_run start coming) how)
      → RunsLive start came (members.told d) link out how
  runs_live h start next came told told_is going spent d one is link out how (coming, may, (halt, so, over)) =
      record {
        coming = coming;
        may = subst (λ (t : Option (List (List ToolTelling))). MayCome t coming) told_is may;
        left = linked_view members going;
        room = none_asked;
        stop = halt;
        runs = subst
            (λ (s : EquipmentView). RunsOver (before_run link out s)
            (after_run link out (linked_view members going) none_asked halt) (live_run start coming) how)
            (sym next) over;
        holds = holds_left members going spent d one is halt so;
      }
