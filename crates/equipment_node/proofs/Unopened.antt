-- That a step ends at once where no system bytes can be reserved.
use Rattle.std.proofs.Common.{◌≡◌, inl, refl, sym, ap, subst, ◌∙◌, ℕ, List, [], ◌++◌, Some}
use Rattle.std.specs.Prelude.{Err}
use Rattle.std.specs.List.{slice_get}
use Rattle.disk_base.specs.declared.disk.Disk as disk
use Rattle.gem_spool.specs.declared.works.Work.{Work}
use Rattle.gem_spool.specs.Standing.{Standing}
use Rattle.gem_spool.specs.Works.{standings_after}
use Rattle.message_flow.specs.declared.step.StepOut.{StepOut}
use Rattle.trace_log.specs.declared.commands.ToolCommand.{ToolCommand}
use Rattle.trace_log.specs.Log.{Happening}
use Rattle.message_end.specs.Core.{Went, and_then, at_first, step_in}
use Rattle.message_end.specs.Core.Went.{Spent}
use Rattle.message_end.specs.Ends.{Input}
use Rattle.message_end.specs.Parts.{Node}
use Rattle.spool_ledger.specs.Ledger.{LedgerView, carried_out, next_of, stood_count}
use Rattle.spool_works.specs.declared.ended.Ended.{Ended}
use Rattle.spool_works.specs.declared.ended.Ended.TheVariants as ended
use Rattle.tool_step.specs.declared.kind.Kind.{Kind}
use Rattle.equipment_node.specs.Amid.{Acts, Opens}
use Rattle.spool_works.specs.DiskWorks.{DiskWork, fronts_of}
use Rattle.tool_step.specs.Disk.{standing_in, stops, unserved, works_behind}
use Rattle.spool_works.specs.DiskWorks.DiskWork.{Reserve}
use Rattle.tool_step.specs.Equipment.{EquipmentView, act, begun_step, ended_step, parts_done}
use Rattle.tool_step.specs.Equipment.{reserving, settled, settled_step, settled_went}
use Rattle.tool_step.specs.Left as left
use Rattle.tool_step.specs.Own.{OwnView}
use Rattle.tool_step.specs.Step.{first_parts}
use Rattle.equipment_node.proofs.OnDisk.{get-has}

module _ {D : Type 0} (members : disk.Ghosts D) (s : EquipmentView) (input : Input ToolCommand) (now : ℕ) where
  -- nothing is begun where no system bytes are left
  spent-at-once : reserving s ≡ Spent (at_first s) → act s input now ≡ Spent (settled_step (at_first s))
  spent-at-once is =
      ap (λ (w : Went EquipmentView Happening).
      and_then (settled_went (and_then w (parts_done (first_parts input now)))) (ended_step now)) is

  stands-still : carried_out s.node.own.ledger ≡ s.node.own.ledger → standing_in s ≡ standing_in (settled s)
  stands-still owes =
      ap (λ (works : List Work). record { next = next_of s.node.own.ledger; file = (standings_after stood works).file })
      (ap (λ (l : LedgerView). l.works) owes)
    where
      stood : Standing
      stood = record { next = (stood_count s.node.own.ledger).next; file = s.file }

  pub not-opened :
      (node new : Node OwnView Kind) (out : StepOut) (end : Ended D) → out.notes ≡ []
      → carried_out s.node.own.ledger ≡ s.node.own.ledger → Opens members s node (Err end)
      → Acts members s input now new out (Err end)
  not-opened node new out (ended.NumbersSpent spent) empty owes is after notes quiet = (
    record { step = settled_step (at_first s); is = spent-at-once is.0; notes = notes ∙ empty; quiet = quiet },
    λ t told. subst (λ (st : Standing). left.Holds st t.now)
        (stands-still owes
        ∙ ap (λ (w : Went EquipmentView Happening). standing_in (step_in w).next) (sym (spent-at-once is.0)))
        (is.1 t told),
  )
  not-opened node new out (ended.DiskFailed spent) empty owes is after notes quiet = (
    record {
      front = [];
      may = get-has (stops s input now) 0 [] front;
      first = record { rest = (step_in (act s input now)).notes; whole = refl };
      notes = notes ∙ empty;
      quiet = quiet;
    },
    λ t told.
        inl
        (record {
          place = 0;
          work = Reserve;
          is = ap (λ (works : List DiskWork). slice_get (works ++ works_behind (begun_step s input now)) 0) is.0;
          front = [];
          front_is = front;
          notes = notes ∙ empty;
          left = is.1 t told;
        }),
  )
    where
      front : slice_get (stops s input now) 0 ≡ Some []
      front =
          ap (λ (works : List DiskWork).
          slice_get
          (fronts_of [] (works ++ works_behind (begun_step s input now)) (step_in (begun_step s input now)).notes
          ++ unserved (begun_step s input now)) 0)
          is.0
  not-opened node new out (ended.NoMemory spent) empty owes is after notes quiet = absurd is
