-- The host with its journal as it is run over a link, and what came of it.
use Rattle.std.proofs.Common.{◌≡◌, sym, subst, ℕ, List, Option, Some, Err}
use Rattle.disk_base.specs.SameDisk.{IsSameDisk}
use Rattle.disk_base.specs.Story.{Story}
use Rattle.disk_base.specs.declared.disk.Disk as disk
use Rattle.end_run.specs.Outcome.{ComesOver, RunsOver}
use Rattle.end_run.specs.Script.{ScriptLine}
use Rattle.end_run.specs.declared.ending.Ending.{Ending}
use Rattle.gl_base.specs.Told.{SinkTold}
use Rattle.journal_link.proofs.Linking.{holds_left}
use Rattle.journal_link.specs.Linked.{HoldsOne, IsKnown, LeavesDevice, disk_in, linked_view}
use Rattle.journal_node.specs.Held.{Held, view_in}
use Rattle.journal_node.specs.Journal.{JournalView}
use Rattle.journal_node.specs.Starting.{Begins, FindsFile, StartHandsBack}
use Rattle.journal_node.specs.declared.journal_host.JournalStarting.{JournalStarting}
use Rattle.journal_node.specs.declared.journal_host.JournalStarting.TheVariants as starting
use Rattle.line_end.specs.declared.plan.HostPlan.{HostPlan}
use Rattle.message_end.specs.Core.{Step}
use Rattle.message_end.specs.Ends.{none_asked}
use Rattle.message_flow.specs.declared.step.StepOut.{StepOut}
use Rattle.spool_show.specs.Told.{disk_told}
use Rattle.spool_slots.specs.declared.states.Spent.{Spent}
use Rattle.trace_log.specs.Log.{Happening}
use Rattle.gemline_app.specs.Filed.{bytes_told}
use Rattle.gemline_app.specs.Journal.{RunsFrom, StartRefuses, journal_run, outcome_of_start, unstarted_disk}
use Rattle.gemline_app.specs.LinkTold.{LinkTold}
use Rattle.gemline_app.specs.Linked.{after_run, before_run}
use Rattle.gemline_app.specs.declared.outcome.Outcome.{Outcome}

module _ {D : Type 0} (members : disk.Ghosts D) where
  -- the run of one that goes on
  pub runs_from :
      (h : Held D) (start : Step JournalView Happening) → start.next ≡ view_in members h
      → (lines : List ScriptLine) (polls : ℕ) (going : Option (Held D)) (spent : Option (Spent D)) (d : D)
      → HoldsOne going spent → disk_in going spent ≡ Some d → (link : LinkTold) (out : SinkTold) (how : Ending)
      → ComesOver (IsKnown members) (LeavesDevice members) (record { going = going; spent = spent })
      (before_run link out (view_in members h))
      (λ halt. after_run link out (linked_view members going) none_asked halt)
      (journal_run start lines polls) how
      → RunsFrom start lines polls (members.told d) link out how
  runs_from h start next lines polls going spent d one is link out how (halt, so, over) = record {
    left = linked_view members going;
    room = none_asked;
    stop = halt;
    runs = subst
        (λ (s : JournalView). RunsOver (before_run link out s)
        (after_run link out (linked_view members going) none_asked halt) (journal_run start lines polls) how)
        (sym next) over;
    holds = holds_left members going spent d one is halt so;
  }

  -- ---- a start that is refused

  pub start_refuses :
      (plan : HostPlan) (old : D) (out : StepOut) (why : JournalStarting D)
      → ((s : Story) → members.told old ≡ Some s → Begins members plan s out (Err why))
      → ((s : Story) → members.told old ≡ Some s → FindsFile s (Err why)) → StartHandsBack members old (Err why)
      → StartRefuses (bytes_told (disk_told members old (unstarted_disk why))) (outcome_of_start why)
  start_refuses plan old out (starting.NotSpool raw place) begins finds back =
      (back.count, λ s told. ((begins s told).1.0, (begins s told).2))
  start_refuses plan old out (starting.NumbersSpent spent) begins finds back =
      (back.count, λ s told. (finds s told, (begins s told).1, (begins s told).2))
  start_refuses plan old out (starting.DiskFailed spent) begins finds back =
      (back.rose, λ s told. (begins s told).1)
  start_refuses plan old out (starting.NoMemory spent) begins finds back =
      (back.count, λ s told. (finds s told, (begins s told).1))

  pub refused_as :
      (old : D) (why : JournalStarting D) (outcome : Outcome) (d : D) → outcome ≡ outcome_of_start why
      → d ≡ unstarted_disk why
      → StartRefuses (bytes_told (disk_told members old (unstarted_disk why))) (outcome_of_start why)
      → StartRefuses (bytes_told (disk_told members old d)) outcome
  refused_as old why outcome d is same refuses =
      subst (λ (o : Outcome). StartRefuses (bytes_told (disk_told members old d)) o) (sym is)
      (subst (λ (x : D). StartRefuses (bytes_told (disk_told members old x)) (outcome_of_start why)) (sym same) refuses)

  start_same : (old : D) (why : JournalStarting D) → StartHandsBack members old (Err why)
      → IsSameDisk members old (unstarted_disk why)
  start_same old (starting.NotSpool raw place) back = back.same_disk
  start_same old (starting.NumbersSpent spent) back = back.same_disk
  start_same old (starting.DiskFailed spent) back = back.same_disk
  start_same old (starting.NoMemory spent) back = back.same_disk

  pub refused_same : (old : D) (why : JournalStarting D) (d : D) → d ≡ unstarted_disk why
      → StartHandsBack members old (Err why) → IsSameDisk members old d
  refused_same old why d same back =
      subst (λ (x : D). IsSameDisk members old x) (sym same) (start_same old why back)
