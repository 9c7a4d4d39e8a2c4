-- How a step of the host with its journal comes out as one of an end with a file.
use Rattle.std.proofs.Common.{◌≡◌, refl, ap, subst, ◌∙◌, sym, ℕ, List, ◌++◌}
use Rattle.std.specs.Prelude.{Err}
use Rattle.disk_base.specs.MemDisk.{DiskState, HasFitted}
use Rattle.disk_base.specs.contracts.mem_disk.MemDiskDisk.TheImpl.{ghosts}
use Rattle.filed_end.specs.Breaking.{Breaks, HasMissedAt as FiledMissed, HasMoved as FiledMoved}
use Rattle.filed_end.specs.Breaking.{Moves as FiledMoves, Passes as FiledPasses}
use Rattle.journal_end.specs.Filed.{CanStep, IsMade, MayHold, ended_by, form}
use Rattle.journal_end.specs.declared.journal_end.JournalOnDisk.{JournalOnDisk}
use Rattle.journal_end.proofs.Left.{left-over}
use Rattle.journal_node.specs.declared.journal_host.JournalEnded.{JournalEnded}
use Rattle.journal_node.specs.declared.journal_host.JournalEnded.TheVariants as ended
use Rattle.journal_node.specs.Held.{HasMoved, Moves, disk_held, view_in}
use Rattle.journal_node.specs.Journal.{JournalView, act}
use Rattle.journal_node.specs.Stepping.{BreaksBy, CallsInStep, HasMissedAt, Passes}
use Rattle.journal_node.specs.Works.{losses}
use Rattle.journal_node.specs.Law.{DidOf}
use Rattle.journal_node.proofs.Lawful.{journal_lawful}
use Rattle.host_node.specs.Host.{end_plan}
use Rattle.message_end.specs.Core.{Step, Went}
use Rattle.message_end.specs.Core.Went.{Goes}
use Rattle.message_end.specs.Ends.{AreOfStep, DoesMore, DoesStep, Input, Loss, MayTake}
use Rattle.message_end.specs.InStep.{EndsOnce}
use Rattle.message_flow.specs.declared.step.Note.{Note}
use Rattle.message_flow.specs.declared.step.StepOut.{StepOut}
use Rattle.spool_works.proofs.LossCounts.{has-call}
use Rattle.trace_log.specs.declared.commands.HostCommand.{HostCommand}
use Rattle.trace_log.specs.Commands.{HostCommandFits}
use Rattle.trace_log.specs.Log.{Happening}

-- a step is of doings again
next-did :
    (s : JournalView) (made : IsMade s) (input : Input HostCommand) (now : ℕ) (step : Step JournalView Happening)
    → MayTake HostCommandFits input → act s input now ≡ Goes step
    → DoesMore (end_plan made.plan) (DidOf made.plan) made.base made.doings now (AreOfStep input now) EndsOnce step
next-did s made input now step may is =
    subst
    (λ (went : Went JournalView Happening).
    DoesStep (end_plan made.plan) (DidOf made.plan) made.base made.doings input now went)
    is
    ((journal_lawful made.plan s.file made.fits).goes_on made.base made.doings s input now made.did may)

module _ (end : JournalOnDisk) (can : CanStep ghosts end) (input : Input HostCommand) (now : ℕ) (out : StepOut) where
  abbrev s : JournalView
  s = view_in ghosts end.host

  abbrev some : List (Loss JournalView)
  some = losses s input now

  abbrev disk : DiskState
  disk = disk_held end.host

  pub moved : (next : JournalOnDisk) → MayTake HostCommandFits input → HasMoved ghosts end.host input now out next.host
      → HasFitted (disk_held next.host) → FiledMoved (form ghosts) (CanStep ghosts) end input now out next
  moved next may is fitted = record {
    gone = is.gone;
    can_step = record { on = is.in_state; made = subst IsMade is.gone.next_is made };
    plan_is =
        ap (λ (x : JournalView). x.node.own.plan) (sym is.gone.next_is) ∙ does.is.plan_is ∙ sym can.made.did.plan_is;
    fitted = fitted;
  }
    where
      does : DoesMore (end_plan can.made.plan) (DidOf can.made.plan) can.made.base can.made.doings now
          (AreOfStep input now) EndsOnce is.gone.step
      does = next-did s can.made input now is.gone.step may is.gone.is

      made : IsMade is.gone.step.next
      made = record {
        plan = can.made.plan;
        fits = can.made.fits;
        base = can.made.base;
        doings = does.done ++ can.made.doings;
        did = does.is;
      }

  pub ends : (why : JournalEnded DiskState) → Moves ghosts end.host input now out (Err why)
      → FiledMoves (form ghosts) (CanStep ghosts) end input now out (Err (ended_by why))
  ends (ended.NoMemory spent) is = is.0
  ends (ended.DiskFailed spent) is = is.0
  ends (ended.NumbersSpent spent) is = (is.0, is.1)
  ends (ended.JournalFull spent) is = (is.0, is.1)

  pub passes : (new : DiskState) → Passes ghosts disk some new → FiledPasses ghosts disk some new
  passes new is = record { made = is.made; sized = is.sized; are = is.are }

  missed : (new : DiskState) (notes : List Note) → HasMissedAt ghosts disk new some notes
      → FiledMissed ghosts disk new some notes
  missed new notes is = record {
    first = is.first;
    loss = is.loss;
    rest = is.rest;
    are = is.are;
    noted = is.noted;
    made = is.made;
    sized = is.sized;
    listed = is.listed;
  }

  pub breaks : (why : JournalEnded DiskState) → BreaksBy ghosts end.host input now out.notes (Err why)
      → CallsInStep ghosts end.host input now (Err why)
      → Breaks (form ghosts) ghosts MayHold end some out.notes (Err (ended_by why))
  breaks (ended.NoMemory spent) is calls = tt
  breaks (ended.NumbersSpent spent) is calls = passes spent.disk is
  breaks (ended.JournalFull spent) is calls = passes spent.disk is
  breaks (ended.DiskFailed spent) is calls = record {
    breaks = λ goes images stopped.
        let at = is.0 goes spent.disk.story refl images stopped in
        record {
          loss = at.loss;
          is = at.is;
          left = at.left;
          over = left-over s can.on.version_is input now at.loss (has-call disk.plan.stop_in some at.loss at.is);
          noted = at.noted;
        };
    missed = missed spent.disk out.notes is.1;
    calls = _;
    failed = calls;
  }
