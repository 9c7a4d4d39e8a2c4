-- Each fault of a run of an end without a disk over a link is the outcome.
use Rattle.std.proofs.Common.{◌≡◌, ◌≢◌, ℕ, Bool, false, List, Option, Some, refl, sym, subst, inl, inr}
use Rattle.command_words.specs.Asked.{Asked}
use Rattle.gl_base.specs.Told.{FilesTold, SinkTold, SourceTold}
use Rattle.gl_base.specs.declared.side.Side.TheVariants as side
use Rattle.line_schedule.specs.declared.schedule.ScheduleFault.{ScheduleFault}
use Rattle.line_schedule.specs.declared.schedule.ScheduleFault.TheVariants as schedule_fault
use Rattle.line_end.specs.declared.plan.HostPlan.{HostPlan}
use Rattle.message_end.specs.Ends.{Asked as Room}
use Rattle.message_end.specs.Parts.{Node}
use Rattle.host_node.specs.Host.{HostOwn, Kind}
use Rattle.trace_log.specs.declared.commands.HostCommand.{HostCommand}
use Rattle.end_run.specs.Acts.{Act}
use Rattle.end_run.specs.Outcome.{Does, Made}
use Rattle.end_run.specs.Scenes.{StopAt}
use Rattle.end_run.specs.Script.{ScriptLine}
use Rattle.end_run.specs.declared.ending.Ending.{Ending as RunEnding}
use Rattle.end_run.specs.declared.ending.Ending.TheVariants as ending
use Rattle.spool_show.specs.Told.{DiskTold}
use Rattle.gemline_app.specs.Host.{HostComes, WasRun}
use Rattle.gemline_app.specs.LinkTold.{IsUncalled, LinkTold}
use Rattle.gemline_app.specs.Linked.{IsIdle, ScriptRuns, after_run, before_run, outcome_of_ending, script_refusal}
use Rattle.gemline_app.specs.Spool.{IsUnused}
use Rattle.gemline_app.proofs.InputFaults.{CountsAll, CountsFiles, IsPlain, file_refused, link_stands, plan_plain, source_stands, unread_counts, untouched}
use Rattle.gemline_app.specs.Inputs.{IsUnread}
use Rattle.gemline_app.specs.Laws.{CountsFaults, IsCounted, is_disk_fault, is_file_fault, is_link_fault, is_read_fault, is_write_fault}
use Rattle.gemline_app.specs.Words.{script_limit}
use Rattle.gemline_app.specs.declared.outcome.FileRole.TheVariants as role
use Rattle.gemline_app.specs.declared.outcome.Outcome.{Outcome}
use Rattle.gemline_app.specs.declared.outcome.Outcome.TheVariants.{Done, NoMemory, NumbersSpent, TurnsSpent}

-- ---- the host's end

-- what a run over a link came to: no fault of the input, of a file or of the disk
pub record CountsLink (link : LinkTold) (out : SinkTold) (outcome : Outcome) : Type 0 where
  pub read : is_read_fault outcome ≡ false
  pub file : is_file_fault outcome ≡ false
  pub on_disk : is_disk_fault outcome ≡ false
  pub on_link : IsCounted (is_link_fault outcome) link.health.faults link.health_after.faults
  pub write : IsCounted (is_write_fault outcome) out.health.faults out.health_after.faults

-- all of a run was made, or a part of it for want of memory: no fault was counted
made_counts : (link : LinkTold) (out : SinkTold) (host left : Node HostOwn Kind) (room : Room)
    (stop : Option (StopAt (Node HostOwn Kind) HostCommand))
    (acts : List (Act (Node HostOwn Kind) HostCommand)) (outcome : Outcome) → IsPlain outcome
    → Made (before_run link out host) (after_run link out left room stop) acts → CountsLink link out outcome
made_counts link out host left room stop acts outcome plain made = record {
  read = plain.read;
  file = plain.file;
  on_disk = plain.on_disk;
  on_link = subst (λ (b : Bool). IsCounted b link.health.faults link.health_after.faults) (sym plain.on_link)
      made.carried.same;
  write = subst (λ (b : Bool). IsCounted b out.health.faults out.health_after.faults) (sym plain.write)
      made.wrote.health.same;
}

by_run : (link : LinkTold) (out : SinkTold) (host left : Node HostOwn Kind) (room : Room)
    (stop : Option (StopAt (Node HostOwn Kind) HostCommand))
    (how : Option RunEnding) (acts : List (Act (Node HostOwn Kind) HostCommand)) (ended : RunEnding)
    → ended ≢ ending.DiskFailed
    → Does (before_run link out host) (after_run link out left room stop) how acts (Some ended)
    → CountsLink link out (outcome_of_ending ended)
by_run link out host left room stop how acts ending.Stopped none (at, did) =
    made_counts link out host left room stop acts Done
    (record { read = refl; file = refl; on_disk = refl; on_link = refl; write = refl }) did.made
by_run link out host left room stop how acts ending.Closed none (at, did) =
    made_counts link out host left room stop acts Done
    (record { read = refl; file = refl; on_disk = refl; on_link = refl; write = refl }) did.made
by_run link out host left room stop how acts ending.Turns none (at, did) =
    made_counts link out host left room stop acts TurnsSpent
    (record { read = refl; file = refl; on_disk = refl; on_link = refl; write = refl }) did.made
by_run link out host left room stop how acts ending.NumbersSpent none (at, made, spent) =
    made_counts link out host left room stop acts NumbersSpent
    (record { read = refl; file = refl; on_disk = refl; on_link = refl; write = refl }) made
by_run link out host left room stop how acts ending.Full none (at, made, full) =
    made_counts link out host left room stop acts NoMemory
    (record { read = refl; file = refl; on_disk = refl; on_link = refl; write = refl }) made
by_run link out host left room stop how acts ending.DiskFailed none fails = absurd (none refl)
by_run link out host left room stop how acts ending.LinkFailed none fails =
    record { read = refl; file = refl; on_disk = refl; on_link = fails.fault.rose; write = fails.wrote.health.same }
by_run link out host left room stop how acts ending.WriteFailed none fails =
    record { read = refl; file = refl; on_disk = refl; on_link = fails.carried.same; write = fails.fault.rose }
by_run link out host left room stop how acts ending.NoMemory none part =
    made_counts link out host left room stop part.done NoMemory
    (record { read = refl; file = refl; on_disk = refl; on_link = refl; write = refl }) part.made

ran_counts : (plan : HostPlan) (lines : List ScriptLine) (polls : ℕ) (link : LinkTold) (out : SinkTold)
    (outcome : Outcome) → WasRun plan lines polls link out outcome → CountsLink link out outcome
ran_counts plan lines polls link out outcome was =
    subst (CountsLink link out) (sym was.outcome_is)
    (by_run link out _ was.left was.room was.stop _ _ was.ended was.no_disk was.runs.runs)

-- a refusal is no fault of an object, and none was touched
pub idle_counts : (link : LinkTold) (out : SinkTold) (outcome : Outcome) → IsPlain outcome → IsIdle link out
    → CountsLink link out outcome
idle_counts link out outcome plain idle = record {
  read = plain.read;
  file = plain.file;
  on_disk = plain.on_disk;
  on_link = subst (λ (b : Bool). IsCounted b link.health.faults link.health_after.faults) (sym plain.on_link)
      (link_stands link idle.uncalled);
  write = subst (λ (b : Bool). IsCounted b out.health.faults out.health_after.faults) (sym plain.write)
      (untouched out idle.written);
}

pub script_plain : (fault : ScheduleFault) → IsPlain (script_refusal fault)
script_plain (schedule_fault.Line number) =
    record { read = refl; file = refl; on_disk = refl; on_link = refl; write = refl }
script_plain schedule_fault.NoMemory =
    record { read = refl; file = refl; on_disk = refl; on_link = refl; write = refl }

script_counts : (plan : HostPlan) (text : List ℕ) (polls : ℕ) (link : LinkTold) (out : SinkTold) (outcome : Outcome)
    → ScriptRuns side.Host (IsIdle link out) (λ lines. WasRun plan lines polls link out outcome) text outcome
    → CountsLink link out outcome
script_counts plan text polls link out outcome runs = elim runs.because [
  | inl (lines, is, was) ↦ ran_counts plan lines polls link out outcome was
  | inr (fault, refuses, is, idle) ↦
      idle_counts link out outcome (subst IsPlain (sym is) (script_plain fault)) idle
]

module _ (source : SourceTold) (files : FilesTold) (disk : DiskTold) (link : LinkTold) (out : SinkTold) (plan : List ℕ)
    (polls : ℕ) (outcome : Outcome) (unused : IsUnused disk) where
  -- the files and the disk stand
  pub linked_only : source.health_after.faults ≡ source.health.faults → files.health_after.faults ≡ files.health.faults
      → CountsLink link out outcome → CountsAll source files disk link out outcome
  linked_only read file counts = record {
    read = subst (λ (b : Bool). IsCounted b source.health.faults source.health_after.faults) (sym counts.read) read;
    file = subst (λ (b : Bool). IsCounted b files.health.faults files.health_after.faults) (sym counts.file) file;
    on_disk =
        subst (λ (b : Bool). IsCounted b disk.health.faults disk.health_after.faults) (sym counts.on_disk)
        unused.faults;
    on_link = counts.on_link;
    write = counts.write;
  }

  -- the input, the disk and the link stand
  pub filed_only : IsUnread source → IsUncalled link → CountsFiles files out outcome
      → CountsAll source files disk link out outcome
  filed_only unread uncalled counts = record {
    read = subst (λ (b : Bool). IsCounted b source.health.faults source.health_after.faults) (sym counts.read)
        (source_stands source unread);
    file = counts.file;
    on_disk =
        subst (λ (b : Bool). IsCounted b disk.health.faults disk.health_after.faults) (sym counts.on_disk)
        unused.faults;
    on_link = subst (λ (b : Bool). IsCounted b link.health.faults link.health_after.faults) (sym counts.on_link)
        (link_stands link uncalled);
    write = counts.write;
  }

  pub host_counts : HostComes plan polls source files link out outcome → CountsAll source files disk link out outcome
  host_counts (inl (inl refuses, unread, idle)) =
      filed_only unread idle.uncalled
      (file_refused role.Plan plan files out (untouched out idle.written) outcome refuses)
  host_counts (inl (inr bad, unread, idle)) =
      linked_only (source_stands source unread) bad.read.cause.same
      (idle_counts link out outcome (subst IsPlain (sym bad.refused) (plan_plain bad.fault)) idle)
  host_counts (inr (plans, are, inl (refuses, idle))) =
      unread_counts source files disk link out script_limit
      (record { file = are.read.cause.same; on_disk = unused.faults; on_link = link_stands link idle.uncalled })
      (untouched out idle.written) outcome refuses
  host_counts (inr (plans, are, inr (text, read, runs))) =
      linked_only read.cause.same are.read.cause.same (script_counts plans.host text polls link out outcome runs)

-- ---- any command's

module _ (asked : Option Asked) (source : SourceTold) (files : FilesTold) (disk : DiskTold) (link : LinkTold)
    (out : SinkTold) where
  pub all_told : (outcome : Outcome) → CountsAll source files disk link out outcome
      → CountsFaults asked source files disk link out outcome
  all_told outcome counts = record {
    read = counts.read;
    file = counts.file;
    on_disk = counts.on_disk;
    on_link = counts.on_link;
    write = inl counts.write;
  }
