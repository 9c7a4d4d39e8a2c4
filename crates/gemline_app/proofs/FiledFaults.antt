-- Each fault of a run of an end that keeps a file, over a link, is the outcome.
use Rattle.std.proofs.Common.{◌≡◌, ◌⊎◌, ℕ, Bool, List, Option, Some, refl, sym, ap, subst, inl, inr}
use Rattle.command_words.specs.Asked.{Asked, Equipment, JournalHost}
use Rattle.disk_base.specs.Story.{Story}
use Rattle.end_run.specs.Counts.{Counts, CountsNone, Device}
use Rattle.end_run.specs.Scenes.{StopAt}
use Rattle.end_run.specs.Script.{ScriptLine}
use Rattle.end_run.specs.declared.ending.Ending.{Ending as RunEnding}
use Rattle.end_run.specs.declared.ending.Ending.TheVariants as ending
use Rattle.equipment_tables.specs.declared.plan.Plans.{Plans}
use Rattle.gl_base.specs.Faults.{Rose}
use Rattle.gl_base.specs.Told.{FilesTold, SinkTold, SourceTold}
use Rattle.journal_link.specs.Linked.{HoldsLeft as HoldsJournal}
use Rattle.spool_show.specs.Told.{DiskTold}
use Rattle.gemline_app.specs.Equipment.{EquipmentComes, HoldsLeft as HoldsSpool, tool}
use Rattle.gemline_app.specs.Filed.{Filed, FiledComes, FileRuns, StartRefuses, bytes_told, counted_after, counted_before}
use Rattle.gemline_app.specs.Journal.{JournalComes, journal_host}
use Rattle.gemline_app.specs.Laws.{CountsFaults, IsCounted, MayFailToo}
use Rattle.gemline_app.specs.LinkTold.{LinkTold}
use Rattle.gemline_app.specs.Linked.{IsIdle, outcome_with}
use Rattle.gemline_app.specs.Words.{script_limit}
use Rattle.gemline_app.specs.declared.outcome.FileRole.TheVariants as role
use Rattle.gemline_app.specs.declared.outcome.Outcome.{Outcome}
use Rattle.gemline_app.specs.declared.outcome.Outcome.TheVariants.{Done, Usage, BadFrame, BadText, BadHex, BadItem, BadLine, Longer, FileLonger, FileFailed, ReadFailed, NoMemory, WriteFailed, TurnsSpent, NumbersSpent, Slip, DiskFailed, NotSpool, BadPlan, BadScript, LinkFailed, JournalFull}
use Rattle.gemline_app.proofs.InputFaults.{CountsAll, IsPlain, file_refused, link_stands, plan_plain, source_stands, unread_counts, untouched}
use Rattle.gemline_app.proofs.LinkFaults.{all_told, filed_only, idle_counts, linked_only, script_plain}
use Rattle.gemline_app.proofs.SpoolDue.{rose_of}

-- the command that runs it, where its output may fail beside its disk
module _ {P S C : Type 0} (filed : Filed P S C) (HoldsLeft : S → Option (StopAt S C) → Option Story → Type 0)
    (full_plain : IsPlain filed.full) (asked : Option Asked) (may : MayFailToo asked DiskFailed)
    (source : SourceTold) (files : FilesTold) (disk : DiskTold) (link : LinkTold) (out : SinkTold)
  where
    module _ (read : source.health_after.faults ≡ source.health.faults)
        (file : files.health_after.faults ≡ files.health.faults)
      where
        abbrev CountsSo : Outcome → Type 0
        CountsSo outcome = CountsFaults asked source files disk link out outcome

        -- a start that is refused
        start_counts : (outcome : Outcome) → StartRefuses filed.break_in (bytes_told disk) outcome → IsIdle link out
            → CountsSo outcome
        start_counts (NotSpool at) refuses idle = record {
          read = read;
          file = file;
          on_disk = refuses.0;
          on_link = link_stands link idle.uncalled;
          write = inl (untouched out idle.written);
        }
        start_counts NumbersSpent refuses idle = record {
          read = read;
          file = file;
          on_disk = refuses.0;
          on_link = link_stands link idle.uncalled;
          write = inl (untouched out idle.written);
        }
        start_counts DiskFailed refuses idle = record {
          read = read;
          file = file;
          on_disk = rose_of refuses.0;
          on_link = link_stands link idle.uncalled;
          write = inl (untouched out idle.written);
        }
        start_counts NoMemory refuses idle = record {
          read = read;
          file = file;
          on_disk = refuses.0;
          on_link = link_stands link idle.uncalled;
          write = inl (untouched out idle.written);
        }
        start_counts Done refuses idle = absurd refuses
        start_counts Usage refuses idle = absurd refuses
        start_counts (BadFrame named) refuses idle = absurd refuses
        start_counts (BadText at) refuses idle = absurd refuses
        start_counts (BadHex at) refuses idle = absurd refuses
        start_counts (BadItem fault) refuses idle = absurd refuses
        start_counts (BadLine number) refuses idle = absurd refuses
        start_counts Longer refuses idle = absurd refuses
        start_counts (FileLonger which) refuses idle = absurd refuses
        start_counts (FileFailed which) refuses idle = absurd refuses
        start_counts ReadFailed refuses idle = absurd refuses
        start_counts WriteFailed refuses idle = absurd refuses
        start_counts TurnsSpent refuses idle = absurd refuses
        start_counts Slip refuses idle = absurd refuses
        start_counts (BadPlan key what) refuses idle = absurd refuses
        start_counts (BadScript number) refuses idle = absurd refuses
        start_counts LinkFailed refuses idle = absurd refuses
        start_counts JournalFull refuses idle = absurd refuses

        -- no fault of link, output or disk
        none_counts : (outcome : Outcome) → IsPlain outcome
            → CountsNone (counted_before (bytes_told disk) link out) (counted_after (bytes_told disk) link out)
            → CountsSo outcome
        none_counts outcome plain (on_link, write, on_disk) = record {
          read = subst (λ (b : Bool). IsCounted b source.health.faults source.health_after.faults) (sym plain.read) read;
          file = subst (λ (b : Bool). IsCounted b files.health.faults files.health_after.faults) (sym plain.file) file;
          on_disk = subst (λ (b : Bool). IsCounted b disk.health.faults disk.health_after.faults) (sym plain.on_disk)
              (ap (λ (d : Device (Unit {0})). d.faults) on_disk);
          on_link = subst (λ (b : Bool). IsCounted b link.health.faults link.health_after.faults) (sym plain.on_link)
              on_link;
          write = inl (subst (λ (b : Bool). IsCounted b out.health.faults out.health_after.faults) (sym plain.write) write);
        }

        -- the output may have failed as well
        written_too : (out.health_after.faults ≡ out.health.faults) ⊎ Rose out.health.faults out.health_after.faults
            → (out.health_after.faults ≡ out.health.faults)
            ⊎ (MayFailToo asked DiskFailed × Rose out.health.faults out.health_after.faults)
        written_too (inl same) = inl same
        written_too (inr rose) = inr (may, rose)

        ending_counts :
            (how : RunEnding)
            → Counts (counted_before (bytes_told disk) link out) (counted_after (bytes_told disk) link out) (Some how)
            → CountsSo (outcome_with filed.full how)
        ending_counts ending.Stopped counts =
            none_counts Done (record { read = refl; file = refl; on_disk = refl; on_link = refl; write = refl }) counts
        ending_counts ending.Closed counts =
            none_counts Done (record { read = refl; file = refl; on_disk = refl; on_link = refl; write = refl }) counts
        ending_counts ending.Turns counts =
            none_counts TurnsSpent (record { read = refl; file = refl; on_disk = refl; on_link = refl; write = refl })
            counts
        ending_counts ending.NumbersSpent counts =
            none_counts NumbersSpent (record { read = refl; file = refl; on_disk = refl; on_link = refl; write = refl })
            counts
        ending_counts ending.Full counts = none_counts filed.full full_plain counts
        ending_counts ending.NoMemory counts =
            none_counts NoMemory (record { read = refl; file = refl; on_disk = refl; on_link = refl; write = refl }) counts
        ending_counts ending.DiskFailed counts = record {
          read = read;
          file = file;
          on_disk = counts.2.rose;
          on_link = counts.0;
          write = written_too counts.1;
        }
        ending_counts ending.LinkFailed counts = record {
          read = read;
          file = file;
          on_disk = ap (λ (d : Device (Unit {0})). d.faults) counts.2;
          on_link = counts.0;
          write = inl counts.1;
        }
        ending_counts ending.WriteFailed counts = record {
          read = read;
          file = file;
          on_disk = ap (λ (d : Device (Unit {0})). d.faults) counts.2;
          on_link = counts.0;
          write = inl counts.1;
        }

        file_counts :
            (plan : P) (name : List ℕ) (lines : List ScriptLine) (polls : ℕ) (outcome : Outcome)
            → FileRuns filed HoldsLeft plan name lines polls disk link out outcome → CountsSo outcome
        file_counts plan name lines polls outcome (inl none) =
            subst CountsSo (sym none.outcome_is) (record {
              read = read;
              file = file;
              on_disk = rose_of none.rose;
              on_link = link_stands link none.idle.uncalled;
              write = inl (untouched out none.idle.written);
            })
        file_counts plan name lines polls outcome (inr (is, inl (refuses, idle))) = start_counts outcome refuses idle
        file_counts plan name lines polls outcome (inr (is, inr was)) =
            subst CountsSo (sym was.outcome_is) (ending_counts was.ended was.counts)

    module _ (plan_of : Plans → P) (plan name : List ℕ) (polls : ℕ) (outcome : Outcome) where
      all : CountsAll source files disk link out outcome → CountsFaults asked source files disk link out outcome
      all counts = all_told asked source files disk link out outcome counts

      filed_counts : FiledComes filed HoldsLeft plan_of plan name polls source files disk link out outcome
          → CountsFaults asked source files disk link out outcome
      filed_counts (inl (inl refuses, unread, idle)) =
          all (filed_only source files disk link out plan polls outcome idle.0 unread idle.1.uncalled
          (file_refused role.Plan plan files out (untouched out idle.1.written) outcome refuses))
      filed_counts (inl (inr bad, unread, idle)) =
          all (linked_only source files disk link out plan polls outcome idle.0 (source_stands source unread)
          bad.read.cause.same
          (idle_counts link out outcome (subst IsPlain (sym bad.refused) (plan_plain bad.fault)) idle.1))
      filed_counts (inr (plans, are, inl (refuses, idle))) =
          all (unread_counts source files disk link out script_limit
          (record {
            file = are.read.cause.same;
            on_disk = idle.0.faults;
            on_link = link_stands link idle.1.uncalled;
          })
          (untouched out idle.1.written) outcome refuses)
      filed_counts (inr (plans, are, inr (text, read, runs))) = elim runs.because [
        | inl (lines, is, was) ↦
            file_counts read.cause.same are.read.cause.same (plan_of plans) name lines polls outcome was
        | inr (fault, refuses, is, idle) ↦
            all (linked_only source files disk link out plan polls outcome idle.0 read.cause.same are.read.cause.same
            (idle_counts link out outcome (subst IsPlain (sym is) (script_plain fault)) idle.1))
      ]

-- ---- the equipment's, and that of the host with a journal

module _ (source : SourceTold) (files : FilesTold) (disk : DiskTold) (link : LinkTold) (out : SinkTold)
    (plan address name : List ℕ) (polls : ℕ) (outcome : Outcome)
  where
    pub equipment_counts : EquipmentComes plan name polls source files disk link out outcome
        → CountsFaults (Some (Equipment plan address name polls)) source files disk link out outcome
    equipment_counts comes =
        filed_counts tool HoldsSpool
        (record { read = refl; file = refl; on_disk = refl; on_link = refl; write = refl })
        (Some (Equipment plan address name polls)) refl source files disk link out (λ plans. plans.equipment) plan name
        polls outcome comes

    pub journal_counts : JournalComes plan name polls source files disk link out outcome
        → CountsFaults (Some (JournalHost plan address name polls)) source files disk link out outcome
    journal_counts comes =
        filed_counts journal_host HoldsJournal
        (record { read = refl; file = refl; on_disk = refl; on_link = refl; write = refl })
        (Some (JournalHost plan address name polls)) refl source files disk link out (λ plans. plans.host) plan name
        polls outcome comes
