-- What an end that keeps a file answers whose plan and script mean something, over bytes that break nowhere.
use Rattle.std.proofs.Common.{◌≡◌, ℕ, List, Option, Some, None, refl, sym, subst, inl, inr}
use Rattle.command_words.specs.Asked.{Asked, Equipment, JournalHost}
use Rattle.disk_base.specs.Story.{Story}
use Rattle.gl_base.specs.Told.{FilesTold, SinkTold, SourceTold}
use Rattle.equipment_tables.specs.declared.plan.Plans.{Plans}
use Rattle.spool_show.specs.Told.{DiskTold}
use Rattle.end_run.specs.Counts.{Counts}
use Rattle.end_run.specs.Scenes.{StopAt}
use Rattle.end_run.specs.Script.{ScriptLine}
use Rattle.end_run.specs.declared.ending.Ending.{Ending}
use Rattle.end_run.specs.declared.ending.Ending.TheVariants as ending
use Rattle.journal_link.specs.Linked.{HoldsLeft as HoldsJournal}
use Rattle.gemline_app.specs.Equipment.{HoldsLeft as HoldsSpool, tool}
use Rattle.gemline_app.specs.Filed.{Filed, FiledComes, FileRuns, IsAllIdle, StartRefuses, bytes_told, counted_after, counted_before}
use Rattle.gemline_app.specs.Gemline.{RunComes}
use Rattle.gemline_app.specs.Journal.{journal_host}
use Rattle.gemline_app.specs.Laws.{EquipmentsAreAnswered, IsAnswered, IsGiven, IsJournalAnswered, JournalHostsAreAnswered}
use Rattle.gemline_app.specs.LinkTold.{LinkTold}
use Rattle.gemline_app.specs.Linked.{outcome_with}
use Rattle.gemline_app.specs.declared.outcome.Outcome.{Outcome}
use Rattle.gemline_app.specs.declared.outcome.Outcome.TheVariants.{Done, Usage, BadFrame, BadText, BadHex, BadItem, BadLine, Longer, FileLonger, FileFailed, ReadFailed, NoMemory, WriteFailed, TurnsSpent, NumbersSpent, Slip, DiskFailed, NotSpool, BadPlan, BadScript, LinkFailed, JournalFull}
use Rattle.gemline_app.proofs.FiledDue.{no_break}
use Rattle.gemline_app.proofs.LinkedAnswered.{Answered, linked_answered}
use Rattle.gemline_app.proofs.ReplayDue.{hindered}
use Rattle.gemline_app.proofs.SpoolDue.{rose_of}

module _ {P S C : Type 0} (filed : Filed P S C) (HoldsLeft : S → Option (StopAt S C) → Option Story → Type 0)
    (Good : Outcome → Type 0) (done : Good Done) (turns : Good TurnsSpent) (numbers : Good NumbersSpent)
    (source : SourceTold) (files : FilesTold) (disk : DiskTold) (link : LinkTold) (out : SinkTold)
  where
    abbrev AnsweredSo : Outcome → Type 0
    AnsweredSo outcome = Answered source files disk link out Good outcome

    module _ (full : AnsweredSo filed.full) (s : Story) (told : disk.before ≡ Some s)
        (sound : filed.break_in s.now.bytes ≡ None)
      where
        by_ending :
            (how : Ending)
            → Counts (counted_before (bytes_told disk) link out) (counted_after (bytes_told disk) link out) (Some how)
            → AnsweredSo (outcome_with filed.full how)
        by_ending ending.Stopped counts = inl done
        by_ending ending.Closed counts = inl done
        by_ending ending.Turns counts = inl turns
        by_ending ending.NumbersSpent counts = inl numbers
        by_ending ending.Full counts = full
        by_ending ending.DiskFailed counts = inr counts.2.rose
        by_ending ending.LinkFailed counts = inr counts.0
        by_ending ending.WriteFailed counts = inr counts.1
        by_ending ending.NoMemory counts = inr tt

        by_start : (outcome : Outcome) → StartRefuses filed.break_in (bytes_told disk) outcome → AnsweredSo outcome
        by_start (NotSpool at) refuses = absurd (no_break (filed.break_in s.now.bytes) at (refuses.1 s told).0 sound)
        by_start NumbersSpent refuses = inl numbers
        by_start DiskFailed refuses = inr (rose_of refuses.0)
        by_start NoMemory refuses = inr tt
        by_start Done refuses = absurd refuses
        by_start Usage refuses = absurd refuses
        by_start (BadFrame named) refuses = absurd refuses
        by_start (BadText at) refuses = absurd refuses
        by_start (BadHex at) refuses = absurd refuses
        by_start (BadItem fault) refuses = absurd refuses
        by_start (BadLine number) refuses = absurd refuses
        by_start Longer refuses = absurd refuses
        by_start (FileLonger which) refuses = absurd refuses
        by_start (FileFailed which) refuses = absurd refuses
        by_start ReadFailed refuses = absurd refuses
        by_start WriteFailed refuses = absurd refuses
        by_start TurnsSpent refuses = absurd refuses
        by_start Slip refuses = absurd refuses
        by_start (BadPlan key what) refuses = absurd refuses
        by_start (BadScript number) refuses = absurd refuses
        by_start LinkFailed refuses = absurd refuses
        by_start JournalFull refuses = absurd refuses

        ran : (plan : P) (file : List ℕ) (lines : List ScriptLine) (polls : ℕ) (outcome : Outcome)
            → FileRuns filed HoldsLeft plan file lines polls disk link out outcome → AnsweredSo outcome
        ran plan file lines polls outcome (inl none) =
            subst AnsweredSo (sym none.outcome_is) (inr (rose_of none.rose))
        ran plan file lines polls outcome (inr (is, inl (refuses, idle))) = by_start outcome refuses
        ran plan file lines polls outcome (inr (is, inr was)) =
            subst AnsweredSo (sym was.outcome_is) (by_ending was.ended was.counts)

        filed_answered :
            (plan_of : Plans → P) (plan file : List ℕ) (polls : ℕ) (outcome : Outcome)
            → IsGiven filed.side plan source files
            → FiledComes filed HoldsLeft plan_of plan file polls source files disk link out outcome → AnsweredSo outcome
        filed_answered plan_of plan file polls outcome given comes =
            linked_answered source files disk link out Good done filed.side (IsAllIdle disk link out)
            (λ (plans : Plans) (lines : List ScriptLine).
            FileRuns filed HoldsLeft (plan_of plans) file lines polls disk link out outcome)
            outcome (λ plans lines was. ran (plan_of plans) file lines polls outcome was) plan given comes

equipment_answered :
    (source : SourceTold) (files : FilesTold) (disk : DiskTold) (link : LinkTold) (out : SinkTold) (s : Story)
    → disk.before ≡ Some s → tool.break_in s.now.bytes ≡ None
    → (plan address spool : List ℕ) (polls : ℕ) (outcome : Outcome) → IsGiven tool.side plan source files
    → RunComes (Some (Equipment plan address spool polls)) source files disk link out outcome
    → Answered source files disk link out IsAnswered outcome
equipment_answered source files disk link out s told sound plan address spool polls outcome given (inl memory) =
    inr (hindered source files disk link out outcome memory.refused)
equipment_answered source files disk link out s told sound plan address spool polls outcome given
    (inr (comes, connects, tells)) =
    filed_answered tool HoldsSpool IsAnswered (inl refl) (inr (inl refl)) (inr (inr refl)) source files disk link out
    (inr tt) s told sound (λ plans. plans.equipment) plan spool polls outcome given comes

pub equipments_answered : EquipmentsAreAnswered
equipments_answered words source files disk link out err status plan address spool polls run asks given s told sound =
    equipment_answered source files disk link out s told sound plan address spool polls run.outcome given
    (subst (λ (asked : Option Asked). RunComes asked source files disk link out run.outcome) asks run.comes)

journal_answered :
    (source : SourceTold) (files : FilesTold) (disk : DiskTold) (link : LinkTold) (out : SinkTold) (s : Story)
    → disk.before ≡ Some s → journal_host.break_in s.now.bytes ≡ None
    → (plan address journal : List ℕ) (polls : ℕ) (outcome : Outcome) → IsGiven journal_host.side plan source files
    → RunComes (Some (JournalHost plan address journal polls)) source files disk link out outcome
    → Answered source files disk link out IsJournalAnswered outcome
journal_answered source files disk link out s told sound plan address journal polls outcome given (inl memory) =
    inr (hindered source files disk link out outcome memory.refused)
journal_answered source files disk link out s told sound plan address journal polls outcome given
    (inr (comes, connects, tells)) =
    filed_answered journal_host HoldsJournal IsJournalAnswered (inl (inl refl)) (inl (inr (inl refl)))
    (inl (inr (inr refl))) source files disk link out (inl (inr refl)) s told sound (λ plans. plans.host) plan journal
    polls outcome given comes

pub journal_hosts_answered : JournalHostsAreAnswered
journal_hosts_answered words source files disk link out err status plan address journal polls run asks given s told
    sound =
    journal_answered source files disk link out s told sound plan address journal polls run.outcome given
    (subst (λ (asked : Option Asked). RunComes asked source files disk link out run.outcome) asks run.comes)
