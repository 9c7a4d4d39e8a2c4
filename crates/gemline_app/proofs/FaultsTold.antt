-- Each fault of the input, the files, the disk and the output is the outcome.
use Rattle.std.proofs.Common.{◌≡◌, ℕ, Bool, false, List, Option, Some, None, refl, sym, subst, inl, inr}
use Rattle.command_words.specs.Asked.{Asked, Drop, Equipment, Format, Host, JournalHost, JournalReplay, Make, Replay, Show, Spell, SpellHex, Spool}
use Rattle.command_words.specs.Words.{asked_of}
use Rattle.gl_base.specs.Told.{FilesTold, SinkTold, SourceTold}
use Rattle.line_world.specs.Making.{MakesRounds}
use Rattle.end_pair.specs.declared.answers.RunEnd.{RunEnd}
use Rattle.end_pair.specs.declared.answers.RunEnd.TheVariants as end
use Rattle.spool_show.specs.Told.{DiskTold}
use Rattle.spool_drop.specs.Dropping.{DropsMessages, DropsOf}
use Rattle.spool_show.specs.Formatting.{FormatsSpool}
use Rattle.spool_show.specs.Showing.{ShowsFile, ShowsSpool}
use Rattle.spool_show.specs.declared.spool_end.SpoolEnd.{SpoolEnd}
use Rattle.spool_show.specs.declared.spool_end.SpoolEnd.TheVariants as spool
use Rattle.gemline_app.specs.LinkTold.{IsUncalled, LinkTold}
use Rattle.gemline_app.specs.Spool.{EndedAs, IsUnused, outcome_of_spool}
use Rattle.gemline_app.proofs.SpoolDue.{rose_of}
use Rattle.gemline_app.proofs.InputFaults.{CountsAll, CountsWrites, IsPlain, files_stand, input_counts, link_stands, others_stand, plain_counts, printed_counts, replay_counts, shown_counts, source_stands, spelled_counts, untouched, written_only}
use Rattle.gemline_app.proofs.FiledFaults.{equipment_counts, journal_counts}
use Rattle.gemline_app.proofs.LinkFaults.{all_told, host_counts}
use Rattle.gemline_app.specs.Gemline.{ComesFrom, IsRefused, IsRun, RunComes, WasPrinted, WasShown, WasSpelled}
use Rattle.gemline_app.specs.Inputs.{IsUnread}
use Rattle.gemline_app.specs.Laws.{CountsFaults, IsCounted, is_disk_fault, is_file_fault, is_link_fault, is_read_fault, is_write_fault}
use Rattle.gemline_app.specs.Make.{MakeComes, made_plans}
use Rattle.gemline_app.specs.Replay.{ReplayComes, outcome_of_end}
use Rattle.gemline_app.specs.Words.{capture_limit, item_limit}
use Rattle.gemline_app.specs.Written.{AreUnread}
use Rattle.gemline_app.specs.declared.outcome.Outcome.{Outcome}
use Rattle.gemline_app.specs.declared.outcome.Outcome.TheVariants.{Usage, NoMemory}

-- ---- a word about a spool file

-- no fault of the input or of a file
record CountsDisk (disk : DiskTold) (out : SinkTold) (outcome : Outcome) : Type 0 where
  read : is_read_fault outcome ≡ false
  file : is_file_fault outcome ≡ false
  on_link : is_link_fault outcome ≡ false
  on_disk : IsCounted (is_disk_fault outcome) disk.health.faults disk.health_after.faults
  write : IsCounted (is_write_fault outcome) out.health.faults out.health_after.faults

by_making : (name : List ℕ) (slots : ℕ) (disk : DiskTold) (out : SinkTold) (ended : SpoolEnd)
    → FormatsSpool name slots disk out ended → CountsDisk disk out (outcome_of_spool ended)
by_making name slots disk out spool.Done was =
    record { read = refl; file = refl; on_disk = was.cause.same; on_link = refl; write = was.made.1.health.same }
by_making name slots disk out (spool.NotSpool place) was = absurd was.made.1
by_making name slots disk out spool.DiskFailed was =
    record { read = refl; file = refl; on_disk = rose_of was.cause.rose; on_link = refl; write = was.made.health.same }
by_making name slots disk out spool.WriteFailed was =
    record { read = refl; file = refl; on_disk = was.cause.same; on_link = refl; write = was.made.1.fault.rose }

by_listing : (disk : DiskTold) (out : SinkTold) (ended : SpoolEnd) → ShowsFile disk out ended
    → CountsDisk disk out (outcome_of_spool ended)
by_listing disk out spool.Done was =
    record { read = refl; file = refl; on_disk = was.count; on_link = refl; write = was.written.1.1.health.same }
by_listing disk out (spool.NotSpool place) was =
    record { read = refl; file = refl; on_disk = was.count; on_link = refl; write = was.written.0.health.same }
by_listing disk out spool.DiskFailed was =
    record { read = refl; file = refl; on_disk = rose_of was.count; on_link = refl; write = was.written.1.health.same }
by_listing disk out spool.WriteFailed was =
    record { read = refl; file = refl; on_disk = was.count; on_link = refl; write = was.written.1.1.fault.rose }

by_dropping : (count : ℕ) (disk : DiskTold) (out : SinkTold) (ended : SpoolEnd) → DropsOf count disk out ended
    → CountsDisk disk out (outcome_of_spool ended)
by_dropping count disk out spool.Done was =
    record { read = refl; file = refl; on_disk = was.count_is; on_link = refl; write = was.left.written.health.same }
by_dropping count disk out (spool.NotSpool place) was =
    record { read = refl; file = refl; on_disk = was.count_is; on_link = refl; write = was.left.0.health.same }
by_dropping count disk out spool.DiskFailed was =
    record { read = refl; file = refl; on_disk = rose_of was.count_is; on_link = refl; write = was.left.0.health.same }
by_dropping count disk out spool.WriteFailed was =
    record { read = refl; file = refl; on_disk = was.count_is; on_link = refl; write = was.left.written.fault.rose }

spool_counts : (source : SourceTold) (files : FilesTold) (disk : DiskTold) (link : LinkTold) (out : SinkTold)
    (outcome : Outcome)
    (Ends : SpoolEnd → Type 0) → IsUnread source → AreUnread files → IsUncalled link
    → ((ended : SpoolEnd) → Ends ended → CountsDisk disk out (outcome_of_spool ended)) → EndedAs Ends outcome
    → CountsAll source files disk link out outcome
spool_counts source files disk link out outcome Ends unread files_unread uncalled each was =
    let counts = subst (CountsDisk disk out) (sym was.outcome_is) (each was.ended was.ends) in
    record {
      read = subst (λ (b : Bool). IsCounted b source.health.faults source.health_after.faults) (sym counts.read)
          (source_stands source unread);
      file = subst (λ (b : Bool). IsCounted b files.health.faults files.health_after.faults) (sym counts.file)
          (files_stand files files_unread);
      on_disk = counts.on_disk;
      on_link = subst (λ (b : Bool). IsCounted b link.health.faults link.health_after.faults) (sym counts.on_link)
          (link_stands link uncalled);
      write = counts.write;
    }

-- ---- made rounds

rounds_count : (out : SinkTold) (rounds : ℕ) (ended : RunEnd) → MakesRounds out made_plans rounds ended
    → CountsWrites out (outcome_of_end ended)
rounds_count out rounds end.Whole (at, wrote) =
    record { read = refl; file = refl; on_disk = refl; on_link = refl; write = wrote.health.same }
rounds_count out rounds end.Slip (at, wrote) =
    record { read = refl; file = refl; on_disk = refl; on_link = refl; write = wrote.health.same }
rounds_count out rounds end.Turns (at, wrote) =
    record { read = refl; file = refl; on_disk = refl; on_link = refl; write = wrote.health.same }
rounds_count out rounds end.NumbersSpent (at, wrote) =
    record { read = refl; file = refl; on_disk = refl; on_link = refl; write = wrote.health.same }
rounds_count out rounds end.JournalFull (at, wrote) =
    record { read = refl; file = refl; on_disk = refl; on_link = refl; write = wrote.health.same }
rounds_count out rounds end.NoMemory wrote =
    record { read = refl; file = refl; on_disk = refl; on_link = refl; write = wrote.health.same }
rounds_count out rounds end.WriteFailed (at, short) =
    record { read = refl; file = refl; on_disk = refl; on_link = refl; write = short.fault.rose }

make_counts : (rounds : ℕ) (out : SinkTold) (outcome : Outcome) → MakeComes rounds out outcome
    → CountsWrites out outcome
make_counts rounds out outcome (inl (is, left)) =
    plain_counts out outcome
    (subst IsPlain (sym is) (record { read = refl; file = refl; on_disk = refl; on_link = refl; write = refl }))
    (untouched out left)
make_counts rounds out outcome (inr was) =
    subst (CountsWrites out) (sym was.outcome_is) (rounds_count out rounds was.ended was.made)

-- ---- all commands

-- words that are refused touch nothing
module _ (source : SourceTold) (files : FilesTold) (disk : DiskTold) (link : LinkTold) (out : SinkTold)
    (outcome : Outcome) where
  stands : (refusal : Outcome) → IsRefused refusal source files disk link out outcome
      → CountsAll source files disk link out refusal → CountsAll source files disk link out outcome
  stands refusal refused counts = subst (CountsAll source files disk link out) (sym refused.refused) counts

  usage_counts : IsRefused Usage source files disk link out outcome → CountsAll source files disk link out outcome
  usage_counts refused = stands Usage refused (record {
    read = source_stands source refused.input;
    file = files_stand files refused.unread;
    on_disk = refused.unused.faults;
    on_link = link_stands link refused.uncalled;
    write = untouched out refused.written;
  })

  memory_counts : IsRefused NoMemory source files disk link out outcome → CountsAll source files disk link out outcome
  memory_counts refused = stands NoMemory refused (record {
    read = source_stands source refused.input;
    file = files_stand files refused.unread;
    on_disk = refused.unused.faults;
    on_link = link_stands link refused.uncalled;
    write = untouched out refused.written;
  })

replay_all : (journal : Option ℕ) (plan schedule : List ℕ) (source : SourceTold) (files : FilesTold) (disk : DiskTold)
    (link : LinkTold) (out : SinkTold) (outcome : Outcome) → IsUnread source → IsUnused disk → IsUncalled link
    → ReplayComes journal plan schedule files out outcome → CountsAll source files disk link out outcome
replay_all journal plan schedule source files disk link out outcome unread unused uncalled comes =
    let counts = replay_counts journal plan schedule files out outcome comes in
    record {
      read =
          subst (λ (b : Bool). IsCounted b source.health.faults source.health_after.faults) (sym counts.read)
          (source_stands source unread);
      file = counts.file;
      on_disk =
          subst (λ (b : Bool). IsCounted b disk.health.faults disk.health_after.faults) (sym counts.on_disk)
          unused.faults;
      on_link = subst (λ (b : Bool). IsCounted b link.health.faults link.health_after.faults) (sym counts.on_link)
          (link_stands link uncalled);
      write = counts.write;
    }

comes_counts : (asked : Option Asked) (source : SourceTold) (files : FilesTold) (disk : DiskTold) (link : LinkTold)
    (out : SinkTold) (outcome : Outcome)
    → ComesFrom asked source files disk link out outcome → CountsFaults asked source files disk link out outcome
comes_counts None source files disk link out outcome refused =
    all_told None source files disk link out outcome (usage_counts source files disk link out outcome refused)
comes_counts (Some Show) source files disk link out outcome (unread, unused, uncalled, comes) =
    all_told (Some Show) source files disk link out outcome
    (input_counts source files disk link out capture_limit WasShown outcome
    (others_stand files disk link unread unused uncalled)
    (λ capture was. shown_counts capture out outcome was) comes)
comes_counts (Some Spell) source files disk link out outcome (unread, unused, uncalled, comes) =
    all_told (Some Spell) source files disk link out outcome
    (input_counts source files disk link out item_limit WasSpelled outcome
    (others_stand files disk link unread unused uncalled)
    (λ text was. spelled_counts text out outcome was) comes)
comes_counts (Some SpellHex) source files disk link out outcome (unread, unused, uncalled, comes) =
    all_told (Some SpellHex) source files disk link out outcome
    (input_counts source files disk link out item_limit WasPrinted outcome
    (others_stand files disk link unread unused uncalled)
    (λ digits was. printed_counts digits out outcome was) comes)
comes_counts (Some (Replay plan schedule)) source files disk link out outcome (unread, unused, uncalled, comes) =
    all_told (Some (Replay plan schedule)) source files disk link out outcome
    (replay_all None plan schedule source files disk link out outcome unread unused uncalled comes)
comes_counts (Some (JournalReplay plan schedule slots)) source files disk link out outcome
    (unread, unused, uncalled, comes) =
    all_told (Some (JournalReplay plan schedule slots)) source files disk link out outcome
    (replay_all (Some slots) plan schedule source files disk link out outcome unread unused uncalled comes)
comes_counts (Some (Equipment plan address spool polls)) source files disk link out outcome (comes, connects, tells) =
    equipment_counts source files disk link out plan address spool polls outcome comes
comes_counts (Some (Host plan address polls)) source files disk link out outcome (unused, comes, connects) =
    all_told (Some (Host plan address polls)) source files disk link out outcome
    (host_counts source files disk link out plan polls outcome unused comes)
comes_counts (Some (JournalHost plan address journal polls)) source files disk link out outcome
    (comes, connects, tells) =
    journal_counts source files disk link out plan address journal polls outcome comes
comes_counts (Some (Format name slots)) source files disk link out outcome (unread, files_unread, uncalled, was) =
    all_told (Some (Format name slots)) source files disk link out outcome
    (spool_counts source files disk link out outcome (FormatsSpool name slots disk out) unread files_unread uncalled
    (λ ended formats. by_making name slots disk out ended formats) was)
comes_counts (Some (Spool name)) source files disk link out outcome (unread, files_unread, uncalled, was) =
    all_told (Some (Spool name)) source files disk link out outcome
    (spool_counts source files disk link out outcome (ShowsSpool name disk out) unread files_unread uncalled
    (λ ended shows. by_listing disk out ended shows.shown) was)
comes_counts (Some (Drop name count)) source files disk link out outcome (unread, files_unread, uncalled, was) =
    all_told (Some (Drop name count)) source files disk link out outcome
    (spool_counts source files disk link out outcome (DropsMessages name count disk out) unread files_unread uncalled
    (λ ended drops. by_dropping count disk out ended drops.dropped) was)
comes_counts (Some (Make rounds)) source files disk link out outcome (unread, files_unread, unused, uncalled, comes) =
    all_told (Some (Make rounds)) source files disk link out outcome
    (written_only source files disk link out outcome (source_stands source unread)
    (others_stand files disk link files_unread unused uncalled) (make_counts rounds out outcome comes))

run_counts : (asked : Option Asked) (source : SourceTold) (files : FilesTold) (disk : DiskTold) (link : LinkTold)
    (out : SinkTold) (outcome : Outcome)
    → RunComes asked source files disk link out outcome → CountsFaults asked source files disk link out outcome
run_counts asked source files disk link out outcome (inl refused) =
    all_told asked source files disk link out outcome (memory_counts source files disk link out outcome refused)
run_counts asked source files disk link out outcome (inr comes) =
    comes_counts asked source files disk link out outcome comes

pub faults_told : (words : List (List ℕ)) (source : SourceTold) (files : FilesTold) (disk : DiskTold) (link : LinkTold)
    (out err : SinkTold) (status : ℕ)
    → (run : IsRun words source files disk link out err status)
    → CountsFaults (asked_of words) source files disk link out run.outcome
faults_told words source files disk link out err status run =
    run_counts (asked_of words) source files disk link out run.outcome run.comes
