-- Examples that can be followed by hand: for what a journal has room, a host that forgets it at a start, and characters
-- that are noted too soon.
use Rattle.std.specs.Prelude.{◌≡◌, true, false, [], ◌∷◌, length, None, Some}
use Rattle.journal_law.specs.Kept.{HasNoGap, room_in}
use Rattle.journal_law.specs.Turns.{WriteInTurn}
use Rattle.journal_node.specs.End.{machine}
use Rattle.journal_node.specs.Journal.{JournalView, file_behind, started_on, starts}
use Rattle.journal_node.specs.Worked.{full_file, long, new_file, report}
use Rattle.line_end.specs.declared.plan.HostPlan.{HostPlan}
use Rattle.message_end.specs.Ends.{Machine}
use Rattle.spool_file.specs.File.{SpoolFile}
use Rattle.spool_law.specs.Journal.{JournalIsKept, entry_of}
use Rattle.spool_works.specs.Found.{found_in}
use Rattle.trace_log.specs.declared.commands.HostCommand.{HostCommand}
use Rattle.trace_log.specs.Names.{Spooled}
use Rattle.trace_log.specs.Log.Happening.{HostStarted, Listed, Listing, StepEnded, Wrote}

-- a journal of three slots takes three reports, or one record of 9,000 bytes; none of more than a mebibyte goes into
-- any
pub record HasRoomForThree : Type 0 where
  pub third : room_in 3 (found_in (file_behind (file_behind (new_file 3) (Some report)) (Some report)).list)
      (entry_of report) ≡ true
  pub fourth : room_in 3 (found_in full_file.list) (entry_of report) ≡ false
  pub long_one : room_in 3 [] (entry_of (long 8996)) ≡ true
  pub beside : room_in 3 (found_in (file_behind (new_file 3) (Some report)).list) (entry_of (long 8996)) ≡ false
  pub too_long : (message : Spooled) → length message.body ≡ 1048577 → room_in 300 [] message ≡ false

-- a file with one report
abbrev pub one_file : SpoolFile
one_file = file_behind (new_file 3) (Some report)

-- a host that starts anew over an empty journal
abbrev pub forgetful : Machine JournalView HostCommand
forgetful = record machine { restart = λ s now. starts s.node.own.plan (new_file 3) }

-- it doesn't keep what it had
pub record ForgetsItsJournal : Type 0 where
  pub no_gap : HasNoGap one_file
  pub forgets :
      (plan : HostPlan) → JournalIsKept (room_in 3) (found_in one_file.list) (started_on plan one_file) forgetful → ⊥

-- characters are noted behind the end of a step that has listed a record, and not before it
pub record WritesBehindSteps : Type 0 where
  pub behind :
      WriteInTurn (Wrote (4 ∷ []) ∷ StepEnded ∷ Listed 0 report ∷ Listing 0 report ∷ HostStarted None ∷ [])
  pub before : WriteInTurn (Wrote (4 ∷ []) ∷ Listed 0 report ∷ Listing 0 report ∷ HostStarted None ∷ []) → ⊥
