-- Why a step of the host with its journal ends early: each ending where its cause is, and nowhere else.
use Rattle.std.specs.Prelude.{◌≡◌, ℕ, Bool, true, false, Option, None, Some, Result, Ok, Err}
use Rattle.disk_base.specs.declared.disk.Disk as disk
use Rattle.gem_spool.specs.Standing.{Standing}
use Rattle.host_journal.specs.declared.listing.Fit.{Fit}
use Rattle.host_journal.specs.declared.listing.Fit.TheVariants as fit
use Rattle.host_node.specs.Host.{HostOwn, Kind}
use Rattle.message_end.specs.Core.{Went}
use Rattle.message_end.specs.Core.Went.{Goes, Spent}
use Rattle.message_end.specs.Ends.{Input}
use Rattle.message_end.specs.Parts.{Node, after_parts}
use Rattle.spool_file.specs.File.{SpoolFile}
use Rattle.trace_log.specs.declared.commands.HostCommand.{HostCommand}
use Rattle.trace_log.specs.Log.{Happening}
use Rattle.trace_log.specs.Names.{Record}
use Rattle.journal_node.specs.declared.journal_host.JournalEnded.{JournalEnded}
use Rattle.journal_node.specs.declared.journal_host.JournalEnded.TheVariants as ended
use Rattle.journal_node.specs.declared.journal_host.JournalStarting.{JournalStarting}
use Rattle.journal_node.specs.declared.journal_host.JournalStarting.TheVariants as starting
use Rattle.journal_node.specs.Held.{Held, view_in}
use Rattle.journal_node.specs.Journal.{JournalView, first_parts, fit_of, is_marked_out, lacks_room, listed_of, node_step}
use Rattle.journal_node.specs.Journal.{begins, standing_in}

-- ---- numbers

-- the journal has no number for a record that isn't refused as full
abbrev pub lacks_number : Fit → Bool
lacks_number fit.Fits = false
lacks_number fit.Full = false
lacks_number fit.NumbersSpent = true

abbrev pub has_no_number : Standing → Option Record → Bool
has_no_number st None = false
has_no_number st (Some listed) = lacks_number (fit_of st listed)

-- of what was delivered by the first parts of a step; no draw of these is without a number, behind a reserve
abbrev pub spent_behind : Standing → Went (Node HostOwn Kind) Happening → Bool
spent_behind st (Goes step) = has_no_number st (listed_of step.next.own.delivered)
spent_behind st (Spent step) = true

abbrev pub spent_on : Input HostCommand → ℕ → Went JournalView Happening → Bool
spent_on input now (Goes step) =
    spent_behind (standing_in step.next) (after_parts Some (first_parts input now) (node_step step))
spent_on input now (Spent step) = true

-- a reserve finds the mark spent; or a number of the host or of the journal is wanting
abbrev pub lacks_numbers : JournalView → Input HostCommand → ℕ → Bool
lacks_numbers s input now = spent_on input now (begins s)

-- ---- a step and a start

-- it ends so where there is the cause alone, and where there is one it doesn't go on
abbrev pub IsEndedByCause :
    {D : Type 0} → disk.Ghosts D → Held D → Input HostCommand → ℕ → Result (Held D) (JournalEnded D) → Type 0
IsEndedByCause members h input now (Ok k) =
    (lacks_numbers (view_in members h) input now ≡ false) × (lacks_room (view_in members h) input now ≡ false)
IsEndedByCause members h input now (Err (ended.NumbersSpent spent)) = lacks_numbers (view_in members h) input now ≡ true
IsEndedByCause members h input now (Err (ended.JournalFull spent)) = lacks_room (view_in members h) input now ≡ true
IsEndedByCause members h input now (Err (ended.DiskFailed spent)) = Unit {0}
IsEndedByCause members h input now (Err (ended.NoMemory spent)) = Unit {0}

-- the same of a start from this file, which always needs some
abbrev pub IsStartSpentByCause : {D : Type 0} → SpoolFile → Result (Held D) (JournalStarting D) → Type 0
IsStartSpentByCause file (Ok h) = is_marked_out file.mark.value ≡ false
IsStartSpentByCause file (Err (starting.NumbersSpent spent)) = is_marked_out file.mark.value ≡ true
IsStartSpentByCause file (Err (starting.NotSpool raw break)) = Unit {0}
IsStartSpentByCause file (Err (starting.DiskFailed spent)) = Unit {0}
IsStartSpentByCause file (Err (starting.NoMemory spent)) = Unit {0}
