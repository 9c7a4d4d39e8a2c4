-- What a step asks of the disk of the journal, in its order; what is noted where the disk fails on the way; and where
-- power may be lost, with what that leaves (this profile).
use Rattle.std.specs.Prelude.{ℕ, List, [], ◌∷◌, ◌++◌, not, ◌&&◌, map, if◌then◌else◌}
use Rattle.gem_spool.specs.Standing.{Standing}
use Rattle.gem_spool.specs.Updates.{Left}
use Rattle.message_end.specs.Core.{Went}
use Rattle.message_end.specs.Core.Went.{Goes, Spent}
use Rattle.message_end.specs.Ends.{Asked, Input, Loss}
use Rattle.spool_file.specs.File.{SpoolFile}
use Rattle.spool_works.specs.DiskWorks.{DiskWork, all_bytes, all_calls, front_at, fronts_of, lines_behind, lines_up_to, standing_behind}
use Rattle.spool_works.specs.DiskWorks.DiskWork.{Reserve}
use Rattle.spool_works.specs.WorkLosses.{lost_calls}
use Rattle.trace_log.specs.declared.commands.HostCommand.{HostCommand}
use Rattle.trace_log.specs.Log.{Happening}
use Rattle.journal_node.specs.Journal.{JournalView, act, is_marked_out, listed_of, needs_numbers, noted_by, put_works}
use Rattle.journal_node.specs.Journal.{standing_in}

-- ---- the works of a step

-- no more are reserved where there are none of four bytes
abbrev pub reserve_works : JournalView → List DiskWork
reserve_works s = if needs_numbers s && not (is_marked_out s.file.mark.value) then Reserve ∷ [] else []

-- a step that goes on puts what was delivered in it; one that ends early puts nothing
abbrev pub works_behind : Went JournalView Happening → List DiskWork
works_behind (Goes step) = put_works (listed_of step.next.node.own.delivered)
works_behind (Spent step) = []

abbrev pub works_of : JournalView → Input HostCommand → ℕ → List DiskWork
works_of s input now = reserve_works s ++ works_behind (act s input now)

-- for each of them, in their order, what was noted where the disk fails at it: nothing at a reserve, and at a put all
-- up to its first line
abbrev pub stops : JournalView → Input HostCommand → ℕ → List (List Happening)
stops s input now = fronts_of [] (works_of s input now) (noted_by s input now)

abbrev pub asks : JournalView → Input HostCommand → ℕ → Asked
asks s input now =
    let works = works_of s input now in
    record { calls = all_calls (standing_in s) works; bytes = all_bytes (standing_in s) works }

-- ---- where power may be lost

-- a call at which it may be, of an end of which a file is left
abbrev pub loss_at : {S : Type 0} → (SpoolFile → S) → List Happening → ℕ × Left → Loss S
loss_at left front lost = record { bytes = lost.0; front = front; left = λ choice. left (lost.1 choice) }

-- at each call of these works, with what is noted by then
abbrev pub losses_of :
    {S : Type 0} → (SpoolFile → S) → Standing → List Happening → List DiskWork → List Happening → List (Loss S)
losses_of left st before [] notes = []
losses_of left st before (one ∷ works) notes =
    map (loss_at left (front_at one before notes)) (lost_calls st one)
    ++ losses_of left (standing_behind st one) (lines_up_to one before notes) works (lines_behind one notes)

-- all else is gone with the power, and a start anew asks for none of it but the plan
abbrev pub left_as : JournalView → SpoolFile → JournalView
left_as s file = record s { file = file }

abbrev pub losses : JournalView → Input HostCommand → ℕ → List (Loss JournalView)
losses s input now =
    losses_of (left_as s) (standing_in s) [] (works_of s input now) (noted_by s input now)
