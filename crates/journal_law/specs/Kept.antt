-- That a host keeps its journal over all its starts, whatever it meets.
use Rattle.std.specs.Prelude.{◌≡◌, ◌+◌, ◌&&◌, nat_le, ℕ, List, length, None}
use Rattle.std.specs.List.{sum_by}
use Rattle.journal_node.specs.End.{machine}
use Rattle.journal_node.specs.Journal.{started_on}
use Rattle.line_end.specs.declared.plan.HostPlan.{HostPlan}
use Rattle.spool_file.specs.File.{SpoolFile, file_in, spool_break}
use Rattle.spool_file.specs.Run.{IsChainFrom}
use Rattle.spool_file.specs.Sizes.{slots_for}
use Rattle.spool_file.specs.Slot.{width}
use Rattle.spool_law.specs.Journal.{JournalIsKept, Room}
use Rattle.spool_works.specs.Found.{first_in, found_in}
use Rattle.trace_log.specs.Names.{Spooled}

-- how many slots a message takes
abbrev pub size_of : Spooled → ℕ
size_of message = slots_for (length message.body)

-- a record has at most a mebibyte, and there is room for it where it and all that stand take no more slots than there
-- are
abbrev pub room_in : ℕ → Room
room_in slots stands message =
    nat_le (length message.body) 1048576 && nat_le (sum_by (λ one. size_of one.1) stands + size_of message) slots

-- the messages of a file are numbered one after the other, from the first number on
abbrev pub HasNoGap : SpoolFile → Type 0
HasNoGap file = IsChainFrom (first_in file) (first_in file + sum_by width file.list) file.list

-- so are those of whatever file bytes stand for (this profile)
abbrev pub FilesHaveNoGap : Type 0
FilesHaveNoGap = (bytes : List ℕ) → spool_break bytes ≡ None → HasNoGap (file_in bytes)

-- over whatever file the host starts first: each of its starts finds all that stood before it, in order, and what was
-- being listed may stand last; what it lists goes behind all others, with a number above theirs, where there is room
-- (this profile)
abbrev pub JournalsAreKept : Type 0
JournalsAreKept =
    (plan : HostPlan) (file : SpoolFile) → HasNoGap file
    → JournalIsKept (room_in file.slots) (found_in file.list) (started_on plan file) machine
