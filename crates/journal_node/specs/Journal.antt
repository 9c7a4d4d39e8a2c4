-- The host with its journal: what it lists, a step as a whole, and its starts (this profile).
use Rattle.std.specs.Prelude.{ℕ, Bool, true, false, ◌+◌, ◌^◌, nat_lt, List, [], ◌∷◌, length, Option, Some, None, if◌then◌else◌}
use Rattle.gem_spool.specs.Standing.{Standing, count_in}
use Rattle.gem_spool.specs.declared.works.Work.{Work}
use Rattle.gem_spool.specs.declared.works.Work.TheVariants.{Put}
use Rattle.host_journal.specs.Fitting.{fit_in}
use Rattle.host_journal.specs.declared.listing.Fit.{Fit}
use Rattle.host_journal.specs.declared.listing.Fit.TheVariants as fit
use Rattle.host_node.specs.Host.{HostOwn, Kind, at_start, ends_late, given, offers, ticks}
use Rattle.line_end.specs.declared.plan.HostPlan.{HostPlan}
use Rattle.message_flow.specs.declared.message.Message.{Message}
use Rattle.spool_file.specs.File.{SpoolFile}
use Rattle.spool_file.specs.Slot.{width}
use Rattle.spool_law.specs.Journal.{entry_of}
use Rattle.spool_law.specs.Listing.{record_of}
use Rattle.spool_rule.specs.Rule.{is_spoolable}
use Rattle.spool_slots.specs.Files.{upgraded, with_mark_moved}
use Rattle.spool_works.specs.DiskWorks.{DiskWork, standings_behind}
use Rattle.spool_works.specs.DiskWorks.DiskWork.{Change}
use Rattle.spool_works.specs.Found.{first_in, found_in}
use Rattle.std.specs.List.{sum_by}
use Rattle.trace_log.specs.declared.commands.HostCommand.{HostCommand}
use Rattle.trace_log.specs.Log.{Happening}
use Rattle.trace_log.specs.Log.Happening.{HostStarted, Listed, Listing}
use Rattle.trace_log.specs.Names.{Record}
use Rattle.transact.specs.Numbers.{numbers_from}
use Rattle.message_end.specs.Core.{Command, Step, Went, and_then, at_first, step_in}
use Rattle.message_end.specs.Core.Command.{Halt, More, Note}
use Rattle.message_end.specs.Core.Went.{Goes, Spent}
use Rattle.message_end.specs.Ends.{Input}
use Rattle.message_end.specs.Parts.{Node, Part, after_parts, closes, core_after, fixed_turn}

-- the host, and the file of its journal, which is all that a loss of power keeps: below its mark all system bytes lie
-- that it may have drawn. One that has ended in a step makes none any more
pub record JournalView : Type 0 where
  pub node : Node HostOwn Kind
  pub file : SpoolFile
  pub has_ended : Bool

-- how a journal stands: nothing leaves it, so that its next number follows from its messages
abbrev pub standing_of_file : SpoolFile → Standing
standing_of_file file = record { next = first_in file + sum_by width file.list; file = file }

abbrev pub standing_in : JournalView → Standing
standing_in s = standing_of_file s.file

-- ---- system bytes

-- a step reserves 4,096 more behind those that are left, where these are fewer than 128
abbrev pub needs_numbers : JournalView → Bool
needs_numbers s = nat_lt s.node.core.numbers.end (s.node.core.numbers.next + 128)

-- there are no more of four bytes
abbrev pub is_marked_out : ℕ → Bool
is_marked_out mark = nat_lt (2 ^ 32) (mark + 4096)

abbrev pub with_more : Node HostOwn Kind → Node HostOwn Kind
with_more node = record node { core = core_after (More 4096) node.core }

abbrev pub reserved : JournalView → JournalView
reserved s = record { node = with_more s.node; file = with_mark_moved s.file; has_ended = s.has_ended }

abbrev pub reserving : JournalView → Went JournalView Happening
reserving s =
    if needs_numbers s then if is_marked_out s.file.mark.value then Spent (at_first s) else Goes (at_first (reserved s))
    else Goes (at_first s)

-- ---- what is listed

-- S5F1, S6F11 and S10F1 are, whatever became of them, and whether a reply is awaited or not
abbrev pub listed_of : Option Message → Option Record
listed_of None = None
listed_of (Some message) =
    if is_spoolable message.stream message.function then Some (record_of message) else None

-- whether it can be
abbrev pub fit_of : Standing → Record → Fit
fit_of st listed = fit_in (count_in st) (length (entry_of listed).body)

-- it gets the next number; where it can't be listed the step ends, and nothing is noted of it
abbrev pub listed_by : Fit → ℕ → Record → List (Command Kind)
listed_by fit.Fits number listed = Note (Listing number listed) ∷ Note (Listed number listed) ∷ []
listed_by fit.Full number listed = Halt ∷ []
listed_by fit.NumbersSpent number listed = Halt ∷ []

abbrev pub listing_commands : Standing → Option Record → List (Command Kind)
listing_commands st None = []
listing_commands st (Some listed) = listed_by (fit_of st listed) st.next listed

-- what was delivered in this step is listed
abbrev pub lists : Standing → Part HostOwn Kind
lists st own e = fixed_turn own (listing_commands st (listed_of own.delivered))

-- as a work of its file
abbrev pub put_of : Record → Work
put_of listed = Put listed.stream listed.function (entry_of listed).body

abbrev pub put_works : Option Record → List DiskWork
put_works None = []
put_works (Some listed) = Change (put_of listed) ∷ []

-- the file behind it
abbrev pub file_behind : SpoolFile → Option Record → SpoolFile
file_behind file listed = (standings_behind (standing_of_file file) (put_works listed)).file

-- ---- a step

-- what is due and the input are a host's; what came of them is listed before the line has its turn, so that no
-- character of the step goes out before
abbrev pub first_parts : Input HostCommand → ℕ → List (Part HostOwn Kind)
first_parts input now = ticks now ∷ ends_late now ∷ given input now ∷ []

abbrev pub parts : Standing → Input HostCommand → ℕ → List (Part HostOwn Kind)
parts st input now = ticks now ∷ ends_late now ∷ given input now ∷ lists st ∷ offers now ∷ closes ∷ []

abbrev pub node_step : {N : Type 0} → Step JournalView N → Step (Node HostOwn Kind) N
node_step step = record { next = step.next.node; notes = step.notes; written = step.written }

abbrev pub with_file : {N : Type 0} → SpoolFile → Bool → Step (Node HostOwn Kind) N → Step JournalView N
with_file file ended step = record {
  next = record { node = step.next; file = file; has_ended = ended };
  notes = step.notes;
  written = step.written;
}

-- one that goes on has listed what was delivered in it; one that ends early has listed nothing
abbrev pub went_with_file :
    SpoolFile → Went (Node HostOwn Kind) Happening → Went JournalView Happening
went_with_file file (Goes step) = Goes (with_file (file_behind file (listed_of step.next.own.delivered)) false step)
went_with_file file (Spent step) = Spent (with_file file true step)

-- with system bytes enough
abbrev pub acts_on : Input HostCommand → ℕ → Step JournalView Happening → Went JournalView Happening
acts_on input now step =
    went_with_file step.next.file (after_parts Some (parts (standing_in step.next) input now) (node_step step))

abbrev pub begins : JournalView → Went JournalView Happening
begins s = if s.has_ended then Spent (at_first s) else reserving s

abbrev pub act : JournalView → Input HostCommand → ℕ → Went JournalView Happening
act s input now = and_then (begins s) (acts_on input now)

-- what is noted up to the turn of the line, and so by the end of a put
abbrev pub listing_parts : Standing → Input HostCommand → ℕ → List (Part HostOwn Kind)
listing_parts st input now = ticks now ∷ ends_late now ∷ given input now ∷ lists st ∷ []

abbrev pub noted_on : Input HostCommand → ℕ → Went JournalView Happening → List Happening
noted_on input now (Goes step) =
    (step_in (after_parts Some (listing_parts (standing_in step.next) input now) (node_step step))).notes
noted_on input now (Spent step) = []

abbrev pub noted_by : JournalView → Input HostCommand → ℕ → List Happening
noted_by s input now = noted_on input now (begins s)

-- ---- a step that ends early

-- a record has no room
abbrev pub is_full : Fit → Bool
is_full fit.Fits = false
is_full fit.Full = true
is_full fit.NumbersSpent = false

abbrev pub has_no_room : Standing → Option Record → Bool
has_no_room st None = false
has_no_room st (Some listed) = is_full (fit_of st listed)

-- so it is of what was delivered by these parts
abbrev pub lacks_behind : Standing → Went (Node HostOwn Kind) Happening → Bool
lacks_behind st (Goes step) = has_no_room st (listed_of step.next.own.delivered)
lacks_behind st (Spent step) = false

abbrev pub lacks_on : Input HostCommand → ℕ → Went JournalView Happening → Bool
lacks_on input now (Goes step) =
    lacks_behind (standing_in step.next) (after_parts Some (first_parts input now) (node_step step))
lacks_on input now (Spent step) = false

-- what a step delivers has no room in the journal
abbrev pub lacks_room : JournalView → Input HostCommand → ℕ → Bool
lacks_room s input now = lacks_on input now (begins s)

-- ---- starts

-- over what a file stands for: it becomes one of version 2, and the system bytes from its mark on are reserved
abbrev pub started_on : HostPlan → SpoolFile → Step JournalView Happening
started_on plan file = record {
  next = record {
    node = at_start plan (numbers_from file.mark.value 4096);
    file = with_mark_moved (upgraded file);
    has_ended = false;
  };
  notes = HostStarted (Some (record { found = found_in file.list; base = file.mark.value })) ∷ [];
  written = [];
}

-- where there are none any more, nothing is noted, and the file is of version 2 alone
abbrev pub unstarted : HostPlan → SpoolFile → JournalView
unstarted plan file = record (started_on plan file).next { file = upgraded file }

abbrev pub starts : HostPlan → SpoolFile → Went JournalView Happening
starts plan file =
    if is_marked_out file.mark.value then Spent (at_first (unstarted plan file))
    else Goes (started_on plan file)

-- a start anew finds what is kept
abbrev pub restarts : JournalView → ℕ → Went JournalView Happening
restarts s now = starts s.node.own.plan s.file
