-- What the host with its journal keeps, whatever it is told.
use Rattle.std.specs.Prelude.{◌≡◌, ℕ, false, List, [], ◌∷◌}
use Rattle.host_node.specs.Host.{HasPlan, Kind, end_plan}
use Rattle.line_end.specs.Plan.{HostPlanFits}
use Rattle.line_end.specs.declared.plan.HostPlan.{HostPlan}
use Rattle.message_end.specs.Doings.{Doing}
use Rattle.message_end.specs.Doings.Doing.{Says}
use Rattle.message_end.specs.Ends.{KeepsLaw}
use Rattle.message_end.specs.History.{IsHistoryOf}
use Rattle.spool_file.specs.File.{SpoolFile}
use Rattle.spool_law.specs.Listing.{MayDoListing, NeverListsEarly, Owed, owed_in}
use Rattle.spool_law.specs.Listing.Owed.{Nothing}
use Rattle.trace_log.specs.Commands.{HostCommandFits}
use Rattle.trace_log.specs.Log.Happening.{Wrote}
use Rattle.journal_node.specs.End.{machine}
use Rattle.journal_node.specs.Journal.{JournalView, starts}

-- what it may do at what it owes its journal; the characters of a step are noted by the world, behind one that goes on
abbrev pub MayDoOwing : Owed → Doing → Type 0
MayDoOwing owed (Says (Wrote characters)) = Unit {0}
MayDoOwing owed doing = MayDoListing owed doing

-- each of these doings keeps it
abbrev pub AreListed : List Doing → Type 0
AreListed [] = Unit {0}
AreListed (doing ∷ before) = MayDoOwing (owed_in before) doing × AreListed before

-- these doings since a start have made the host what it is. What was delivered in them, and is to be listed, was listed
-- before any block was given to the line, and in its step, unless that has ended early; and the numbers that are left
-- lie below the mark
pub record DidOf (plan : HostPlan) (base : ℕ) (doings : List Doing) (s : JournalView) : Type 0 where
  pub plan_is : HasPlan plan s.node.own
  pub is : IsHistoryOf {K = Kind} (end_plan plan) base doings s.node.core
  pub mark : s.node.core.numbers.end ≡ s.file.mark.value
  pub listed : AreListed doings
  pub owes : s.has_ended ≡ false → owed_in doings ≡ Nothing

-- over whatever file, it keeps the law of an end, what it owes its journal included
abbrev pub JournalHostKeepsItsLaw : Type 0
JournalHostKeepsItsLaw =
    (plan : HostPlan) (file : SpoolFile) → HostPlanFits plan
    → KeepsLaw (end_plan plan) (DidOf plan) HostCommandFits (starts plan file) machine

-- a step of it that ends early has listed nothing
abbrev pub ListsNothingEarly : Type 0
ListsNothingEarly = NeverListsEarly machine
