-- That each change of the spool's list stands between the two lines that tell of it: in a step there are as many pairs
-- of lines as works of the list, the n-th of the number and the message of the n-th work; behind the works no such line
-- is noted any more.
use Rattle.std.specs.Prelude.{◌≡◌, ◌<◌, ◌^◌, ℕ, List, [], ◌∷◌, Option}
use Rattle.gem_spool.specs.Works.{list_after, next_after}
use Rattle.gem_spool.specs.declared.works.Work.{Work}
use Rattle.gem_spool.specs.declared.works.Work.TheVariants as work
use Rattle.message_end.specs.Core.{step_in}
use Rattle.message_end.specs.Course.{Course, Meeting, course_of}
use Rattle.message_end.specs.Course.Course.{Reached, Stopped}
use Rattle.message_end.specs.Ends.{Input}
use Rattle.spool_law.specs.Shelf.{Change, IsFirst, change_of}
use Rattle.spool_law.specs.Shelf.Change.{HasGone, HasStored, Leaves, Stores}
use Rattle.spool_file.specs.File.{SpoolFile}
use Rattle.spool_file.specs.Slot.{Message}
use Rattle.spool_works.specs.Found.{found_in}
use Rattle.trace_log.specs.declared.commands.ToolCommand.{ToolCommand}
use Rattle.trace_log.specs.declared.names.Cause.{Cause}
use Rattle.trace_log.specs.declared.names.Cause.TheVariants as cause
use Rattle.trace_log.specs.Log.{Happening}
use Rattle.trace_log.specs.Names.{Spooled}
use Rattle.equipment_tables.specs.declared.plan.EquipmentPlan.{EquipmentPlan}
use Rattle.equipment_tables.specs.Plan.{EquipmentPlanFits}
use Rattle.tool_step.specs.Disk.{owed_in, standing_in}
use Rattle.tool_step.specs.End.{machine}
use Rattle.tool_step.specs.Equipment.{EquipmentView, act, begun_step, started_on}
use Rattle.tool_spool.specs.SpoolKept.{MayHold}

-- the lines before and behind a change, in their order; what else is noted is left out
abbrev pub with_change : Change → List Change → List Change
with_change (Stores number message) rest = Stores number message ∷ rest
with_change (HasStored number) rest = HasStored number ∷ rest
with_change (Leaves number why room_for) rest = Leaves number why room_for ∷ rest
with_change (HasGone number) rest = HasGone number ∷ rest
with_change _ rest = rest

abbrev pub changes_in : List Happening → List Change
changes_in [] = []
changes_in (what ∷ rest) = with_change (change_of what) (changes_in rest)

-- one message leaves, or all do
abbrev pub IsOfOne : Cause → Type 0
IsOfOne cause.Confirmed = Unit {0}
IsOfOne cause.Purged = ⊥
IsOfOne cause.Overwritten = Unit {0}

abbrev pub IsOfAll : Cause → Type 0
IsOfAll cause.Confirmed = ⊥
IsOfAll cause.Purged = Unit {0}
IsOfAll cause.Overwritten = ⊥

-- these two lines are of a removal that names the first message, for such a cause
pub record TellsLeaving (list : List Message) (IsCause : Cause → Type 0) (before behind : Change) : Type 0 where
  pub number : ℕ
  pub why : Cause
  pub room_for : Option Spooled
  pub first : IsFirst (found_in list) number
  pub cause_is : IsCause why
  pub before_is : before ≡ Leaves number why room_for
  pub behind_is : behind ≡ HasGone number

-- they are of this work, where this is the next number and this the list (SEMI E30, spooling; the lines are this
-- profile's)
abbrev pub TellsOf : ℕ → List Message → Work → (before behind : Change) → Type 0
TellsOf next list (work.Put stream function body) before behind =
    (before ≡ Stores next (record { stream = stream; function = function; body = body })) × (behind ≡ HasStored next)
TellsOf next list (work.DropOldest slots) before behind = TellsLeaving list IsOfOne before behind
TellsOf next list work.Purge before behind = TellsLeaving list IsOfAll before behind

-- works and pairs of lines, one by one
abbrev pub AreInPairs : ℕ → List Message → List Work → List Change → Type 0
AreInPairs next list [] changes = changes ≡ []
AreInPairs next list (one ∷ works) [] = ⊥
AreInPairs next list (one ∷ works) (before ∷ []) = ⊥
AreInPairs next list (one ∷ works) (before ∷ behind ∷ rest) =
    TellsOf next list one before behind
    × AreInPairs (next_after next one) (list_after next list one) works rest

-- so are all works that a step owes to its disk, with what it has noted by then and with all that it notes, also where
-- the numbers are spent
pub record ArePairsOfStep (s : EquipmentView) (input : Input ToolCommand) (now : ℕ) : Type 0 where
  pub by_then :
      AreInPairs (standing_in s).next s.file.list (owed_in (begun_step s input now))
      (changes_in (step_in (begun_step s input now)).notes)
  pub in_all :
      AreInPairs (standing_in s).next s.file.list (owed_in (begun_step s input now))
      (changes_in (step_in (act s input now)).notes)

abbrev pub TellsWorks : Course EquipmentView → Input ToolCommand → ℕ → Type 0
TellsWorks (Reached s notes) input now = ArePairsOfStep s input now
TellsWorks (Stopped notes) input now = Unit {0}

-- whatever it has met over all its starts, over whatever its file held, and whatever it is given next (this profile)
abbrev pub WorksAreInPairs : Type 0
WorksAreInPairs =
    (plan : EquipmentPlan) (file : SpoolFile) → EquipmentPlanFits plan → 0 < file.slots
    → file.slots < 2 ^ 16 → MayHold file → (meetings : List (Meeting ToolCommand)) (input : Input ToolCommand)
    (now : ℕ) → TellsWorks (course_of (started_on plan file) machine meetings) input now
