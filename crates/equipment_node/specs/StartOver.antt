-- What the code says of a start over a spool.
use Rattle.std.specs.Prelude.{◌≡◌, ℕ, true, false, List, [], length, Option, Some, None, Result, Ok, Err}
use Rattle.disk_base.specs.Faults.{DiskHealth}
use Rattle.disk_base.specs.Story.{Story}
use Rattle.disk_base.specs.Through.{EachImage}
use Rattle.disk_base.specs.declared.disk.Disk as disk
use Rattle.gem_spool.specs.declared.spool.GemSpool.{GemSpool}
use Rattle.gem_spool.specs.Standing.{standing_of}
use Rattle.message_flow.specs.declared.step.StepOut.{StepOut}
use Rattle.setup_store.specs.Entries.{Entry}
use Rattle.spool_file.specs.File.{SpoolFile, StandsFor}
use Rattle.spool_slots.specs.Files.{upgraded}
use Rattle.spool_slots.specs.Spool.{SpoolView}
use Rattle.spool_slots.specs.declared.states.Spent.{Spent}
use Rattle.message_end.specs.Ends.{IsEmpty, printed}
use Rattle.spool_ledger.specs.Ledger.{new_ledger}
use Rattle.equipment_tables.specs.declared.plan.EquipmentPlan.{EquipmentPlan}
use Rattle.equipment_node.specs.declared.equipment.Starting.{Starting}
use Rattle.equipment_node.specs.declared.equipment.Starting.TheVariants as starting
use Rattle.tool_step.specs.Equipment.{is_marked_out, started_on}
use Rattle.spool_works.specs.Found.{first_in}
use Rattle.equipment_node.specs.Held.{HasMark, Held}
use Rattle.equipment_node.specs.StartSetup.{setup_break}
use Rattle.tool_core.specs.Node.{node_of}
use Rattle.equipment_node.specs.Stepping.{IsClear, IsTold}
use Rattle.tool_core.specs.Starting.{new_node, IsStartNoted}

-- it was taken up from its device, and nothing was done with it since: an empty one begins with its floor
pub record IsFresh {D : Type 0} (members : disk.Ghosts D) (v : SpoolView D) : Type 0 where
  pub told : IsTold (members.told v.disk)
  pub first : v.first ≡ first_in (standing_of members v).file

-- it has started over this file
pub record HasStartedOver
    {D K : Type 0} (members : disk.Ghosts D) (plan : EquipmentPlan) (file : SpoolFile) (h : Held D K) (out : StepOut)
    : Type 0 where
  pub room : is_marked_out file.mark.value ≡ false
  pub node_is : node_of h.tool ≡ (started_on plan file).next.node
  pub clear : IsClear members h.spool.spool (started_on plan file).next
  pub told : IsTold (members.told h.spool.spool.disk)
  pub notes : out.notes ≡ printed (started_on plan file).notes
  pub quiet : out.line.items ≡ []

-- whatever a crash leaves, the file stands there so far as the start came
abbrev pub IsLeft : {D : Type 0} → disk.Ghosts D → SpoolFile → Spent D → Type 0
IsLeft members file spent = (t : Story) → members.told spent.disk ≡ Some t → EachImage (HasMark file) t.now

-- nothing is noted where it doesn't start
abbrev pub StartsOver :
    {D K : Type 0} → disk.Ghosts D → EquipmentPlan → SpoolFile → StepOut → Result (Held D K) (Starting D K) → Type 0
StartsOver members plan file out (Ok h) = HasStartedOver members plan file h out
StartsOver members plan file out (Err (starting.NumbersSpent spent keeper)) =
    IsEmpty out × (is_marked_out file.mark.value ≡ true)
    × ((t : Story) → members.told spent.disk ≡ Some t → EachImage (λ image. StandsFor image (upgraded file)) t.now)
StartsOver members plan file out (Err (starting.DiskFailed spent keeper)) = IsEmpty out × IsLeft members file spent
StartsOver members plan file out (Err (starting.NoMemory spent keeper)) =
    (out.line.items ≡ []) × IsLeft members file spent
StartsOver members plan file out (Err (starting.NotSpool raw break keeper)) = ⊥

-- the setup is read before, from an old disk, and where that breaks nothing was written
abbrev pub StartsFrom :
    {D K : Type 0} → disk.Ghosts D → EquipmentPlan → D → SpoolFile → StepOut → Result (Held D K) (Starting D K)
    → Type 0
StartsFrom members plan old file out (Ok h) = (setup_break file ≡ None) × StartsOver members plan file out (Ok h)
StartsFrom members plan old file out (Err (starting.NumbersSpent spent keeper)) =
    (setup_break file ≡ None) × StartsOver members plan file out (Err (starting.NumbersSpent spent keeper))
StartsFrom members plan old file out (Err (starting.DiskFailed spent keeper)) =
    StartsOver members plan file out (Err (starting.DiskFailed spent keeper))
StartsFrom members plan old file out (Err (starting.NoMemory spent keeper)) =
    StartsOver members plan file out (Err (starting.NoMemory spent keeper))
StartsFrom members plan old file out (Err (starting.NotSpool raw break keeper)) =
    IsEmpty out × (setup_break file ≡ Some break) × (members.told raw.disk ≡ members.told old)

-- no call of a disk is to fail
pub record IsSureDisk (health : DiskHealth) : Type 0 where
  pub fails_not : health.fail_in ≡ 0
  pub stops_not : health.stop_in ≡ 0
  pub going : health.stopped ≡ false

-- where none was to none is still
abbrev pub KeepsSure : {D : Type 0} → disk.Ghosts D → D → D → Type 0
KeepsSure members old new = IsSureDisk (members.health old) → IsSureDisk (members.health new)

-- with this setup, these sizes and the system bytes from a base on, unless memory runs out
abbrev pub StartsWith :
    {D K : Type 0} → EquipmentPlan → GemSpool D → Option (List Entry) → List ℕ → ℕ → StepOut → StepOut
    → Result (Held D K) (Starting D K) → Type 0
StartsWith plan g setup sizes base out_old out_new (Ok h) =
    (h.spool ≡ g)
    × (node_of h.tool ≡ new_node plan setup (new_ledger g.spool.slots g.spool.first sizes) base)
    × IsStartNoted plan setup (length sizes) base out_old out_new
StartsWith plan g setup sizes base out_old out_new (Err (starting.NoMemory spent keeper)) = spent.disk ≡ g.spool.disk
StartsWith plan g setup sizes base out_old out_new (Err (starting.NumbersSpent spent keeper)) = ⊥
StartsWith plan g setup sizes base out_old out_new (Err (starting.DiskFailed spent keeper)) = ⊥
StartsWith plan g setup sizes base out_old out_new (Err (starting.NotSpool raw break keeper)) = ⊥
