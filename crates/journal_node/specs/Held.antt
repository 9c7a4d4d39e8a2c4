-- The host with its journal as a value of the program, and what the code says of a step of it as a whole.
use Rattle.std.specs.Prelude.{◌≡◌, refl, ℕ, Bool, true, false, [], Option, Some, Result, Ok, Err}
use Rattle.std.specs.Coded.{Coded, code_by, coded×, coded_bool}
use Rattle.disk_base.specs.Story.{Story}
use Rattle.disk_base.specs.declared.disk.Disk as disk
use Rattle.gem_spool.specs.declared.spool.GemSpool.{GemSpool}
use Rattle.gem_spool.specs.Standing.{Stands, standing_of}
use Rattle.host_node.specs.Host.{HostOwn, Kind}
use Rattle.message_flow.specs.declared.step.StepOut.{StepOut}
use Rattle.spool_slots.specs.Spool.{SpoolView, spool_code}
use Rattle.spool_slots.specs.declared.states.Spent.{Spent}
use Rattle.trace_log.specs.declared.commands.HostCommand.{HostCommand}
use Rattle.message_end.specs.Ends.{HasGone, HasSpent, HasStopped, Input}
use Rattle.message_end.specs.Parts.{Node}
use Rattle.journal_node.specs.declared.journal_host.JournalEnded.{JournalEnded}
use Rattle.journal_node.specs.declared.journal_host.JournalEnded.TheVariants as ended
use Rattle.journal_node.specs.Journal.{JournalView, act, lacks_room, standing_in}
use Rattle.journal_node.specs.Left.{HasBegunAt, HasFailedAt, HoldsEnded}
use Rattle.journal_node.specs.Works.{stops}

-- the host, and its journal in hand
pub record Held (D : Type 0) : Type 0 where
  pub host : Node HostOwn Kind
  pub journal : GemSpool D

abbrev pub held_code : {D : Type 0} → Coded (Node HostOwn Kind) → Coded D → Coded (Held D)
held_code {D} host code =
    code_by (Node HostOwn Kind × (SpoolView D × Bool)) (coded× host (coded× (spool_code code) coded_bool))
    (λ h. (h.host, (h.journal.spool, h.journal.active)))
    (λ p. record { host = p.0; journal = record { spool = p.1.0; active = p.1.1 } })
    (λ _. refl)

abbrev pub disk_held : {D : Type 0} → Held D → D
disk_held h = h.journal.spool.disk

-- its state, by what its disk tells
abbrev pub view_of : {D : Type 0} → disk.Ghosts D → Node HostOwn Kind → SpoolView D → JournalView
view_of members node v = record { node = node; file = (standing_of members v).file; has_ended = false }

abbrev pub view_in : {D : Type 0} → disk.Ghosts D → Held D → JournalView
view_in members h = view_of members h.host h.journal.spool

-- whatever its disk tells, the numbers that are left end at the mark, and the file is one of version 2
pub record IsReady {D : Type 0} (v : SpoolView D) (node : Node HostOwn Kind) : Type 0 where
  pub version : v.version ≡ 2
  pub mark : node.core.numbers.end ≡ v.mark

-- the disk tells its bytes
abbrev pub IsTold : Option Story → Type 0
IsTold told = (s : Story) × (told ≡ Some s)

-- the journal in hand is that of this state
pub record IsOn {D : Type 0} (members : disk.Ghosts D) (v : SpoolView D) (s : JournalView) : Type 0 where
  pub stands : Stands members v (standing_in s)
  pub version_is : s.file.version ≡ 2
  pub told : IsTold (members.told v.disk)

abbrev pub IsIn : {D : Type 0} → disk.Ghosts D → Held D → Type 0
IsIn members h = IsOn members h.journal.spool (view_in members h)

-- ---- a step

pub record HasMoved
    {D : Type 0} (members : disk.Ghosts D) (h : Held D) (input : Input HostCommand) (now : ℕ) (out : StepOut)
    (k : Held D) : Type 0 where
  pub gone : HasGone (act (view_in members h) input now) (view_in members k) out
  pub in_state : IsIn members k

-- where the disk tells its bytes
abbrev pub IsLeftBy : {D : Type 0} → disk.Ghosts D → Spent D → (Story → Type 0) → Type 0
IsLeftBy members spent Left = (t : Story) → members.told spent.disk ≡ Some t → Left t

-- it goes on as is defined; or it ends early, and what was noted by then is there and nothing is sent
abbrev pub Moves :
    {D : Type 0} → disk.Ghosts D → Held D → Input HostCommand → ℕ → StepOut → Result (Held D) (JournalEnded D)
    → Type 0
Moves members h input now out (Ok k) = HasMoved members h input now out k
Moves members h input now out (Err (ended.NumbersSpent spent)) =
    HasSpent (act (view_in members h) input now) out × (lacks_room (view_in members h) input now ≡ false)
    × IsLeftBy members spent (λ t. HoldsEnded (view_in members h) input now t.now)
Moves members h input now out (Err (ended.JournalFull spent)) =
    HasSpent (act (view_in members h) input now) out × (lacks_room (view_in members h) input now ≡ true)
    × IsLeftBy members spent (λ t. HoldsEnded (view_in members h) input now t.now)
Moves members h input now out (Err (ended.DiskFailed spent)) =
    HasStopped (stops (view_in members h) input now) (act (view_in members h) input now) out
    × IsLeftBy members spent (λ t. HasFailedAt (view_in members h) input now out t.now)
Moves members h input now out (Err (ended.NoMemory spent)) =
    (out.line.items ≡ []) × IsLeftBy members spent (λ t. HasBegunAt (view_in members h) input now t.now)
