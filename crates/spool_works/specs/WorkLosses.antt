-- Where power may be lost in a work of the spool, and that what it leaves is what a start may find (this profile).
use Rattle.std.specs.Prelude.{◌≡◌, ◌⊎◌, ℕ, Option, Some, None, List, [], length, map}
use Rattle.std.specs.List.{zip}
use Rattle.disk_base.specs.declared.cut.CutChoice.{CutChoice}
use Rattle.gem_spool.specs.declared.works.Work.TheVariants as work
use Rattle.gem_spool.specs.Updates.{Left, losses_in}
use Rattle.gem_spool.specs.Standing.{Standing}
use Rattle.message_end.specs.Own.{Has}
use Rattle.spool_law.specs.Shelf.{IsFoundOf}
use Rattle.trace_log.specs.Names.{Spooled}
use Rattle.trace_log.specs.declared.names.Cause.{Cause}
use Rattle.trace_log.specs.declared.names.Cause.TheVariants as cause
use Rattle.spool_works.specs.DiskCalls.{disk_calls}
use Rattle.spool_works.specs.DiskWorks.{DiskWork, standing_behind, updates_at}
use Rattle.spool_works.specs.Found.{found_in}

-- at each call of a work, in their order
abbrev pub calls_at : Standing → DiskWork → List Left
calls_at st one = losses_in st (updates_at st one)

-- the same, each with how many bytes the call writes
abbrev pub lost_calls : Standing → DiskWork → List (ℕ × Left)
lost_calls st one = zip (map (λ call. length call.bytes) (disk_calls st one)) (calls_at st one)

-- ---- what a start finds then

-- the message that is being stored at a work, where this is the next number, and why messages leave at it, as its line
-- says
abbrev pub storing_at : ℕ → DiskWork → Option (ℕ × Spooled)
storing_at next (DiskWork.Change (work.Put stream function body)) =
    Some (next, record { stream = stream; function = function; body = body })
storing_at next (DiskWork.Change (work.DropOldest slots)) = None
storing_at next (DiskWork.Change work.Purge) = None
storing_at next DiskWork.Reserve = None
storing_at next (DiskWork.Keep bytes) = None
storing_at next (DiskWork.ReadOldest slots) = None

abbrev pub MayLeaveAt : DiskWork → Option Cause → Type 0
MayLeaveAt (DiskWork.Change (work.Put stream function body)) leaving = Unit {0}
MayLeaveAt (DiskWork.Change (work.DropOldest slots)) leaving =
    (leaving ≡ Some cause.Confirmed) ⊎ (leaving ≡ Some cause.Overwritten)
MayLeaveAt (DiskWork.Change work.Purge) leaving = leaving ≡ Some cause.Purged
MayLeaveAt DiskWork.Reserve leaving = Unit {0}
MayLeaveAt (DiskWork.Keep bytes) leaving = Unit {0}
MayLeaveAt (DiskWork.ReadOldest slots) leaving = Unit {0}

-- at whichever call of a work power is lost, and whatever becomes of the disk, what is left is what the law of the
-- spool lets a start find
abbrev pub LossesAreFound : Type 0
LossesAreFound =
    (st : Standing) (one : DiskWork) (leaving : Option Cause) → MayLeaveAt one leaving → (left : Left)
    → Has (calls_at st one) left → (choice : CutChoice)
    → IsFoundOf (found_in st.file.list) (storing_at st.next one) leaving (found_in (left choice).list)

-- of a purge it is all of the list, or nothing
abbrev pub PurgesAreWhole : Type 0
PurgesAreWhole =
    (st : Standing) (left : Left) → Has (calls_at st (DiskWork.Change work.Purge)) left → (choice : CutChoice)
    → ((left choice).list ≡ st.file.list) ⊎ ((left choice).list ≡ [])

-- of each work it is the setup that was kept, or the one that the work keeps
abbrev pub SetupsAreWhole : Type 0
SetupsAreWhole =
    (st : Standing) (one : DiskWork) (left : Left) → Has (calls_at st one) left → (choice : CutChoice)
    → ((left choice).setup ≡ st.file.setup) ⊎ ((left choice).setup ≡ (standing_behind st one).file.setup)
