-- The lines that calls of the spool's ledger note, for any class of notes.
use Rattle.std.proofs.Common.{◌==◌, ◌&&◌, not, Bool, true, false, ℕ, List, [], ◌∷◌, length, Option, None, Some, if◌then◌else◌}
use Rattle.std.specs.Prelude.{IfSome}
use Rattle.gem_spool.specs.declared.spool.Room.{Room}
use Rattle.gem_spool.specs.declared.spool.Room.TheVariants as room
use Rattle.gem_spool.specs.declared.works.Work.TheVariants as work
use Rattle.trace_log.specs.declared.names.Cause.{Cause}
use Rattle.trace_log.specs.declared.names.Cause.TheVariants.{Confirmed, Overwritten, Purged}
use Rattle.trace_log.specs.declared.names.Name.{Name}
use Rattle.trace_log.specs.Log.{Happening}
use Rattle.trace_log.specs.Names.{Spooled}
use Rattle.spool_ledger.specs.Activity.{activated, changed, is_done, rested}
use Rattle.spool_ledger.specs.Ledger.{Booked, LedgerView, and_then, is_full, next_of, owed, quiet, room_for, size_of}
use Rattle.spool_ledger.specs.Storing.{all_out, oldest_out, put, room_made, stored, stored_by, with_room}
use Rattle.spool_ledger.specs.Unloading.{confirmed, counted, is_oldest_tried, settled, with_each}
use Rattle.spool_ledger.proofs.Keeping.{made_if}
use Rattle.tool_law.proofs.CommandWalks.{AllAre, are-both}

-- all that is noted of the spool, but for the message that is put, is of the class
pub record HasSpoolNotes (Says : Happening → Type 0) : Type 0 where
  pub spool : (active : Bool) → Says (Happening.Spool active)
  pub stored : (number : ℕ) → Says (Happening.Stored number)
  pub leaving :
      (number : ℕ) (cause : Cause) (room_for : Option Spooled) → Says (Happening.Leaving number cause room_for)
  pub gone : (number : ℕ) → Says (Happening.Gone number)
  pub discarded : (name : Name) → Says (Happening.Discarded name)
  pub too_long : (name : Name) → Says (Happening.TooLong name)

module _ {Says : Happening → Type 0} (says : HasSpoolNotes Says) where
  made-lines :
      (size : ℕ) (for_one : Option Spooled) (sizes : List ℕ) (v : LedgerView)
      → AllAre Says (room_made size for_one sizes v).lines
  made-lines size for_one [] v = tt
  made-lines size for_one (oldest ∷ sizes) v =
      go (is_full v.slots v.sizes size) (made-lines size for_one sizes (oldest_out Overwritten for_one v).next)
    where
      go : (full : Bool) → AllAre Says (room_made size for_one sizes (oldest_out Overwritten for_one v).next).lines
          → AllAre Says (made_if size for_one full sizes v).lines
      go true rest = (says.leaving _ _ _, (says.gone _, rest))
      go false rest = tt

  put-lines :
      (found : Room) (overwriting : Bool) (message : Spooled) (v : LedgerView)
      → ((number : ℕ) → Says (Happening.Storing number message))
      → IfSome (stored_by found overwriting message v) (λ (booked : Booked). AllAre Says booked.lines)
  put-lines room.Fits overwriting message v puts = (puts _, (says.stored _, tt))
  put-lines room.Full true message v puts =
      are-both Says (with_room message v).lines (put message (with_room message v).next).lines
      (made-lines (size_of message) (Some message) v.sizes v) (puts _, (says.stored _, tt))
  put-lines room.Full false message v puts = (says.discarded _, tt)
  put-lines room.TooLong overwriting message v puts = (says.too_long _, tt)
  put-lines room.NumbersSpent overwriting message v puts = tt

  pub stored-lines :
      (overwriting : Bool) (message : Spooled) (v : LedgerView)
      → ((number : ℕ) → Says (Happening.Storing number message))
      → IfSome (stored overwriting message v) (λ (booked : Booked). AllAre Says booked.lines)
  stored-lines overwriting message v puts =
      put-lines (room_for v (length message.body)) overwriting message v puts

  pub all-out-lines : (v : LedgerView) → AllAre Says (all_out v).lines
  all-out-lines v = go (length v.sizes == 0)
    where
      left : Booked
      left = record {
        next = record v { first = next_of v; sizes = []; works = owed v work.Purge };
        lines = Happening.Leaving v.first Purged None ∷ Happening.Gone v.first ∷ [];
      }

      go : (none : Bool) → AllAre Says (if none then quiet v else left).lines
      go true = tt
      go false = (says.leaving v.first Purged None, (says.gone v.first, tt))

  pub confirmed-lines : (v : LedgerView) → AllAre Says (confirmed v).lines
  confirmed-lines v = go (is_oldest_tried v)
    where
      go : (oldest : Bool)
          → AllAre Says
          (if oldest then and_then (oldest_out Confirmed None v) (λ w. quiet (with_each counted w))
          else quiet (with_each settled v)).lines
      go true = (says.leaving v.first Confirmed None, (says.gone v.first, tt))
      go false = tt

  pub activated-lines : (enabled : Bool) (v : LedgerView) → AllAre Says (activated enabled v).lines
  activated-lines enabled v = go (enabled && not v.is_active)
    where
      go : (begins : Bool) → AllAre Says (if begins then changed true v else quiet v).lines
      go true = (says.spool true, tt)
      go false = tt

  pub rested-lines : (communicating : Bool) (v : LedgerView) → AllAre Says (rested communicating v).lines
  rested-lines communicating v = go (communicating && v.is_active && is_done v)
    where
      go : (ends : Bool) → AllAre Says (if ends then changed false v else quiet v).lines
      go true = (says.spool false, tt)
      go false = tt
