-- How messages come to the spool and leave it.
use Rattle.std.specs.Prelude.{◌≡◌, ℕ, Bool, true, false, ◌+◌, ◌==◌, List, [], ◌∷◌, ◌++◌, drop, length, Option, Some, None, Result, Ok, Err, if◌then◌else◌}
use Rattle.std.specs.Option.{option_map}
use Rattle.gem_spool.specs.declared.spool.Room.{Room}
use Rattle.gem_spool.specs.declared.spool.Room.TheVariants as room
use Rattle.gem_spool.specs.declared.works.Work.TheVariants as work
use Rattle.message_end.specs.Ends.{printed}
use Rattle.message_end.specs.declared.end.Stop.{Stop}
use Rattle.message_end.specs.declared.end.Stop.TheVariants as stop
use Rattle.message_flow.specs.declared.step.Note.{Note}
use Rattle.message_flow.specs.declared.step.StepOut.{StepOut}
use Rattle.trace_log.specs.Log.{Happening}
use Rattle.trace_log.specs.Log.Happening.{Discarded, Gone, Leaving, Stored, Storing, TooLong}
use Rattle.trace_log.specs.Names.{Spooled, spooled_name}
use Rattle.trace_log.specs.declared.names.Cause.{Cause}
use Rattle.trace_log.specs.declared.names.Cause.TheVariants.{Overwritten, Purged}
use Rattle.spool_ledger.specs.Ledger.{Booked, LedgerView, and_then, is_full, next_of, owed, quiet, room_for, size_of}
use Rattle.spool_ledger.specs.Sizes.{oldest_of}

-- a primary of this stream and function
abbrev pub spooled : ℕ → ℕ → List ℕ → Spooled
spooled stream function body = record { stream = stream; function = function; body = body }

-- a message comes to the end of the list, with the next number
abbrev pub put : Spooled → LedgerView → Booked
put message v = record {
  next = record v {
    sizes = v.sizes ++ size_of message ∷ [];
    works = owed v (work.Put message.stream message.function message.body);
  };
  lines = Storing (next_of v) message ∷ Stored (next_of v) ∷ [];
}

-- the oldest message leaves, perhaps to make room for another
abbrev pub oldest_out : Cause → Option Spooled → LedgerView → Booked
oldest_out cause for_one v = record {
  next = record v {
    first = v.first + oldest_of v.sizes;
    sizes = drop 1 v.sizes;
    works = owed v (work.DropOldest (oldest_of v.sizes));
  };
  lines = Leaving v.first cause for_one ∷ Gone v.first ∷ [];
}

-- all messages leave; of an empty list nothing is noted
abbrev pub all_out : LedgerView → Booked
all_out v =
    if length v.sizes == 0 then quiet v
    else record {
      next = record v { first = next_of v; sizes = []; works = owed v work.Purge };
      lines = Leaving v.first Purged None ∷ Gone v.first ∷ [];
    }

-- the oldest ones leave, one by one, as long as there is no room for a message of this size
abbrev pub room_made : (size : ℕ) → Option Spooled → List ℕ → LedgerView → Booked
room_made size for_one [] v = quiet v
room_made size for_one (oldest ∷ sizes) v =
    if is_full v.slots v.sizes size
    then and_then (oldest_out Overwritten for_one v) (room_made size for_one sizes)
    else quiet v

abbrev pub with_room : Spooled → LedgerView → Booked
with_room message v = room_made (size_of message) (Some message) v.sizes v

-- a message that isn't put
abbrev pub unstored : Happening → LedgerView → Booked
unstored what v = record { next = v; lines = what ∷ [] }

-- a message is stored where there is room; in a full spool it takes the place of the oldest ones, where the spool is to
-- be overwritten (SEMI E30, OverWriteSpool); None where it would get no number
abbrev pub stored_by : Room → Bool → Spooled → LedgerView → Option Booked
stored_by room.Fits overwrites message v = Some (put message v)
stored_by room.Full true message v = Some (and_then (with_room message v) (put message))
stored_by room.Full false message v = Some (unstored (Discarded (spooled_name message)) v)
stored_by room.TooLong overwrites message v = Some (unstored (TooLong (spooled_name message)) v)
stored_by room.NumbersSpent overwrites message v = None

abbrev pub stored : Bool → Spooled → LedgerView → Option Booked
stored overwrites message v = stored_by (room_for v (length message.body)) overwrites message v

-- the ledger behind a call, with all notes so far, by those before it
pub record Account : Type 0 where
  pub ledger : LedgerView
  pub notes : List Note

abbrev pub account_of : List Note → Booked → Account
account_of notes booked = record { ledger = booked.next; notes = notes ++ printed booked.lines }

-- unless memory runs out, this is what comes of it; where the numbers are spent, nothing
abbrev pub Books : Option Booked → LedgerView → StepOut → LedgerView → StepOut → Result (Unit {0}) Stop → Type 0
Books booked old out_old new out_new (Ok done) =
    option_map (account_of out_old.notes) booked ≡ Some (record { ledger = new; notes = out_new.notes })
Books booked old out_old new out_new (Err stop.NumbersSpent) =
    (booked ≡ None) × (new ≡ old) × (out_new ≡ out_old)
Books booked old out_old new out_new (Err stop.Full) = ⊥
Books booked old out_old new out_new (Err stop.DiskFailed) = ⊥
Books booked old out_old new out_new (Err stop.NoMemory) = Unit {0}
