-- What holds of the spool's ledger after every list of calls.
use Rattle.std.specs.Prelude.{◌≡◌, ℕ, Bool, not, ◌+◌, ◌%◌, ◌<◌, ◌≤◌, ◌==◌, List, [], ◌∷◌, ◌++◌, length, sum, filter, filter_map, fold, All, Option, Some, None, unwrap_or}
use Rattle.gem_spool.specs.declared.spool.Room.TheVariants as room
use Rattle.trace_log.specs.Log.{Happening}
use Rattle.trace_log.specs.Log.Happening.{Leaving, Stored, Storing, TooLong}
use Rattle.trace_log.specs.Names.{Spooled, spooled_name}
use Rattle.trace_log.specs.declared.names.Cause.TheVariants.{Confirmed, Overwritten, Purged}
use Rattle.spool_ledger.specs.Activity.{activated, rested}
use Rattle.spool_ledger.specs.Ledger.{Booked, IsLedger, LedgerView, and_then, carried_out, next_of, quiet, room_for, size_of}
use Rattle.spool_ledger.specs.Storing.{all_out, stored, unstored, with_room}
use Rattle.spool_ledger.specs.Unloading.{after_next, confirmed, fresh, let_go, taken_up, with_each, with_unload}

-- ---- lists of calls

pub data Call : Type 0 where
  Store : (message : Spooled) (overwrites : Bool) → Call
  Purge : Call
  Confirm : Call
  Activate : (enabled : Bool) → Call
  Rest : (communicating : Bool) → Call
  BeginUnload : Call
  EndUnload : Call
  NextUnload : (most : ℕ) → Call
  TakeUp : (number system : ℕ) (waiting : Option (List ℕ)) → Call
  Granted : Call
  TakeWorks : Call

-- what a call brings; where the numbers are spent, nothing
abbrev pub brings : Call → LedgerView → Booked
brings (Store message overwrites) v = unwrap_or (stored overwrites message v) (quiet v)
brings Purge v = all_out v
brings Confirm v = confirmed v
brings (Activate enabled) v = activated enabled v
brings (Rest communicating) v = rested communicating v
brings BeginUnload v = quiet (with_unload (Some fresh) v)
brings EndUnload v = quiet (with_unload None v)
brings (NextUnload most) v = quiet (after_next most v)
brings (TakeUp number system waiting) v = taken_up number system waiting v
brings Granted v = quiet (with_each let_go v)
brings TakeWorks v = quiet (carried_out v)

-- the calls one after the other
abbrev pub all_bring : List Call → LedgerView → Booked
all_bring [] v = quiet v
all_bring (call ∷ calls) v = and_then (brings call v) (all_bring calls)

-- what is stored is a primary (SEMI E5, function; SEMI E4, stream)
abbrev pub MayCall : Call → Type 0
MayCall (Store message overwrites) = (message.function % 2 ≡ 1) × (message.stream < 128)
MayCall _ = Unit {0}

-- ---- the list by what was noted

-- each number is behind those that the message before it takes
abbrev pub numbers_from : ℕ → (sizes : List ℕ) → List ℕ
numbers_from first [] = []
numbers_from first (size ∷ sizes) = first ∷ numbers_from (first + size) sizes

abbrev pub numbers_of : LedgerView → List ℕ
numbers_of v = numbers_from v.first v.sizes

abbrev pub without : ℕ → List ℕ → List ℕ
without number = filter (λ other. not (number == other))

-- a message that is stored joins the others; one that leaves is taken out by its number, and a purge takes all out
abbrev pub listed_after : List ℕ → Happening → List ℕ
listed_after numbers (Stored number) = numbers ++ number ∷ []
listed_after numbers (Leaving number Confirmed room_for) = without number numbers
listed_after numbers (Leaving number Overwritten room_for) = without number numbers
listed_after numbers (Leaving number Purged room_for) = []
listed_after numbers _ = numbers

abbrev pub listed : List ℕ → List Happening → List ℕ
listed = fold listed_after

-- the numbers that messages were given
abbrev pub given_by : Happening → Option ℕ
given_by (Stored number) = Some number
given_by _ = None

abbrev pub given_in : List Happening → List ℕ
given_in = filter_map given_by

-- and the sizes of these messages
abbrev pub size_by : Happening → Option ℕ
size_by (Storing number message) = Some (size_of message)
size_by _ = None

abbrev pub sizes_in : List Happening → List ℕ
sizes_in = filter_map size_by

-- ---- the laws

-- whatever is called: the works are due and come to the list as it is decided; the list that was noted is that one; the
-- messages that were put have the numbers from the next one on; and the oldest number never falls, so that a message
-- that was taken up as the oldest is the oldest still, or has left
pub record HasCome (v : LedgerView) (booked : Booked) : Type 0 where
  pub is : IsLedger booked.next
  pub list : listed (numbers_of v) booked.lines ≡ numbers_of booked.next
  pub rise : given_in booked.lines ≡ numbers_from (next_of v) (sizes_in booked.lines)
  pub next : next_of booked.next ≡ next_of v + sum (sizes_in booked.lines)
  pub no_lower : v.first ≤ booked.next.first

pub record LedgersAreLawful : Type 0 where
  pub keeps : (v : LedgerView) (calls : List Call) → IsLedger v → All MayCall calls → HasCome v (all_bring calls v)
  -- in a full spool room is made for each message that isn't too long, so that to ask again is to find room
  pub makes_room :
      (v : LedgerView) (message : Spooled) → IsLedger v → room_for v (length message.body) ≡ room.Full
      → room_for (with_room message v).next (length message.body) ≡ room.Fits
  -- and nothing is removed for one that could never be put
  pub keeps_all :
      (v : LedgerView) (message : Spooled) (overwrites : Bool) → v.slots < size_of message
      → stored overwrites message v ≡ Some (unstored (TooLong (spooled_name message)) v)
