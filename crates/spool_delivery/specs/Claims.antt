-- What is claimed of the spool in a log.
use Rattle.std.specs.Prelude.{◌≡◌, ◌<◌, ℕ, true, false, Option, None, Some, List, [], ◌∷◌, ◌++◌, All, map, option_map}
use Rattle.gl_base.specs.declared.side.Side.{Side}
use Rattle.gl_base.specs.declared.side.Side.TheVariants.{Equipment, Host}
use Rattle.message_end.specs.Own.{Has}
use Rattle.message_flow.specs.declared.message.Message.{Message}
use Rattle.message_flow.specs.Message.{is_primary}
use Rattle.trace_log.specs.declared.names.Cause.{Cause}
use Rattle.trace_log.specs.declared.names.Cause.TheVariants as cause
use Rattle.trace_log.specs.Delivered.{sends_like}
use Rattle.trace_log.specs.Log.{Entry, Happening}
use Rattle.trace_log.specs.Log.Entry.{Noted}
use Rattle.trace_log.specs.Names.{Spooled}
use Rattle.spool_law.specs.Shelf.{Carries, IsFoundOf, IsOverwrittenFor, IsPurge, Policy, received_since}
use Rattle.spool_law.specs.Shelf.Change.{Finds, HasGone, HasStored, Leaves, Sends, Stores, Tries}
use Rattle.spool_delivery.specs.Account.{Account, Put, Turn, account_of, counted, folded, tried_with, turn_of}
use Rattle.spool_delivery.specs.Account.Turn.{Changes}

-- what the equipment has noted, over all its starts
abbrev pub note_of : Side → Happening → List Happening → List Happening
note_of Equipment what notes = what ∷ notes
note_of Host what notes = notes

abbrev pub with_note_of : Entry → List Happening → List Happening
with_note_of (Noted moment side what) notes = note_of side what notes
with_note_of _ notes = notes

abbrev pub equipment_notes : List Entry → List Happening
equipment_notes [] = []
equipment_notes (entry ∷ before) = with_note_of entry (equipment_notes before)

abbrev pub numbered : Put → ℕ × Spooled
numbered put = (put.number, put.message)

abbrev pub stands_in : Account → List (ℕ × Spooled)
stands_in account = map numbered account.standing

-- a put leaves as confirmed only where the host has taken it (this profile); as purged only where the message that the
-- equipment has received last, in this start, asks for it, and as overwritten only where the spool has no room for the
-- message that is to be put, though it could be put, and may overwrite (SEMI E30, spooling)
abbrev pub HasCause : Policy → List Entry → Put → Cause → Option Spooled → Type 0
HasCause policy before put cause.Confirmed room_for = Has (account_of before).taken put × (room_for ≡ None)
HasCause policy before put cause.Purged room_for =
    IsPurge policy (received_since (equipment_notes before)) × (room_for ≡ None)
HasCause policy before put cause.Overwritten room_for =
    IsOverwrittenFor policy (equipment_notes before) (stands_in (account_of before)) room_for

-- nothing is being stored, and nothing is leaving
pub record IsQuiet (account : Account) : Type 0 where
  pub none_stored : account.storing ≡ None
  pub none_leaves : account.leaving ≡ None

-- a message is put behind all others, with a number above theirs, where there is room beside them
pub record IsPutBehind (policy : Policy) (account : Account) (number : ℕ) (message : Spooled) : Type 0 where
  pub quiet : IsQuiet account
  pub above : (one : Put) → Has account.standing one → one.number < number
  pub room : policy.has_room (stands_in account) message ≡ true

-- the one that is being stored has this number
pub record IsStored (account : Account) (number : ℕ) : Type 0 where
  pub put : Put
  pub is : account.storing ≡ Some put
  pub number_is : put.number ≡ number

-- the put that stands first leaves, and has a cause
pub record LeavesFirst
    (policy : Policy) (before : List Entry) (number : ℕ) (why : Cause) (room_for : Option Spooled)
    : Type 0 where
  pub quiet : IsQuiet (account_of before)
  pub put : Put
  pub rest : List Put
  pub first : (account_of before).standing ≡ put ∷ rest
  pub number_is : put.number ≡ number
  pub cause : HasCause policy before put why room_for

-- the put that stands first has this number
pub record IsFirstPut (standing : List Put) (number : ℕ) : Type 0 where
  pub put : Put
  pub rest : List Put
  pub first : standing ≡ put ∷ rest
  pub number_is : put.number ≡ number

-- some are leaving, and the put that stands first has this number
pub record IsGone (account : Account) (number : ℕ) : Type 0 where
  pub cause : Cause
  pub is : account.leaving ≡ Some cause
  pub first : IsFirstPut account.standing number

-- the equipment has sent no primary with these system bytes, in no start
abbrev pub IsNew : ℕ → List Entry → Type 0
IsNew system before =
    (message : Message) → message.system ≡ system → All (λ entry. sends_like Equipment message entry ≡ false) before

-- what is tried is the first that stands, with new system bytes that no other try has had
pub record TriesFirst (before : List Entry) (number system : ℕ) : Type 0 where
  pub first : IsFirstPut (account_of before).standing number
  pub new : IsNew system before
  pub untried : tried_with system (account_of before).tries ≡ None

-- a message that goes out with the system bytes of a try is that of the put
abbrev pub CarriesPut : Account → Message → Type 0
CarriesPut account sent =
    is_primary sent ≡ true → (put : Put) → tried_with sent.system account.tries ≡ Some put → Carries put.message sent

abbrev pub IsKeptBy : Policy → Turn → List Entry → Type 0
IsKeptBy policy (Changes (Finds found)) before =
    let account = account_of before in
    IsFoundOf (stands_in account) (option_map numbered account.storing) account.leaving found
IsKeptBy policy (Changes (Stores number message)) before = IsPutBehind policy (account_of before) number message
IsKeptBy policy (Changes (HasStored number)) before = IsStored (account_of before) number
IsKeptBy policy (Changes (Leaves number why room_for)) before = LeavesFirst policy before number why room_for
IsKeptBy policy (Changes (HasGone number)) before = IsGone (account_of before) number
IsKeptBy policy (Changes (Tries number system)) before = TriesFirst before number system
IsKeptBy policy (Changes (Sends message)) before = CarriesPut (account_of before) message
IsKeptBy policy _ before = Unit {0}

-- each start of the equipment finds what stood, in order; but messages that were leaving may be missing from the front,
-- and the one that was being stored may stand last; so the first start finds nothing. What is stored goes behind all
-- others, with a number above theirs, and has room beside them; what leaves is the first that stands, or all by a
-- purge, with a cause; and nothing is stored or leaves while another one is stored or leaving. What is tried is the
-- first that stands, with new system bytes, and goes out as it was put (this profile)
abbrev pub SpoolIsKept : Policy → List Entry → Type 0
SpoolIsKept policy [] = Unit {0}
SpoolIsKept policy (entry ∷ before) = IsKeptBy policy (turn_of entry) before × SpoolIsKept policy before

-- what the host has taken, with neighbours that are equal as one, are the first of the puts that count: it takes them
-- in order and skips none
pub record IsTakenInOrder (account : Account) : Type 0 where
  pub later : List Put
  pub is : counted account ≡ folded account.taken ++ later

-- at each entry of a log (this profile)
abbrev pub TakenInOrder : List Entry → Type 0
TakenInOrder [] = Unit {0}
TakenInOrder (entry ∷ before) = IsTakenInOrder (account_of (entry ∷ before)) × TakenInOrder before
