-- What the spool of an equipment holds, as the equipment's own notes tell it, and what the equipment owes for each of
-- these notes. Notes have the newest first; the spool has the oldest message first.
use Rattle.std.specs.Prelude.{◌≡◌, ◌<◌, ◌≤◌, ◌==◌, ℕ, Bool, true, false, List, [], ◌∷◌, ◌++◌, drop, length, Option, Some, None, option_to_list, if◌then◌else◌}
use Rattle.message_end.specs.Own.{Has}
use Rattle.message_flow.specs.declared.message.Message.{Message}
use Rattle.message_flow.specs.Message.{is_primary}
use Rattle.trace_log.specs.declared.names.Cause.{Cause}
use Rattle.trace_log.specs.declared.names.Cause.TheVariants as cause
use Rattle.trace_log.specs.Log.{Happening}
use Rattle.trace_log.specs.Names.{Spooled}

-- ---- what a note says of the spool

pub data Change : Type 0 where
  -- the equipment has started, with these messages in its spool
  Finds : (found : List (ℕ × Spooled)) → Change
  -- before and after a message is put into the spool, and before and after one is removed, perhaps to make room for
  -- another
  Stores : (number : ℕ) (message : Spooled) → Change
  HasStored : (number : ℕ) → Change
  Leaves : (number : ℕ) (cause : Cause) (room_for : Option Spooled) → Change
  HasGone : (number : ℕ) → Change
  -- the message of a number goes out next, with these system bytes
  Tries : (number system : ℕ) → Change
  -- the equipment has sent a message, or received one; a note of something else
  Sends : (message : Message) → Change
  Receives : (message : Message) → Change
  Other : Change

abbrev pub change_of : Happening → Change
change_of (Happening.EquipmentStarted found base) = Finds found
change_of (Happening.Storing number message) = Stores number message
change_of (Happening.Stored number) = HasStored number
change_of (Happening.Leaving number why room_for) = Leaves number why room_for
change_of (Happening.Gone number) = HasGone number
change_of (Happening.Try number system) = Tries number system
change_of (Happening.Sent message) = Sends message
change_of (Happening.Received message) = Receives message
change_of _ = Other

-- how many of so many messages leave for a cause, or for none: one is confirmed or overwritten, and a purge takes all
-- (SEMI E30, spooling)
abbrev pub leaves_by : Cause → ℕ → ℕ
leaves_by cause.Confirmed count = 1
leaves_by cause.Purged count = count
leaves_by cause.Overwritten count = 1

abbrev pub leaving_of : Option Cause → ℕ → ℕ
leaving_of None count = 0
leaving_of (Some why) count = leaves_by why count

-- ---- what the spool holds

pub record Tried : Type 0 where
  pub number : ℕ
  pub system : ℕ

-- system bytes, and the message that is to go out with them
pub record Told : Type 0 where
  pub system : ℕ
  pub message : Spooled

-- the messages that stand, each with its number; the one that is being stored; why some are leaving; the last try,
-- where its message still stands first; and what was tried in this start, the newest first
pub record Shelf : Type 0 where
  pub stands : List (ℕ × Spooled)
  pub storing : Option (ℕ × Spooled)
  pub leaving : Option Cause
  pub tried : Option Tried
  pub told : List Told

abbrev pub empty_shelf : Shelf
empty_shelf = record { stands = []; storing = None; leaving = None; tried = None; told = [] }

-- what stands first is to go out
abbrev pub told_first : List (ℕ × Spooled) → ℕ → List Told → List Told
told_first [] system told = told
told_first (first ∷ rest) system told = record { system = system; message = first.1 } ∷ told

abbrev pub told_with : ℕ → List Told → Option Spooled
told_with system [] = None
told_with system (one ∷ before) = if one.system == system then Some one.message else told_with system before

abbrev pub shelf_changed : Change → Shelf → Shelf
shelf_changed (Finds found) shelf = record { stands = found; storing = None; leaving = None; tried = None; told = [] }
shelf_changed (Stores number message) shelf = record shelf { storing = Some (number, message) }
shelf_changed (HasStored number) shelf =
    record shelf { stands = shelf.stands ++ option_to_list shelf.storing; storing = None }
shelf_changed (Leaves number why room_for) shelf = record shelf { leaving = Some why }
shelf_changed (HasGone number) shelf =
    record shelf {
      stands = drop (leaving_of shelf.leaving (length shelf.stands)) shelf.stands;
      leaving = None;
      tried = None;
    }
shelf_changed (Tries number system) shelf =
    record shelf {
      tried = Some (record { number = number; system = system });
      told = told_first shelf.stands system shelf.told;
    }
shelf_changed (Sends message) shelf = shelf
shelf_changed (Receives message) shelf = shelf
shelf_changed Other shelf = shelf

-- over all starts: only a start says what has become of the spool without power
abbrev pub shelf_of : List Happening → Shelf
shelf_of [] = empty_shelf
shelf_of (what ∷ before) = shelf_changed (change_of what) (shelf_of before)

-- ---- what was received since the last start

abbrev pub received_behind : Change → List Message → List Message
received_behind (Finds found) since = []
received_behind (Receives message) since = message ∷ since
received_behind _ since = since

abbrev pub received_since : List Happening → List Message
received_since [] = []
received_since (what ∷ before) = received_behind (change_of what) (received_since before)

-- ---- the law of the notes

-- what is told by other crates: that a request asks for the spool to be emptied; that beside these messages there is
-- room for another one; and that, after all that was noted, the oldest may be overwritten (SEMI E30, spooling)
pub record Policy : Type 0 where
  pub purges : Message → Bool
  pub has_room : List (ℕ × Spooled) → Spooled → Bool
  pub overwrites : List Happening → Bool

-- nothing is being stored, and nothing is leaving
pub record IsAtRest (shelf : Shelf) : Type 0 where
  pub none_stored : shelf.storing ≡ None
  pub none_leaves : shelf.leaving ≡ None

-- the first message that stands has this number
abbrev pub IsFirst : List (ℕ × Spooled) → ℕ → Type 0
IsFirst [] number = ⊥
IsFirst (first ∷ rest) number = first.0 ≡ number

-- of the message that was being stored, all or nothing is there
abbrev pub stored_if : {X : Type 0} → Bool → Option X → List X
stored_if true storing = option_to_list storing
stored_if false storing = []

-- what stood is found again, in order; but messages that were leaving may be missing from the front, and the one that
-- was being stored may stand last (this profile)
pub record IsFoundOf {X : Type 0}
    (stands : List X) (storing : Option X) (leaving : Option Cause) (found : List X)
    : Type 0 where
  pub missing : ℕ
  pub stored : Bool
  pub at_most : missing ≤ leaving_of leaving (length stands)
  pub is : found ≡ drop missing stands ++ stored_if stored storing

-- a message is put behind all others, with a number above theirs, where there is room beside them
pub record MayStore (policy : Policy) (shelf : Shelf) (number : ℕ) (message : Spooled) : Type 0 where
  pub rest : IsAtRest shelf
  pub above : (one : ℕ × Spooled) → Has shelf.stands one → one.0 < number
  pub room : policy.has_room shelf.stands message ≡ true

pub record MayHaveStored (shelf : Shelf) (number : ℕ) : Type 0 where
  pub message : Spooled
  pub is : shelf.storing ≡ Some (number, message)

-- a reply to the last try was received in this start, and the message tried still stands first (SEMI E30, spooling)
pub record IsConfirmed (shelf : Shelf) (received : List Message) : Type 0 where
  pub tried : Tried
  pub is : shelf.tried ≡ Some tried
  pub reply : Message
  pub has : Has received reply
  pub secondary : is_primary reply ≡ false
  pub system : reply.system ≡ tried.system

-- the message that was received last, in this start, is a request to purge the spool
abbrev pub IsPurge : Policy → List Message → Type 0
IsPurge policy [] = ⊥
IsPurge policy (newest ∷ before) = policy.purges newest ≡ true

-- beside these messages there is no room for this one, and there would be if none of them stood; and the oldest may be
-- overwritten
pub record WantsRoom (policy : Policy) (notes : List Happening) (stands : List (ℕ × Spooled)) (message : Spooled)
    : Type 0 where
  pub full : policy.has_room stands message ≡ false
  pub fits : policy.has_room [] message ≡ true
  pub overwrites : policy.overwrites notes ≡ true

abbrev pub IsOverwrittenFor : Policy → List Happening → List (ℕ × Spooled) → Option Spooled → Type 0
IsOverwrittenFor policy notes stands None = ⊥
IsOverwrittenFor policy notes stands (Some message) = WantsRoom policy notes stands message

-- room is made for a message by an overwriting alone
abbrev pub MayLeaveFor : Policy → List Happening → Cause → Option Spooled → Type 0
MayLeaveFor policy notes cause.Confirmed room_for =
    IsConfirmed (shelf_of notes) (received_since notes) × (room_for ≡ None)
MayLeaveFor policy notes cause.Purged room_for = IsPurge policy (received_since notes) × (room_for ≡ None)
MayLeaveFor policy notes cause.Overwritten room_for =
    IsOverwrittenFor policy notes (shelf_of notes).stands room_for

-- the first message leaves, or a purge that names the first one takes all
pub record MayLeave (policy : Policy) (notes : List Happening) (number : ℕ) (why : Cause) (room_for : Option Spooled)
    : Type 0 where
  pub rest : IsAtRest (shelf_of notes)
  pub first : IsFirst (shelf_of notes).stands number
  pub cause : MayLeaveFor policy notes why room_for

pub record MayHaveGone (shelf : Shelf) (number : ℕ) : Type 0 where
  pub cause : Cause
  pub is : shelf.leaving ≡ Some cause
  pub first : IsFirst shelf.stands number

-- the message that was sent is this one of the spool
pub record Carries (message : Spooled) (sent : Message) : Type 0 where
  pub stream : sent.stream ≡ message.stream
  pub function : sent.function ≡ message.function
  pub wait : sent.wait ≡ true
  pub body : sent.body ≡ message.body

-- with the system bytes of a try goes out what stood first at it
abbrev pub MaySendTried : List Told → Message → Type 0
MaySendTried told sent =
    is_primary sent ≡ true → (message : Spooled) → told_with sent.system told ≡ Some message → Carries message sent

-- each change at the notes before it. A message goes out next that stands first
abbrev pub MayChange : Policy → List Happening → Change → Type 0
MayChange policy notes (Finds found) =
    let shelf = shelf_of notes in IsFoundOf shelf.stands shelf.storing shelf.leaving found
MayChange policy notes (Stores number message) = MayStore policy (shelf_of notes) number message
MayChange policy notes (HasStored number) = MayHaveStored (shelf_of notes) number
MayChange policy notes (Leaves number why room_for) = MayLeave policy notes number why room_for
MayChange policy notes (HasGone number) = MayHaveGone (shelf_of notes) number
MayChange policy notes (Tries number system) = IsFirst (shelf_of notes).stands number
MayChange policy notes (Sends message) = MaySendTried (shelf_of notes).told message
MayChange policy notes (Receives message) = Unit {0}
MayChange policy notes Other = Unit {0}

-- the equipment keeps it over all its notes. Its first start finds nothing, since nothing was noted before
abbrev pub KeepsSpool : Policy → List Happening → Type 0
KeepsSpool policy [] = Unit {0}
KeepsSpool policy (what ∷ before) = MayChange policy before (change_of what) × KeepsSpool policy before

-- ---- over a file of an earlier run

-- the first of all notes is a start that finds these messages; each later one agrees with all before it
abbrev pub StartsWith : List (ℕ × Spooled) → Change → Type 0
StartsWith held (Finds found) = found ≡ held
StartsWith held _ = ⊥

abbrev pub MayFollow : Policy → List (ℕ × Spooled) → List Happening → Change → Type 0
MayFollow policy held [] change = StartsWith held change
MayFollow policy held (newest ∷ before) change = MayChange policy (newest ∷ before) change

-- the law of the notes, over a file that held these messages before the first of them (this profile)
abbrev pub KeepsSpoolFrom : Policy → List (ℕ × Spooled) → List Happening → Type 0
KeepsSpoolFrom policy held [] = Unit {0}
KeepsSpoolFrom policy held (what ∷ before) =
    MayFollow policy held before (change_of what) × KeepsSpoolFrom policy held before
