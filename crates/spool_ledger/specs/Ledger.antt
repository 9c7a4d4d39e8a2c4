-- What is decided of the spool before the disk has it (this profile).
use Rattle.std.specs.Prelude.{◌≡◌, ℕ, Bool, ◌+◌, ◌^◌, ◌<◌, ◌≤◌, nat_lt, All, List, [], ◌∷◌, ◌++◌, length, sum, Option, Some, None}
use Rattle.gem_spool.specs.Spool.{room_in}
use Rattle.gem_spool.specs.Works.{AreDue, counts_after}
use Rattle.gem_spool.specs.declared.count.Count.{Count}
use Rattle.gem_spool.specs.declared.spool.Room.{Room}
use Rattle.gem_spool.specs.declared.works.Work.{Work}
use Rattle.spool_file.specs.Sizes.{slots_for}
use Rattle.trace_log.specs.Log.{Happening}
use Rattle.trace_log.specs.Names.{Spooled}
use Rattle.spool_ledger.specs.Sizes.{AreSizedBy, all_sizes_after}
use Rattle.spool_ledger.specs.declared.unload.Unload.{Unload}

-- a list by its numbers: that of the oldest message, or of the next one where there is none, and how many slots each
-- takes, the oldest first
pub record Numbered : Type 0 where
  pub first : ℕ
  pub sizes : List ℕ

-- how many slots there are; the list as it is decided, and as the disk has it, with the works that it owes, in their
-- order; whether the spool is active; and the unload that runs
pub record LedgerView : Type 0 where
  pub slots : ℕ
  pub first : ℕ
  pub sizes : List ℕ
  pub stood : Numbered
  pub works : List Work
  pub is_active : Bool
  pub unload : Option Unload

-- the number of the next message: each takes as many numbers as slots
abbrev pub next_of : LedgerView → ℕ
next_of v = v.first + sum v.sizes

-- what decides whether there is room, in a file of version 2
abbrev pub count_by : (slots : ℕ) → Numbered → Count
count_by slots list = record {
  version = 2;
  slots = slots;
  next = list.first + sum list.sizes;
  len = length list.sizes;
  used = sum list.sizes;
}

-- of the list as it is decided, and as the disk has it
abbrev pub decided_count : LedgerView → Count
decided_count v = count_by v.slots (record { first = v.first; sizes = v.sizes })

abbrev pub stood_count : LedgerView → Count
stood_count v = count_by v.slots v.stood

-- ---- what there is room for

-- how many slots a message takes
abbrev pub size_of : Spooled → ℕ
size_of message = slots_for (length message.body)

-- of so many slots, where messages of these sizes stand, those that are left aren't enough for one of this size
abbrev pub is_full : (slots : ℕ) → List ℕ → (size : ℕ) → Bool
is_full slots sizes size = nat_lt slots (sum sizes + size)

-- for a body of this length
abbrev pub room_for : LedgerView → ℕ → Room
room_for v long = room_in (decided_count v) long

-- how many messages an unload has confirmed
abbrev pub confirmed_of : Option Unload → ℕ
confirmed_of None = 0
confirmed_of (Some unload) = unload.confirmed

abbrev pub IsSome : ℕ → Type 0
IsSome size = 1 ≤ size

-- each work finds room, or its message, when its turn comes, and all of them make of the disk's list the one decided
pub record IsLedger (v : LedgerView) : Type 0 where
  pub some : 0 < v.slots
  pub most : v.slots ≤ 65535
  pub room : sum v.sizes ≤ v.slots
  -- each message takes a slot at least
  pub each : All IsSome v.sizes
  pub bound : v.first + sum v.sizes ≤ 2 ^ 63 + 65535
  pub confirmed : confirmed_of v.unload ≤ v.first
  pub due : AreDue (stood_count v) v.works
  pub sized : AreSizedBy v.stood.sizes v.works
  pub come_to : counts_after (stood_count v) v.works ≡ decided_count v
  pub leave : all_sizes_after v.stood.sizes v.works ≡ v.sizes

-- a spool that is taken up, with messages of these sizes: it is active where its list isn't empty (SEMI E30, spooling),
-- and owes nothing
abbrev pub new_ledger : (slots first : ℕ) → List ℕ → LedgerView
new_ledger slots first sizes = record {
  slots = slots;
  first = first;
  sizes = sizes;
  stood = record { first = first; sizes = sizes };
  works = [];
  is_active = nat_lt 0 (length sizes);
  unload = None;
}

-- the disk has all that was owed
abbrev pub carried_out : LedgerView → LedgerView
carried_out v = record v {
  stood = record { first = v.first; sizes = v.sizes };
  works = [];
}

-- a work more is owed
abbrev pub owed : LedgerView → Work → List Work
owed v one = v.works ++ one ∷ []

-- ---- what a call brings

-- the ledger then, and what is noted on the way
pub record Booked : Type 0 where
  pub next : LedgerView
  pub lines : List Happening

abbrev pub quiet : LedgerView → Booked
quiet next = record { next = next; lines = [] }

-- one call behind the other
abbrev pub and_then : Booked → (LedgerView → Booked) → Booked
and_then booked call = record {
  next = (call booked.next).next;
  lines = booked.lines ++ (call booked.next).lines;
}
