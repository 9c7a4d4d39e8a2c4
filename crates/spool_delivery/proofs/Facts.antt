-- What a line and its ends give to a log, from which all that is claimed follows.
use Rattle.std.specs.Prelude.{◌≡◌, ◌≤◌, true, List, [], ◌∷◌, None, Some}
use Rattle.message_end.specs.Own.{Has}
use Rattle.message_flow.specs.declared.message.Message.{Message}
use Rattle.message_flow.specs.Message.{is_primary}
use Rattle.trace_log.specs.declared.names.Cause.{Cause}
use Rattle.trace_log.specs.declared.names.Cause.TheVariants as cause
use Rattle.trace_log.specs.Log.{Entry, Happening}
use Rattle.spool_law.specs.Shelf.{Change, MayChange, Policy}
use Rattle.spool_law.specs.Shelf.Change.{Leaves, Sends, Tries}
use Rattle.spool_delivery.specs.Account.{Account, Put, Turn, account_of, tried_with, turn_of}
use Rattle.spool_delivery.specs.Account.Turn.{Changes, Quiet, Takes}
use Rattle.spool_delivery.specs.Claims.{CarriesPut, IsNew, equipment_notes}

-- the host receives no put of an earlier try behind one of a later try
abbrev pub IsTakenBehind : Message → Account → Type 0
IsTakenBehind message account =
    (put : Put) → is_primary message ≡ true → tried_with message.system account.tries ≡ Some put
    → (taken : Put) → Has account.taken taken → taken.place ≤ put.place

-- what is confirmed was taken by the host
abbrev pub IsTakenFor : Cause → Account → Type 0
IsTakenFor cause.Confirmed account =
    (put : Put) (rest : List Put) → account.standing ≡ put ∷ rest → Has account.taken put
IsTakenFor cause.Purged account = Unit {0}
IsTakenFor cause.Overwritten account = Unit {0}

-- and with the system bytes of a try goes out what was put
abbrev pub IsBacked : Change → Account → Type 0
IsBacked (Leaves number why room_for) account = IsTakenFor why account
IsBacked (Sends message) account = CarriesPut account message
IsBacked _ account = Unit {0}

abbrev pub IsFact : Policy → Turn → List Happening → Account → Type 0
IsFact policy (Changes change) notes account = MayChange policy notes change × IsBacked change account
IsFact policy (Takes message) notes account = IsTakenBehind message account
IsFact policy Quiet notes account = Unit {0}

-- a try has new system bytes
abbrev pub HasNew : Change → List Entry → Type 0
HasNew (Tries number system) before =
    IsNew system before × (tried_with system (account_of before).tries ≡ None)
HasNew _ before = Unit {0}

abbrev pub IsNewIn : Turn → List Entry → Type 0
IsNewIn (Changes change) before = HasNew change before
IsNewIn _ before = Unit {0}

-- the equipment keeps the law of its notes, each put that is confirmed was taken by the host, what goes out of tries is
-- what was put, with new system bytes, and what the host receives of tries comes in their order
abbrev pub AreFacts : Policy → List Entry → Type 0
AreFacts policy [] = Unit {0}
AreFacts policy (entry ∷ before) =
    (IsFact policy (turn_of entry) (equipment_notes before) (account_of before) × IsNewIn (turn_of entry) before)
    × AreFacts policy before
