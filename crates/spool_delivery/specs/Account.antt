-- What a log tells of the spool of the equipment: what was put into it, what stands, and what the host has taken. Logs
-- have the newest entry first; lists of puts have the oldest first.
use Rattle.std.specs.Prelude.{◌&&◌, ◌==◌, ℕ, Bool, true, false, not, List, [], ◌∷◌, ◌++◌, map, filter, take, drop, length, Option, Some, None, option_to_list, if◌then◌else◌}
use Rattle.gl_base.specs.declared.side.Side.{Side}
use Rattle.gl_base.specs.declared.side.Side.TheVariants.{Equipment, Host}
use Rattle.message_flow.specs.declared.message.Message.{Message}
use Rattle.message_flow.specs.Message.{is_primary}
use Rattle.trace_log.specs.declared.names.Cause.{Cause}
use Rattle.trace_log.specs.declared.names.Cause.TheVariants as cause
use Rattle.trace_log.specs.Log.{Entry, Happening}
use Rattle.trace_log.specs.Log.Entry.{Noted}
use Rattle.trace_log.specs.Log.Happening.{Received}
use Rattle.trace_log.specs.Names.{Spooled}
use Rattle.spool_law.specs.Shelf.{Change, change_of, leaving_of}
use Rattle.spool_law.specs.Shelf.Change.{Finds, HasGone, HasStored, Leaves, Other, Receives, Sends, Stores, Tries}

-- a message that was put into the spool: by the place of its entry in the log, which is how many entries stand before
-- it, and never by what it says
pub record Put : Type 0 where
  pub place : ℕ
  pub number : ℕ
  pub message : Spooled

-- a put that has left the spool, and why; and system bytes with the put that was to go out with them
pub record Removal : Type 0 where
  pub put : Put
  pub cause : Cause

pub record Try : Type 0 where
  pub system : ℕ
  pub put : Put

-- of a log: each message that was to be stored, the newest first; the one that is being stored; the puts; those that
-- stand; why some are leaving; those that have left; the tries, the newest first; and the puts that the host has taken,
-- each as often as it has taken it
pub record Account : Type 0 where
  pub stores : List Put
  pub storing : Option Put
  pub puts : List Put
  pub standing : List Put
  pub leaving : Option Cause
  pub removed : List Removal
  pub tries : List Try
  pub taken : List Put

abbrev pub new_account : Account
new_account = record {
  stores = [];
  storing = None;
  puts = [];
  standing = [];
  leaving = None;
  removed = [];
  tries = [];
  taken = [];
}

-- ---- a start

-- a number names the message that was stored last with it
abbrev pub named_by : ℕ → List Put → Option Put
named_by number [] = None
named_by number (put ∷ before) = if put.number == number then Some put else named_by number before

abbrev pub puts_found : List Put → List (ℕ × Spooled) → List Put
puts_found stores [] = []
puts_found stores (one ∷ found) = option_to_list (named_by one.0 stores) ++ puts_found stores found

-- the spool holds a message of the put's number
abbrev pub is_found : List (ℕ × Spooled) → Put → Bool
is_found [] put = false
is_found (one ∷ found) put = if one.0 == put.number then true else is_found found put

abbrev pub is_lost : List (ℕ × Spooled) → Put → Bool
is_lost found put = not (is_found found put)

-- ---- the first ones that leave

abbrev pub leaving_puts : Option Cause → List Put → List Put
leaving_puts leaving standing = take (leaving_of leaving (length standing)) standing

abbrev pub staying_puts : Option Cause → List Put → List Put
staying_puts leaving standing = drop (leaving_of leaving (length standing)) standing

abbrev pub removal_for : Cause → Put → Removal
removal_for why put = record { put = put; cause = why }

abbrev pub removed_for : Option Cause → List Put → List Removal
removed_for None puts = []
removed_for (Some why) puts = map (removal_for why) puts

-- ---- tries

-- a try names the put that stands first, where that has its number
abbrev pub tried_first : List Put → (number system : ℕ) → List Try → List Try
tried_first [] number system tries = tries
tried_first (put ∷ rest) number system tries =
    if put.number == number then record { system = system; put = put } ∷ tries else tries

-- the put that was to go out with these system bytes
abbrev pub tried_with : ℕ → List Try → Option Put
tried_with system [] = None
tried_with system (one ∷ before) = if one.system == system then Some one.put else tried_with system before

-- ---- the account

-- the entry with so many before it is this change
abbrev pub account_changed : ℕ → Change → Account → Account
account_changed place (Finds found) account =
    record account {
      storing = None;
      puts = account.puts ++ filter (is_found found) (option_to_list account.storing);
      standing = puts_found account.stores found;
      leaving = None;
      removed =
          account.removed
          ++ removed_for account.leaving (filter (is_lost found) (leaving_puts account.leaving account.standing));
    }
account_changed place (Stores number message) account =
    let put : Put = record { place = place; number = number; message = message } in
    record account { stores = put ∷ account.stores; storing = Some put }
account_changed place (HasStored number) account =
    record account {
      storing = None;
      puts = account.puts ++ option_to_list account.storing;
      standing = account.standing ++ option_to_list account.storing;
    }
account_changed place (Leaves number why room_for) account = record account { leaving = Some why }
account_changed place (HasGone number) account =
    record account {
      standing = staying_puts account.leaving account.standing;
      leaving = None;
      removed =
          account.removed ++ removed_for account.leaving (leaving_puts account.leaving account.standing);
    }
account_changed place (Tries number system) account =
    record account { tries = tried_first account.standing number system account.tries }
account_changed place (Sends message) account = account
account_changed place (Receives message) account = account
account_changed place Other account = account

-- the host takes what was tried with the system bytes of a primary that it receives
abbrev pub taken_with : Bool → Message → Account → List Put
taken_with true message account = option_to_list (tried_with message.system account.tries)
taken_with false message account = []

abbrev pub account_taken : Message → Account → Account
account_taken message account =
    record account { taken = account.taken ++ taken_with (is_primary message) message account }

-- what an entry is to the spool: a change that the equipment has noted, or a message that the host has received
pub data Turn : Type 0 where
  Changes : (change : Change) → Turn
  Takes : (message : Message) → Turn
  Quiet : Turn

abbrev pub turn_of_host : Happening → Turn
turn_of_host (Received message) = Takes message
turn_of_host _ = Quiet

abbrev pub turn_of_note : Side → Happening → Turn
turn_of_note Equipment what = Changes (change_of what)
turn_of_note Host what = turn_of_host what

abbrev pub turn_of : Entry → Turn
turn_of (Noted moment side what) = turn_of_note side what
turn_of _ = Quiet

abbrev pub account_after : ℕ → Turn → Account → Account
account_after place (Changes change) account = account_changed place change account
account_after place (Takes message) account = account_taken message account
account_after place Quiet account = account

abbrev pub account_of : List Entry → Account
account_of [] = new_account
account_of (entry ∷ before) = account_after (length before) (turn_of entry) (account_of before)

-- ---- what is read off it

abbrev pub puts_of : List Entry → List Put
puts_of log = (account_of log).puts

abbrev pub standing_of : List Entry → List Put
standing_of log = (account_of log).standing

abbrev pub taken_of : List Entry → List Put
taken_of log = (account_of log).taken

-- equal neighbours are one
abbrev pub folded_from : Put → List Put → List Put
folded_from put [] = put ∷ []
folded_from put (next ∷ puts) =
    if put.place == next.place then folded_from put puts else put ∷ folded_from next puts

abbrev pub folded : List Put → List Put
folded [] = []
folded (put ∷ puts) = folded_from put puts

abbrev pub is_among : List Put → Put → Bool
is_among [] put = false
is_among (one ∷ puts) put = if one.place == put.place then true else is_among puts put

-- it was purged or overwritten
abbrev pub is_unconfirmed : Cause → Bool
is_unconfirmed cause.Confirmed = false
is_unconfirmed cause.Purged = true
is_unconfirmed cause.Overwritten = true

abbrev pub was_given_up : List Removal → Put → Bool
was_given_up [] put = false
was_given_up (one ∷ removed) put =
    if one.put.place == put.place && is_unconfirmed one.cause then true else was_given_up removed put

-- a put counts unless it was purged or overwritten and the host has never taken it
abbrev pub counts : Account → Put → Bool
counts account put = if is_among account.taken put then true else not (was_given_up account.removed put)

abbrev pub counted : Account → List Put
counted account = filter (counts account) account.puts
