-- A log and what it is as the host's journal tells it: both say the same of the spool, but of what is taken.
use Rattle.std.specs.Prelude.{◌≡◌, suc, ℕ, false, List, [], ◌∷◌, length, Option, Some, None, refl}
use Rattle.std.proofs.Common.{sym, ap, ◌∙◌, subst}
use Rattle.std.proofs.lemmas.List.Elements.{All-cons, All-head, All-nil, All-tail}
use Rattle.gl_base.specs.declared.side.Side.TheVariants.{Equipment, Host}
use Rattle.message_flow.specs.declared.message.Message.{Message}
use Rattle.trace_log.specs.Delivered.{sends_like}
use Rattle.trace_log.specs.Log.{Entry, Happening}
use Rattle.trace_log.specs.Log.Entry.{Ended, Noted, Slipped}
use Rattle.trace_log.specs.Names.{Record}
use Rattle.spool_law.specs.Listing.{Owed}
use Rattle.spool_law.specs.Shelf.{Change, change_of}
use Rattle.spool_law.specs.Shelf.Change.{Finds, HasGone, HasStored, Leaves, Other, Receives, Sends, Stores, Tries}
use Rattle.spool_delivery.specs.Account.{Account, Put, Turn, account_after, account_changed, account_of, taken_of, turn_of, turn_of_note}
use Rattle.spool_delivery.specs.Account.Turn.{Quiet, Takes}
use Rattle.spool_delivery.specs.Claims.{IsNew, equipment_notes, with_note_of}
use Rattle.spool_delivery.proofs.Tries.{taken-stays}
use Rattle.journal_delivery.specs.Listed.{listed_by, listed_log, listed_message, owed_of, read_behind, unlisted, with_listed}

pub length-read : (log : List Entry) → length (listed_log log) ≡ length log
length-read [] = refl
length-read (entry ∷ before) = ap suc (length-read before)

-- ---- the notes of the equipment

notes-behind : (owed : Owed) (entry : Entry) (notes : List Happening)
    → with_note_of (read_behind owed entry) notes ≡ with_note_of entry notes
notes-behind owed (Noted moment Equipment what) notes = refl
notes-behind owed (Noted moment Host what) notes = refl
notes-behind owed (Slipped moment side frame characters) notes = refl
notes-behind owed (Ended moment) notes = refl

pub notes-read : (log : List Entry) → equipment_notes (listed_log log) ≡ equipment_notes log
notes-read [] = refl
notes-read (entry ∷ before) =
    notes-behind (owed_of before) entry (equipment_notes (listed_log before))
    ∙ ap (λ (notes : List Happening). with_note_of entry notes) (notes-read before)

-- ---- what the host's notes are to the spool

-- what is listed is taken
abbrev pub turn_listed : Option Record → Turn
turn_listed None = Quiet
turn_listed (Some listed) = Takes (listed_message listed)

quiet-unlisted : (what : Happening) → turn_of_note Host (unlisted what) ≡ Quiet
quiet-unlisted (Happening.Received message) = refl
quiet-unlisted what = refl

pub turn-read : (listed : Option Record) (what : Happening)
    → turn_of_note Host (with_listed listed what) ≡ turn_listed listed
turn-read None what = quiet-unlisted what
turn-read (Some listed) what = refl

-- ---- the account

abbrev pub with_taken : List Put → Account → Account
with_taken taken account = record account { taken = taken }

changed-alike : (place : ℕ) (change : Change) (taken : List Put) (a : Account)
    → account_changed place change (with_taken taken a) ≡ with_taken taken (account_changed place change a)
changed-alike place (Finds found) taken a = refl
changed-alike place (Stores number message) taken a = refl
changed-alike place (HasStored number) taken a = refl
changed-alike place (Leaves number why room_for) taken a = refl
changed-alike place (HasGone number) taken a = refl
changed-alike place (Tries number system) taken a = refl
changed-alike place (Sends message) taken a = refl
changed-alike place (Receives message) taken a = refl
changed-alike place Other taken a = refl

-- one account is the other but for what is taken
abbrev IsAlike : Account → Account → Type 0
IsAlike one other = one ≡ with_taken one.taken other

change-keeps : (place next : ℕ) (change : Change) (one other : Account) → place ≡ next → IsAlike one other
    → IsAlike (account_changed place change one) (account_changed next change other)
change-keeps place next change one other same is =
    ap (λ (n : ℕ). account_changed n change one) same
    ∙ ap (λ (a : Account). account_changed next change a) is
    ∙ changed-alike next change one.taken other
    ∙ ap (λ (ps : List Put). with_taken ps (account_changed next change other))
    (sym (taken-stays change place one))

-- what the host receives changes nothing else, nor does what it lists
received-alike : (place : ℕ) (what : Happening) (taken : List Put) (a : Account)
    → with_taken taken (account_after place (turn_of_note Host what) a) ≡ with_taken taken a
received-alike place (Happening.Received message) taken a = refl
received-alike place what taken a = refl

listed-alike : (place : ℕ) (listed : Option Record) (taken : List Put) (a : Account)
    → account_after place (turn_listed listed) (with_taken taken a)
    ≡ with_taken (account_after place (turn_listed listed) (with_taken taken a)).taken a
listed-alike place None taken a = refl
listed-alike place (Some listed) taken a = refl

host-keeps : (place next : ℕ) (listed : Option Record) (what : Happening) (one other : Account) → IsAlike one other
    → IsAlike (account_after place (turn_of_note Host (with_listed listed what)) one)
    (account_after next (turn_of_note Host what) other)
host-keeps place next listed what one other is =
    subst (λ (t : Turn). IsAlike (account_after place t one) now) (sym (turn-read listed what))
    (subst (λ (a : Account). IsAlike (account_after place (turn_listed listed) a) now) (sym is)
    (listed-alike place listed one.taken other
    ∙ sym (received-alike next what (account_after place (turn_listed listed) (with_taken one.taken other)).taken
    other)))
  where
    now : Account
    now = account_after next (turn_of_note Host what) other

entry-keeps : (owed : Owed) (entry : Entry) (place next : ℕ) (one other : Account) → place ≡ next → IsAlike one other
    → IsAlike (account_after place (turn_of (read_behind owed entry)) one) (account_after next (turn_of entry) other)
entry-keeps owed (Noted moment Equipment what) place next one other same is =
    change-keeps place next (change_of what) one other same is
entry-keeps owed (Noted moment Host what) place next one other same is =
    host-keeps place next (listed_by owed what) what one other is
entry-keeps owed (Slipped moment side frame characters) place next one other same is = is
entry-keeps owed (Ended moment) place next one other same is = is

pub account-read : (log : List Entry)
    → account_of (listed_log log) ≡ with_taken (taken_of (listed_log log)) (account_of log)
account-read [] = refl
account-read (entry ∷ before) =
    entry-keeps (owed_of before) entry (length (listed_log before)) (length before) (account_of (listed_log before))
    (account_of before) (length-read before) (account-read before)

-- ---- what the equipment has sent

unlike-read : (owed : Owed) (entry : Entry) (message : Message)
    → sends_like Equipment message (read_behind owed entry) ≡ sends_like Equipment message entry
unlike-read owed (Noted moment Equipment what) message = refl
unlike-read owed (Noted moment Host what) message = host (with_listed (listed_by owed what) what) what
  where
    none : (note : Happening) → sends_like Equipment message (Noted moment Host note) ≡ false
    none (Happening.Sent other) = refl
    none note = refl

    host : (one other : Happening)
        → sends_like Equipment message (Noted moment Host one) ≡ sends_like Equipment message (Noted moment Host other)
    host one other = none one ∙ sym (none other)
unlike-read owed (Slipped moment side frame characters) message = refl
unlike-read owed (Ended moment) message = refl

pub new-read : (system : ℕ) (log : List Entry) → IsNew system log → IsNew system (listed_log log)
new-read system [] new message at = All-nil (λ (e : Entry). sends_like Equipment message e ≡ false)
new-read system (entry ∷ before) new message at =
    All-cons Unlike (read_behind (owed_of before) entry) (listed_log before)
    (unlike-read (owed_of before) entry message ∙ All-head Unlike entry before (new message at))
    (new-read system before (λ m same. All-tail (UnlikeTo m) entry before (new m same)) message at)
  where
    UnlikeTo : Message → Entry → Type 0
    UnlikeTo m e = sends_like Equipment m e ≡ false

    Unlike : Entry → Type 0
    Unlike = UnlikeTo message
