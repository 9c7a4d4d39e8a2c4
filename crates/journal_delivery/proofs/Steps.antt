-- What two ends have come to, with the journal of the host, and what each note keeps of it.
use Rattle.std.specs.Prelude.{◌≡◌, ◌⊎◌, ℕ, true, false, List, [], ◌∷◌, length, Option, Some, None}
use Rattle.std.proofs.Common.{sym, ap, ◌∙◌, subst, inl, inr}
use Rattle.gl_base.specs.declared.side.Side.TheVariants.{Equipment}
use Rattle.message_end.specs.Own.{Giving, Has, sent_at}
use Rattle.message_end.proofs.Members.{has-front}
use Rattle.message_flow.specs.declared.message.Message.{Message}
use Rattle.message_flow.specs.Message.{is_primary}
use Rattle.trace_log.specs.declared.names.Cause.TheVariants as cause
use Rattle.trace_log.specs.Log.{Entry, Happening}
use Rattle.trace_log.specs.Log.Entry.{Noted}
use Rattle.trace_log.specs.Names.{Record}
use Rattle.spool_law.specs.Listing.{Owed, record_of}
use Rattle.spool_law.specs.Listing.Owed.{Nothing, ToHaveListed, ToList}
use Rattle.spool_law.specs.Shelf.{Change, MayChange, Policy, change_of, received_behind, received_since, shelf_of}
use Rattle.spool_law.specs.Shelf.Change.{Finds, HasGone, HasStored, Leaves, Other, Receives, Sends, Stores, Tries}
use Rattle.spool_delivery.specs.Account.{Account, Put, Turn, account_after, account_of, taken_of, taken_with, tried_with, turn_of}
use Rattle.spool_delivery.specs.Claims.{equipment_notes}
use Rattle.spool_delivery.proofs.Facts.{AreFacts, HasNew, IsBacked, IsNewIn}
use Rattle.spool_delivery.proofs.Folded.{AllUpTo}
use Rattle.spool_delivery.proofs.Tries.{FirstTried, IsFirstTried, taken-stays}
use Rattle.journal_delivery.specs.Listed.{listed_log, listed_message, owed_of}
use Rattle.journal_delivery.proofs.Alike.{account-read, new-read, notes-read, with_taken}
use Rattle.journal_delivery.proofs.Tried.{IsSent, sent-later, tried-before}

-- what the host has listed, each as often as it was listed
abbrev pub listed_of : List Entry → List Put
listed_of log = taken_of (listed_log log)

-- ---- what is kept

-- the equipment has sent a primary with these system bytes; and where a try names them, the put is listed
pub record IsSettled (system : ℕ) (log : List Entry) : Type 0 where
  pub sent : IsSent system log
  pub listed : (put : Put) → tried_with system (account_of log).tries ≡ Some put → Has (listed_of log) put

-- it has; and where a try names them, the put is taken, and behind all that is taken
pub record IsNewest (system : ℕ) (log : List Entry) : Type 0 where
  pub sent : IsSent system log
  pub taken : (put : Put) → tried_with system (account_of log).tries ≡ Some put → Has (taken_of log) put
  pub last : (put : Put) → tried_with system (account_of log).tries ≡ Some put → AllUpTo (taken_of log) put

-- what isn't listed yet
abbrev pub owed_record : Owed → Option Record
owed_record Nothing = None
owed_record (ToList listed) = Some listed
owed_record (ToHaveListed number listed) = Some listed

-- the host has received the primary that a message replies to
pub record IsReplyTo (received : List Message) (message : Message) : Type 0 where
  pub asked : Message
  pub has : Has received asked
  pub primary : is_primary asked ≡ true
  pub system : asked.system ≡ message.system

-- a log, with what the host has received and sent in its start, and all that it has given and sent
pub record IsJournal
    (policy : Policy) (log : List Entry) (received now : List Message) (given : List Giving) (sent : List Message)
    : Type 0 where
  pub facts : AreFacts policy (listed_log log)
  pub among : (put : Put) → Has (listed_of log) put → Has (taken_of log) put
  pub owed :
      (listed : Record) → owed_record (owed_of log) ≡ Some listed → is_primary (listed_message listed) ≡ true
      → IsNewest listed.system log
  pub received_are :
      (m : Message) → Has received m → is_primary m ≡ true
      → IsSent m.system log × (IsSettled m.system log ⊎ (owed_record (owed_of log) ≡ Some (record_of m)))
  pub replies : (m : Message) → Has now m → is_primary m ≡ false → IsReplyTo received m
  pub given_are :
      (g : Giving) (m : Message) → Has given g → sent_at g.place sent ≡ Some m → is_primary m ≡ false
      → IsSettled m.system log
  pub heard_are :
      (m : Message) → Has (received_since (equipment_notes log)) m → is_primary m ≡ false → IsSettled m.system log

-- ---- what an entry more leaves of it

pub taken-grows : (place : ℕ) (turn : Turn) (a : Account) (put : Put) → Has a.taken put
    → Has (account_after place turn a).taken put
taken-grows place (Turn.Changes change) a put has =
    subst (λ (ps : List Put). Has ps put) (sym (taken-stays change place a)) has
taken-grows place (Turn.Takes message) a put has = has-front a.taken (taken_with (is_primary message) message a) put has
taken-grows place Turn.Quiet a put has = has

-- what is settled stays so
pub settled-later : (entry : Entry) (log : List Entry) (system : ℕ) → IsNewIn (turn_of entry) log
    → ((put : Put) → Has (listed_of log) put → Has (listed_of (entry ∷ log)) put) → IsSettled system log
    → IsSettled system (entry ∷ log)
settled-later entry log system new grows is = record {
  sent = sent-later system entry log is.sent;
  listed = λ put tried. grows put (is.listed put (tried-before entry log new system is.sent put tried));
}

pub newest-later : (entry : Entry) (log : List Entry) (system : ℕ) → IsNewIn (turn_of entry) log
    → taken_of (entry ∷ log) ≡ taken_of log → IsNewest system log → IsNewest system (entry ∷ log)
newest-later entry log system new same is = record {
  sent = sent-later system entry log is.sent;
  taken = λ put tried.
      subst (λ (ps : List Put). Has ps put) (sym same)
      (is.taken put (tried-before entry log new system is.sent put tried));
  last = λ put tried.
      subst (λ (ps : List Put). AllUpTo ps put) (sym same)
      (is.last put (tried-before entry log new system is.sent put tried));
}

-- ---- the equipment notes something

same-first : (put other : Put) (rest others : List Put) → put ∷ rest ≡ other ∷ others → put ≡ other
same-first put other rest others is = cc

-- what is confirmed is listed
backed-read : (policy : Policy) (log : List Entry) (change : Change)
    → MayChange policy (equipment_notes log) change → IsBacked change (account_of log)
    → FirstTried (shelf_of (equipment_notes log)).tried (account_of log).standing (account_of log).tries
    → ((m : Message) → Has (received_since (equipment_notes log)) m → is_primary m ≡ false → IsSettled m.system log)
    → IsBacked change (with_taken (listed_of log) (account_of log))
backed-read policy log (Leaves number cause.Confirmed room_for) may is first heard =
    λ put rest stands.
    subst (λ (p : Put). Has (listed_of log) p) (same-first it.put put it.rest rest (sym it.first ∙ stands))
    ((heard may.cause.0.reply may.cause.0.has may.cause.0.secondary).listed it.put
    (ap (λ (s : ℕ). tried_with s (account_of log).tries) may.cause.0.system ∙ it.named))
  where
    it : IsFirstTried may.cause.0.tried (account_of log).standing (account_of log).tries
    it = first may.cause.0.tried may.cause.0.is
backed-read policy log (Leaves number cause.Purged room_for) may is first heard = tt
backed-read policy log (Leaves number cause.Overwritten room_for) may is first heard = tt
backed-read policy log (Finds found) may is first heard = tt
backed-read policy log (Stores number message) may is first heard = tt
backed-read policy log (HasStored number) may is first heard = tt
backed-read policy log (HasGone number) may is first heard = tt
backed-read policy log (Tries number system) may is first heard = tt
backed-read policy log (Sends message) may is first heard = is
backed-read policy log (Receives message) may is first heard = tt
backed-read policy log Other may is first heard = tt

pub tries-read : (log : List Entry) → (account_of (listed_log log)).tries ≡ (account_of log).tries
tries-read log = ap (λ (a : Account). a.tries) (account-read log)

new-change-read : (change : Change) (log : List Entry) → HasNew change log → HasNew change (listed_log log)
new-change-read (Tries number system) log new =
    (new-read system log new.0, ap (λ ts. tried_with system ts) (tries-read log) ∙ new.1)
new-change-read change log new = tt

-- what the equipment has received so far, with this note
heard-behind : (change : Change) (since : List Message) (m : Message) → Has (received_behind change since) m
    → Has (received_behind change []) m ⊎ Has since m
heard-behind (Finds found) since m is = absurd is
heard-behind (Receives message) since m (inl same) = inl (inl same)
heard-behind (Receives message) since m (inr has) = inr has
heard-behind change since m has = inr has

pub tool-step : (policy : Policy) (log : List Entry) (moment : ℕ) (what : Happening) (received now : List Message)
    (given : List Giving) (sent : List Message)
    → AreFacts policy (Noted moment Equipment what ∷ log)
    → FirstTried (shelf_of (equipment_notes log)).tried (account_of log).standing (account_of log).tries
    → ((m : Message) → Has (received_behind (change_of what) []) m → is_primary m ≡ false → IsSettled m.system log)
    → IsJournal policy log received now given sent
    → IsJournal policy (Noted moment Equipment what ∷ log) received now given sent
tool-step policy log moment what received now given sent facts first heard is = record {
  facts = (
    (
      (
        subst (λ (notes : List Happening). MayChange policy notes change) (sym (notes-read log)) facts.0.0.0,
        subst (λ (a : Account). IsBacked change a) (sym (account-read log))
            (backed-read policy log change facts.0.0.0 facts.0.0.1 first is.heard_are),
      ),
      new-change-read change log facts.0.1,
    ),
    is.facts,
  );
  among = λ put has.
      subst (λ (ps : List Put). Has ps put) (sym (taken-stays change (length log) (account_of log)))
      (is.among put (subst (λ (ps : List Put). Has ps put) listed_is has));
  owed = λ listed same primary.
      newest-later entry log listed.system facts.0.1 (taken-stays change (length log) (account_of log))
      (is.owed listed same primary);
  received_are = λ m has primary.
      let it = is.received_are m has primary in (sent-later m.system entry log it.0, either m it.1);
  replies = is.replies;
  given_are = λ g m has at secondary. later m.system (is.given_are g m has at secondary);
  heard_are = λ m has secondary. of m (heard-behind change (received_since (equipment_notes log)) m has) secondary;
}
  where
    change : Change
    change = change_of what

    entry : Entry
    entry = Noted moment Equipment what

    listed_is : listed_of (entry ∷ log) ≡ listed_of log
    listed_is = taken-stays change (length (listed_log log)) (account_of (listed_log log))

    later : (system : ℕ) → IsSettled system log → IsSettled system (entry ∷ log)
    later system settled =
        settled-later entry log system facts.0.1
        (λ put has. subst (λ (ps : List Put). Has ps put) (sym listed_is) has) settled

    either : (m : Message) → IsSettled m.system log ⊎ (owed_record (owed_of log) ≡ Some (record_of m))
        → IsSettled m.system (entry ∷ log) ⊎ (owed_record (owed_of log) ≡ Some (record_of m))
    either m (inl settled) = inl (later m.system settled)
    either m (inr owes) = inr owes

    of : (m : Message) → Has (received_behind change []) m ⊎ Has (received_since (equipment_notes log)) m
        → is_primary m ≡ false → IsSettled m.system (entry ∷ log)
    of m (inl new) secondary = later m.system (heard m new secondary)
    of m (inr old) secondary = later m.system (is.heard_are m old secondary)
