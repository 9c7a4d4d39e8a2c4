-- What the equipment has sent of its spool, over a log: no later try has its system bytes, it is what was put, and it
-- can be spooled.
use Rattle.std.specs.Prelude.{◌≡◌, ◌⊎◌, ◌==◌, ◌&&◌, ℕ, Bool, true, false, List, [], ◌∷◌, length, All, Option, Some, None, option_to_list, if◌then◌else◌, refl}
use Rattle.std.proofs.Common.{sym, ap, ◌∙◌, subst, arith, inl, inr}
use Rattle.std.proofs.lemmas.Bool.Decides.{nat_tests}
use Rattle.std.proofs.lemmas.List.Elements.{All-head, All-tail}
use Rattle.gl_base.specs.declared.side.Side.TheVariants.{Equipment, Host}
use Rattle.message_end.specs.Own.{Has}
use Rattle.message_end.proofs.Members.{has-drop, has-either}
use Rattle.message_flow.specs.declared.message.Message.{Message}
use Rattle.message_flow.specs.Message.{is_primary}
use Rattle.spool_rule.specs.Rule.{is_spoolable}
use Rattle.trace_log.specs.Delivered.{sends_like}
use Rattle.trace_log.specs.Log.{Entry, Happening}
use Rattle.trace_log.specs.Log.Entry.{Ended, Noted, Slipped}
use Rattle.trace_log.specs.Names.{Spooled}
use Rattle.spool_law.specs.Listing.{AllStoredAreSpoolable}
use Rattle.spool_law.specs.Shelf.{Carries, Change, Policy, change_of, leaving_of}
use Rattle.spool_law.specs.Shelf.Change.{Finds, HasGone, HasStored, Leaves, Other, Receives, Sends, Stores, Tries}
use Rattle.spool_delivery.specs.Account.{Account, Put, Try, Turn, account_after, account_changed, account_of, named_by, puts_found, tried_first, tried_with, turn_of, turn_of_note}
use Rattle.spool_delivery.specs.Account.Turn.{Changes, Quiet, Takes}
use Rattle.spool_delivery.specs.Claims.{equipment_notes}
use Rattle.spool_delivery.proofs.Facts.{AreFacts, IsFact, IsNewIn}
use Rattle.spool_delivery.proofs.Logs.{equipment_sent, sent-more, sent_behind}
use Rattle.spool_delivery.proofs.Sound.{tried-member}
use Rattle.spool_delivery.proofs.Tries.{tried-other}

-- ---- no later try has the system bytes of what was sent

never : true ≡ false → ⊥
never is = cc

like-itself : (primary : Bool) (one other : ℕ) → primary ≡ true → one ≡ other → (primary && one == other) ≡ true
like-itself false one other is same = absurd (never (sym is))
like-itself true one other is same = grind (arith, nat_tests)

not-new : (log : List Entry) (message : Message) → Has (equipment_sent log) message → is_primary message ≡ true
    → All (λ (e : Entry). sends_like Equipment message e ≡ false) log → ⊥
not-new [] message is primary unlike = absurd is
not-new (entry ∷ before) message has primary unlike =
    go entry (All-head Unlike entry before unlike) has
    (λ h. not-new before message h primary (All-tail Unlike entry before unlike))
  where
    Unlike : Entry → Type 0
    Unlike e = sends_like Equipment message e ≡ false

    go : (e : Entry) → Unlike e → Has (sent_behind e (equipment_sent before)) message
        → (Has (equipment_sent before) message → ⊥) → ⊥
    go (Noted moment Equipment (Happening.Sent other)) apart (inl same) later =
        never
        (sym (like-itself (is_primary other) message.system other.system (ap is_primary (sym same) ∙ primary)
        (ap (λ (m : Message). m.system) same))
        ∙ apart)
    go (Noted moment Equipment (Happening.Sent other)) apart (inr there) later = later there
    go e apart there later = later there

-- the equipment has sent a primary with these system bytes
pub record IsSent (system : ℕ) (log : List Entry) : Type 0 where
  pub message : Message
  pub has : Has (equipment_sent log) message
  pub primary : is_primary message ≡ true
  pub system_is : message.system ≡ system

pub sent-later : (system : ℕ) (entry : Entry) (before : List Entry) → IsSent system before
    → IsSent system (entry ∷ before)
sent-later system entry before is = record {
  message = is.message;
  has = sent-more entry (equipment_sent before) is.message is.has;
  primary = is.primary;
  system_is = is.system_is;
}

old-first : (standing : List Put) (number new : ℕ) (tries : List Try) (system : ℕ) (put : Put) → (system ≡ new → ⊥)
    → tried_with system (tried_first standing number new tries) ≡ Some put → tried_with system tries ≡ Some put
old-first [] number new tries system put apart is = is
old-first (first ∷ rest) number new tries system put apart is = go (first.number == number) is
  where
    go : (test : Bool)
        → tried_with system (if test then record { system = new; put = first } ∷ tries else tries) ≡ Some put
        → tried_with system tries ≡ Some put
    go true found = sym (tried-other new system first tries apart) ∙ found
    go false found = found

-- so what was tried with them was tried before
pub tried-before : (entry : Entry) (before : List Entry) → IsNewIn (turn_of entry) before → (system : ℕ)
    → IsSent system before → (put : Put) → tried_with system (account_of (entry ∷ before)).tries ≡ Some put
    → tried_with system (account_of before).tries ≡ Some put
tried-before entry before new system sent put = go (turn_of entry) new
  where
    a : Account
    a = account_of before

    go : (turn : Turn) → IsNewIn turn before
        → tried_with system (account_after (length before) turn a).tries ≡ Some put
        → tried_with system a.tries ≡ Some put
    go (Changes (Tries number other)) fresh is =
        old-first a.standing number other a.tries system put
        (λ same. not-new before sent.message sent.has sent.primary (fresh.0 sent.message (sent.system_is ∙ same))) is
    go (Changes change) fresh is = is
    go (Takes message) fresh is = is
    go Quiet fresh is = is

-- ---- what goes out with the system bytes of a try is what was put

pub sent-carries : (policy : Policy) (log : List Entry) → AreFacts policy log → (message : Message)
    → Has (equipment_sent log) message → is_primary message ≡ true → (put : Put)
    → tried_with message.system (account_of log).tries ≡ Some put → Carries put.message message
sent-carries policy [] facts message is primary put tried = absurd is
sent-carries policy (entry ∷ before) facts message has primary put tried =
    go entry facts.0.0 tried has
    (λ there.
    sent-carries policy before facts.1 message there primary put
    (tried-before entry before facts.0.1 message.system
    (record { message = message; has = there; primary = primary; system_is = refl }) put tried))
  where
    a : Account
    a = account_of before

    go : (e : Entry) → IsFact policy (turn_of e) (equipment_notes before) a
        → tried_with message.system (account_after (length before) (turn_of e) a).tries ≡ Some put
        → Has (sent_behind e (equipment_sent before)) message
        → (Has (equipment_sent before) message → Carries put.message message) → Carries put.message message
    go (Noted moment Equipment (Happening.Sent other)) fact found (inl same) earlier =
        subst (λ (m : Message). Carries put.message m) (sym same)
        (fact.1 (ap is_primary (sym same) ∙ primary) put
        (ap (λ (m : Message). tried_with m.system a.tries) (sym same) ∙ found))
    go (Noted moment Equipment (Happening.Sent other)) fact found (inr there) earlier = earlier there
    go e fact found there earlier = earlier there

-- ---- it can be spooled

abbrev IsSpoolable : Put → Type 0
IsSpoolable put = is_spoolable put.message.stream put.message.function ≡ true

abbrev AllSpoolable : List Put → Type 0
AllSpoolable puts = (put : Put) → Has puts put → IsSpoolable put

record AreSpoolable (stores : List Put) (storing : Option Put) (standing : List Put) (tries : List Try) : Type 0 where
  pub stored : AllSpoolable stores
  pub stored_now : (put : Put) → storing ≡ Some put → IsSpoolable put
  pub standing_are : AllSpoolable standing
  pub tried : (one : Try) → Has tries one → IsSpoolable one.put

abbrev AreAllSpoolable : Account → Type 0
AreAllSpoolable a = AreSpoolable a.stores a.storing a.standing a.tries

abbrev StoresSpoolable : Change → Type 0
StoresSpoolable (Stores number message) = is_spoolable message.stream message.function ≡ true
StoresSpoolable _ = Unit {0}

same-some : {X : Type 0} (one other : X) → Some one ≡ Some other → one ≡ other
same-some one other is = cc

named-has : (number : ℕ) (stores : List Put) (put : Put) → named_by number stores ≡ Some put → Has stores put
named-has number [] put is = cc
named-has number (one ∷ before) put is = go (one.number == number) (named-has number before put) is
  where
    go : (test : Bool) → (named_by number before ≡ Some put → Has before put)
        → (if test then Some one else named_by number before) ≡ Some put → Has (one ∷ before) put
    go true later found = inl (sym (same-some one put found))
    go false later found = inr (later found)

list-has : (storing : Option Put) (put : Put) → Has (option_to_list storing) put → storing ≡ Some put
list-has None put is = absurd is
list-has (Some one) put (inl same) = ap Some (sym same)
list-has (Some one) put (inr is) = absurd is

found-has : (stores : List Put) (found : List (ℕ × Spooled)) (put : Put) → Has (puts_found stores found) put
    → Has stores put
found-has stores [] put is = absurd is
found-has stores (one ∷ found) put has =
    go (has-either (option_to_list (named_by one.0 stores)) (puts_found stores found) put has)
    (found-has stores found put)
  where
    go : Has (option_to_list (named_by one.0 stores)) put ⊎ Has (puts_found stores found) put
        → (Has (puts_found stores found) put → Has stores put) → Has stores put
    go (inl here) later = named-has one.0 stores put (list-has (named_by one.0 stores) put here)
    go (inr there) later = later there

first-spoolable : (standing : List Put) (number system : ℕ) (tries : List Try) → AllSpoolable standing
    → ((one : Try) → Has tries one → IsSpoolable one.put)
    → (one : Try) → Has (tried_first standing number system tries) one → IsSpoolable one.put
first-spoolable [] number system tries standing tried one has = tried one has
first-spoolable (put ∷ rest) number system tries standing tried one has = go (put.number == number) has
  where
    go : (test : Bool) → Has (if test then record { system = system; put = put } ∷ tries else tries) one
        → IsSpoolable one.put
    go true (inl same) = subst (λ (t : Try). IsSpoolable t.put) (sym same) (standing put (inl refl))
    go true (inr there) = tried one there
    go false there = tried one there

change-spoolable : (place : ℕ) (change : Change) (a : Account) → StoresSpoolable change → AreAllSpoolable a
    → AreAllSpoolable (account_changed place change a)
change-spoolable place (Finds found) a fits is = record {
  stored = is.stored;
  stored_now = λ put none. cc;
  standing_are = λ put has. is.stored put (found-has a.stores found put has);
  tried = is.tried;
}
change-spoolable place (Stores number message) a fits is = record {
  stored = λ put has. of put has;
  stored_now = λ put same. subst IsSpoolable (same-some new put same) fits;
  standing_are = is.standing_are;
  tried = is.tried;
}
  where
    new : Put
    new = record { place = place; number = number; message = message }

    of : (put : Put) → Has (new ∷ a.stores) put → IsSpoolable put
    of put (inl same) = subst IsSpoolable (sym same) fits
    of put (inr has) = is.stored put has
change-spoolable place (HasStored number) a fits is = record {
  stored = is.stored;
  stored_now = λ put none. cc;
  standing_are = λ put has. of put (has-either a.standing (option_to_list a.storing) put has);
  tried = is.tried;
}
  where
    of : (put : Put) → Has a.standing put ⊎ Has (option_to_list a.storing) put → IsSpoolable put
    of put (inl has) = is.standing_are put has
    of put (inr has) = is.stored_now put (list-has a.storing put has)
change-spoolable place (Leaves number why room_for) a fits is = is
change-spoolable place (HasGone number) a fits is = record {
  stored = is.stored;
  stored_now = is.stored_now;
  standing_are = λ put has.
      is.standing_are put (has-drop (leaving_of a.leaving (length a.standing)) a.standing put has);
  tried = is.tried;
}
change-spoolable place (Tries number system) a fits is = record {
  stored = is.stored;
  stored_now = is.stored_now;
  standing_are = is.standing_are;
  tried = first-spoolable a.standing number system a.tries is.standing_are is.tried;
}
change-spoolable place (Sends message) a fits is = is
change-spoolable place (Receives message) a fits is = is
change-spoolable place Other a fits is = is

host-spoolable : (place : ℕ) (what : Happening) (a : Account) → AreAllSpoolable a
    → AreAllSpoolable (account_after place (turn_of_note Host what) a)
host-spoolable place (Happening.Received message) a is = is
host-spoolable place what a is = is

all-stored : (what : Happening) (notes : List Happening) → AllStoredAreSpoolable (what ∷ notes)
    → StoresSpoolable (change_of what) × AllStoredAreSpoolable notes
all-stored (Happening.Storing number message) notes stored = stored
all-stored what notes stored = (tt, stored)

all-spoolable : (log : List Entry) → AllStoredAreSpoolable (equipment_notes log) → AreAllSpoolable (account_of log)
all-spoolable [] stored = record {
  stored = λ put none. absurd none;
  stored_now = λ put none. cc;
  standing_are = λ put none. absurd none;
  tried = λ one none. absurd none;
}
all-spoolable (Noted moment Equipment what ∷ before) stored =
    let so = all-stored what (equipment_notes before) stored in
    change-spoolable (length before) (change_of what) (account_of before) so.0 (all-spoolable before so.1)
all-spoolable (Noted moment Host what ∷ before) stored =
    host-spoolable (length before) what (account_of before) (all-spoolable before stored)
all-spoolable (Slipped moment side frame characters ∷ before) stored = all-spoolable before stored
all-spoolable (Ended moment ∷ before) stored = all-spoolable before stored

pub all-but : (what : Happening) (notes : List Happening) → AllStoredAreSpoolable (what ∷ notes)
    → AllStoredAreSpoolable notes
all-but what notes stored = (all-stored what notes stored).1

-- a primary of the equipment whose system bytes a try names can be spooled
pub sent-spoolable : (policy : Policy) (log : List Entry) → AreFacts policy log
    → AllStoredAreSpoolable (equipment_notes log) → (message : Message) → Has (equipment_sent log) message
    → is_primary message ≡ true → (put : Put) → tried_with message.system (account_of log).tries ≡ Some put
    → is_spoolable message.stream message.function ≡ true
sent-spoolable policy log facts stored message has primary put tried =
    ap (λ (s : ℕ). is_spoolable s message.function) carries.stream
    ∙ ap (λ (f : ℕ). is_spoolable put.message.stream f) carries.function
    ∙ subst IsSpoolable one.2 ((all-spoolable log stored).tried one.0 one.1)
  where
    carries : Carries put.message message
    carries = sent-carries policy log facts message has primary put tried

    one : (t : Try) × Has (account_of log).tries t × (t.put ≡ put) × (t.system ≡ message.system)
    one = tried-member message.system (account_of log).tries put tried
