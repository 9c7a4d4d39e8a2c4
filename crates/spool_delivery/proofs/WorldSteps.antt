-- What two ends have come to, with the spool of the equipment, and what each thing done keeps of it.
use Rattle.std.specs.Prelude.{◌≡◌, ◌≢◌, ◌≤◌, ◌⊎◌, ◌==◌, ◌&&◌, ℕ, Bool, true, false, List, [], ◌∷◌, length, Option, Some, None, option_to_list, refl}
use Rattle.std.proofs.Common.{sym, ap, ◌∙◌, subst, arith, inl, inr}
use Rattle.std.proofs.lemmas.Bool.Decides.{nat_tests}
use Rattle.std.proofs.lemmas.List.Elements.{All-cons, All-nil}
use Rattle.gl_base.specs.declared.side.Side.{Side}
use Rattle.gl_base.specs.declared.side.Side.TheVariants.{Equipment, Host}
use Rattle.delivery.specs.Order.{giving_at}
use Rattle.message_end.specs.Doings.{IsPlain}
use Rattle.message_end.specs.Own.{Giving, Has, sent_at}
use Rattle.message_end.specs.Starts.{IsStartOf}
use Rattle.message_end.specs.Starts.IsStartOf.{of_equipment, of_host, of_journal}
use Rattle.message_flow.specs.declared.message.Message.{Message}
use Rattle.message_flow.specs.Message.{is_primary}
use Rattle.trace_log.specs.declared.names.Cause.TheVariants as cause
use Rattle.trace_log.specs.Delivered.{Delivered, sends_like}
use Rattle.trace_log.specs.Log.{Entry, Happening}
use Rattle.trace_log.specs.Log.Entry.{Noted}
use Rattle.spool_law.specs.Shelf.{Change, MayChange, Policy, change_of, shelf_of}
use Rattle.spool_law.specs.Shelf.Change.{Finds, HasGone, HasStored, Leaves, Other, Receives, Sends, Stores, Tries}
use Rattle.spool_delivery.specs.Account.{Account, Put, Try, account_changed, account_of, taken_with, tried_with}
use Rattle.spool_delivery.specs.Claims.{IsNew, equipment_notes}
use Rattle.spool_delivery.proofs.Facts.{AreFacts, HasNew, IsTakenBehind, IsBacked}
use Rattle.spool_delivery.proofs.Tied.{IsAt, sound-at}
use Rattle.message_end.proofs.Members.{has-back, has-either, has-front}
use Rattle.spool_delivery.proofs.Logs.{AreReplied, IsReplied, equipment_sent, host_received, received-was-sent, sent-more, sent_behind, taken-was-sent}
use Rattle.spool_delivery.proofs.Orders.{AllPlaced, AreGivenInOrder, AreTakenAt, IsOfLatest, IsPutGiven, IsTakenAt, order-given, order-sent, order-tried, taken-given, taken-sent, taken-tried}
use Rattle.spool_delivery.proofs.Tries.{AllFresh, AreOfStart, FirstTried, IsFirstTried, IsNewTry, IsNoStart, IsUntried, TriesFall, carries-put, taken-stays, tried-other, tries-are, tries-go}

-- what the host has received of a try is taken
abbrev pub AreHostTaken : List Entry → Type 0
AreHostTaken log =
    (m : Message) → Has (host_received log) m → is_primary m ≡ true → (put : Put)
    → tried_with m.system (account_of log).tries ≡ Some put → Has (account_of log).taken put

-- a log, with the numbers that the equipment has drawn in its start from the base on, the system bytes of its tries in
-- this start, all that it has sent and given, and the places of last blocks of what the host has received
pub record IsWorld
    (policy : Policy) (log : List Entry) (base : ℕ) (drawn now : List ℕ) (sent : List Message) (given : List Giving)
    (places : List ℕ)
    : Type 0 where
  pub facts : AreFacts policy log
  pub falls : TriesFall (account_of log).tries
  pub first : FirstTried (shelf_of (equipment_notes log)).tried (account_of log).standing (account_of log).tries
  pub starts : AreOfStart base drawn now (shelf_of (equipment_notes log)).told (account_of log).tries
  pub host_taken : AreHostTaken log
  pub order : AreGivenInOrder given sent (account_of log).tries
  pub taken_at : AreTakenAt places given sent (account_of log).tries (account_of log).taken

-- ---- what is confirmed is taken, and what goes out was put

-- a primary goes out with a number that was drawn
abbrev pub SendsDrawn : Change → List ℕ → Type 0
SendsDrawn (Sends message) drawn = is_primary message ≡ true → Has drawn message.system
SendsDrawn _ drawn = Unit {0}

same-first : (put other : Put) (rest others : List Put) → put ∷ rest ≡ other ∷ others → put ≡ other
same-first put other rest others is = cc

backed : (policy : Policy) (log : List Entry) (base : ℕ) (drawn now : List ℕ) (sent : List Message)
    (given : List Giving) (places : List ℕ) (change : Change)
    → Delivered log → AreReplied log → ((n : ℕ) → Has drawn n → base ≤ n) → SendsDrawn change drawn
    → IsWorld policy log base drawn now sent given places → MayChange policy (equipment_notes log) change
    → IsBacked change (account_of log)
backed policy log base drawn now sent given places (Leaves number cause.Confirmed room_for) delivered replied
    least for_it is may =
    λ put rest first.
    subst (λ (p : Put). Has (account_of log).taken p) (same-first it.put put it.rest rest (sym it.first ∙ first))
    (is.host_taken reply.asked reply.has reply.primary it.put
    (ap (λ (s : ℕ). tried_with s (account_of log).tries) (reply.system ∙ may.cause.0.system) ∙ it.named))
  where
    it : IsFirstTried may.cause.0.tried (account_of log).standing (account_of log).tries
    it = is.first may.cause.0.tried may.cause.0.is

    reply : IsReplied log may.cause.0.reply
    reply =
        replied may.cause.0.reply (received-was-sent log delivered may.cause.0.reply may.cause.0.has) may.cause.0.secondary
backed policy log base drawn now sent given places (Leaves number cause.Purged room_for) delivered replied least
    for_it is may =
    tt
backed policy log base drawn now sent given places (Leaves number cause.Overwritten room_for) delivered replied
    least for_it is may =
    tt
backed policy log base drawn now sent given places (Finds found) delivered replied least for_it is may = tt
backed policy log base drawn now sent given places (Stores number message) delivered replied least for_it is may = tt
backed policy log base drawn now sent given places (HasStored number) delivered replied least for_it is may = tt
backed policy log base drawn now sent given places (HasGone number) delivered replied least for_it is may = tt
backed policy log base drawn now sent given places (Tries number system) delivered replied least for_it is may = tt
backed policy log base drawn now sent given places (Sends message) delivered replied least for_it is may =
    carries-put base drawn now (shelf_of (equipment_notes log)).told (account_of log) message may is.starts least for_it
backed policy log base drawn now sent given places (Receives message) delivered replied least for_it is may = tt
backed policy log base drawn now sent given places Other delivered replied least for_it is may = tt

-- ---- a try has new system bytes

apart-from : (own primary : Bool) (system other : ℕ) → (primary ≡ true → other ≢ system)
    → (own && primary && system == other) ≡ false
apart-from false primary system other apart = refl
apart-from true false system other apart = refl
apart-from true true system other apart = let differs = apart refl in grind (arith, nat_tests)

unlike-sent : (entry : Entry) (before : List Message) (system : ℕ)
    → ((m : Message) → Has (sent_behind entry before) m → is_primary m ≡ true → m.system ≢ system)
    → (message : Message) → message.system ≡ system → sends_like Equipment message entry ≡ false
unlike-sent (Noted moment Equipment (Happening.Sent other)) before system fresh message at =
    apart-from true (is_primary other) message.system other.system
    (λ primary same. fresh other (inl refl) primary (same ∙ at))
unlike-sent (Noted moment Host (Happening.Sent other)) before system fresh message at = refl
unlike-sent entry before system fresh message at = refl

new-to : (system : ℕ) (log : List Entry)
    → ((m : Message) → Has (equipment_sent log) m → is_primary m ≡ true → m.system ≢ system) → IsNew system log
new-to system [] fresh message at = All-nil (λ (e : Entry). sends_like Equipment message e ≡ false)
new-to system (entry ∷ before) fresh message at =
    All-cons (λ (e : Entry). sends_like Equipment message e ≡ false) entry before
    (unlike-sent entry (equipment_sent before) system fresh message at)
    (new-to system before (λ m has. fresh m (sent-more entry (equipment_sent before) m has)) message at)

new-for : (change : Change) (log : List Entry) (sent : List Message) → equipment_sent log ≡ sent → AllFresh change sent
    → IsUntried change (account_of log).tries → HasNew change log
new-for (Tries number system) log sent same fresh untried =
    (new-to system log (λ m has. fresh m (subst (λ (ms : List Message). Has ms m) same has)), untried)
new-for (Finds found) log sent same fresh untried = tt
new-for (Stores number message) log sent same fresh untried = tt
new-for (HasStored number) log sent same fresh untried = tt
new-for (Leaves number why room_for) log sent same fresh untried = tt
new-for (HasGone number) log sent same fresh untried = tt
new-for (Sends message) log sent same fresh untried = tt
new-for (Receives message) log sent same fresh untried = tt
new-for Other log sent same fresh untried = tt

-- ---- the equipment notes something

pub note-step : (policy : Policy) (log : List Entry) (moment : ℕ) (what : Happening) (base : ℕ) (drawn now : List ℕ)
    (sent : List Message) (given : List Giving) (places : List ℕ) (base_now : ℕ) (drawn_now now_now : List ℕ)
    → Delivered log → AreReplied log → equipment_sent log ≡ sent → ((n : ℕ) → Has drawn n → base ≤ n)
    → SendsDrawn (change_of what) drawn → MayChange policy (equipment_notes log) (change_of what)
    → AllFresh (change_of what) sent → IsUntried (change_of what) (account_of log).tries
    → AreOfStart base_now drawn_now now_now (shelf_of (what ∷ equipment_notes log)).told
    (account_of (Noted moment Equipment what ∷ log)).tries
    → IsWorld policy log base drawn now sent given places
    → IsWorld policy (Noted moment Equipment what ∷ log) base_now drawn_now now_now sent given places
note-step policy log moment what base drawn now sent given places base_now drawn_now now_now delivered replied sent_are
    least for_it may fresh untried starts is = record {
      facts = (
        (
          (may, backed policy log base drawn now sent given places change delivered replied least for_it is may),
          new-for change log sent sent_are fresh untried,
        ),
        is.facts,
      );
      falls = tries.0;
      first = tries.1;
      starts = starts;
      host_taken = λ m has primary put tried.
          subst (λ (ps : List Put). Has ps put) (sym (taken-stays change (length log) a))
          (host m has primary put tried view);
      order = order view;
      taken_at =
          subst (λ (ps : List Put). AreTakenAt places given sent tries_now ps) (sym (taken-stays change (length log) a))
          (taken view);
    }
  where
    change : Change
    change = change_of what

    notes : List Happening
    notes = equipment_notes log

    a : Account
    a = account_of log

    at : IsAt (length log) notes a
    at = sound-at policy log is.facts

    tries_now : List Try
    tries_now = (account_changed (length log) change a).tries

    tries : TriesFall tries_now
        × FirstTried (shelf_of (what ∷ notes)).tried (account_changed (length log) change a).standing tries_now
    tries = tries-are policy notes change (length log) a at.tied at.sound may is.falls is.first

    view : (tries_now ≡ a.tries) ⊎ IsNewTry tries_now a.tries sent
    view = tries-go policy notes change (length log) a sent at.tied may fresh

    order : (tries_now ≡ a.tries) ⊎ IsNewTry tries_now a.tries sent → AreGivenInOrder given sent tries_now
    order (inl same) = subst (λ (ts : List Try). AreGivenInOrder given sent ts) (sym same) is.order
    order (inr new) = order-tried given sent tries_now a.tries new is.order

    taken : (tries_now ≡ a.tries) ⊎ IsNewTry tries_now a.tries sent → AreTakenAt places given sent tries_now a.taken
    taken (inl same) = subst (λ (ts : List Try). AreTakenAt places given sent ts a.taken) (sym same) is.taken_at
    taken (inr new) = taken-tried places given sent tries_now a.tries a.taken new is.taken_at

    host : (m : Message) → Has (host_received log) m → is_primary m ≡ true → (put : Put)
        → tried_with m.system tries_now ≡ Some put → (tries_now ≡ a.tries) ⊎ IsNewTry tries_now a.tries sent
        → Has a.taken put
    host m has primary put tried (inl same) =
        is.host_taken m has primary put (ap (λ (ts : List Try). tried_with m.system ts) (sym same) ∙ tried)
    host m has primary put tried (inr new) =
        is.host_taken m has primary put
        (sym (ap (λ (ts : List Try). tried_with m.system ts) new.are
        ∙ tried-other new.system m.system new.put a.tries
        (new.fresh m
        (subst (λ (ms : List Message). Has ms m) sent_are (taken-was-sent log delivered m has)) primary))
        ∙ tried)

-- ---- it draws a number, sends a message, gives a block

pub drawn-step : (policy : Policy) (log : List Entry) (base : ℕ) (drawn now : List ℕ) (sent : List Message)
    (given : List Giving) (places : List ℕ) (number : ℕ)
    → IsWorld policy log base drawn now sent given places
    → IsWorld policy log base (number ∷ drawn) now sent given places
drawn-step policy log base drawn now sent given places number is = record {
  facts = is.facts;
  falls = is.falls;
  first = is.first;
  starts = record {
    older = is.starts.older;
    are = is.starts.are;
    below = is.starts.below;
    drawn_are = λ s has. inr (is.starts.drawn_are s has);
    told_before = is.starts.told_before;
    told_are = is.starts.told_are;
    told_below = is.starts.told_below;
    told_drawn = λ one has. inr (is.starts.told_drawn one has);
  };
  host_taken = is.host_taken;
  order = is.order;
  taken_at = is.taken_at;
}

pub sent-step : (policy : Policy) (log : List Entry) (base : ℕ) (drawn now : List ℕ) (sent : List Message)
    (given : List Giving) (places : List ℕ) (message : Message)
    → AllPlaced given sent → IsWorld policy log base drawn now sent given places
    → IsWorld policy log base drawn now (message ∷ sent) given places
sent-step policy log base drawn now sent given places message placed is = record {
  facts = is.facts;
  falls = is.falls;
  first = is.first;
  starts = is.starts;
  host_taken = is.host_taken;
  order = order-sent given sent (account_of log).tries message placed is.order;
  taken_at = taken-sent places given sent (account_of log).tries message (account_of log).taken is.taken_at;
}

pub give-step : (policy : Policy) (log : List Entry) (base : ℕ) (drawn now : List ℕ) (sent : List Message)
    (given : List Giving) (places : List ℕ) (giving : Giving)
    → IsOfLatest giving sent (account_of log).tries → IsWorld policy log base drawn now sent given places
    → IsWorld policy log base drawn now sent (giving ∷ given) places
give-step policy log base drawn now sent given places giving latest is = record {
  facts = is.facts;
  falls = is.falls;
  first = is.first;
  starts = is.starts;
  host_taken = is.host_taken;
  order = order-given given sent (account_of log).tries giving latest is.order;
  taken_at = taken-given places given sent (account_of log).tries giving (account_of log).taken is.taken_at;
}

-- ---- the host receives, or notes something else

taken-with-is : (primary : Bool) (message : Message) (a : Account) (put : Put) → Has (taken_with primary message a) put
    → (primary ≡ true) × (tried_with message.system a.tries ≡ Some put)
taken-with-is false message a put is = absurd is
taken-with-is true message a put has = (refl, go (tried_with message.system a.tries) has)
  where
    go : (o : Option Put) → Has (option_to_list o) put → o ≡ Some put
    go None is = absurd is
    go (Some one) (inl same) = ap Some (sym same)
    go (Some one) (inr is) = absurd is

pub take-step : (policy : Policy) (log : List Entry) (moment : ℕ) (message : Message) (base : ℕ) (drawn now : List ℕ)
    (sent : List Message) (given : List Giving) (places : List ℕ) (place : ℕ)
    → (giving : Giving) → giving_at place given ≡ Some giving → sent_at giving.place sent ≡ Some message
    → ((other : ℕ) → Has places other → other ≤ place)
    → IsWorld policy log base drawn now sent given places
    → IsWorld policy (Noted moment Host (Happening.Received message) ∷ log) base drawn now sent given (place ∷ places)
take-step policy log moment message base drawn now sent given places place giving given_is sent_is up_to is = record {
  facts = ((behind_is, tt), is.facts);
  falls = is.falls;
  first = is.first;
  starts = is.starts;
  host_taken = host;
  order = is.order;
  taken_at = λ put has. where_taken put (has-either a.taken (taken_with (is_primary message) message a) put has);
}
  where
    a : Account
    a = account_of log

    this : (put : Put) → is_primary message ≡ true → tried_with message.system a.tries ≡ Some put
        → IsPutGiven given sent a.tries place put
    this put primary tried = record {
      giving = giving;
      is = given_is;
      message = message;
      sent_is = sent_is;
      primary = primary;
      tried = tried;
    }

    behind_is : IsTakenBehind message a
    behind_is put primary tried one has =
        let it = is.taken_at one has in
        is.order it.place place one put it.is (this put primary tried) (up_to it.place it.has)

    host : AreHostTaken (Noted moment Host (Happening.Received message) ∷ log)
    host m (inl same) primary put tried =
        has-back a.taken (taken_with (is_primary message) message a) put
        (subst (λ (b : Bool). Has (taken_with b message a) put) (sym (ap is_primary (sym same) ∙ primary))
        (subst (λ (o : Option Put). Has (option_to_list o) put)
        (sym (ap (λ (w : Message). tried_with w.system a.tries) (sym same) ∙ tried)) (inl refl)))
    host m (inr has) primary put tried =
        has-front a.taken (taken_with (is_primary message) message a) put (is.host_taken m has primary put tried)

    where_taken : (put : Put) → Has a.taken put ⊎ Has (taken_with (is_primary message) message a) put
        → IsTakenAt (place ∷ places) given sent a.tries put
    where_taken put (inl has) =
        let it = is.taken_at put has in record { place = it.place; has = inr it.has; is = it.is }
    where_taken put (inr has) =
        let it = taken-with-is (is_primary message) message a put has in
        record { place = place; has = inl refl; is = this put it.0 it.1 }

abbrev pub NotReceived : Happening → Type 0
NotReceived (Happening.Received message) = ⊥
NotReceived _ = Unit {0}

pub plain-not : (what : Happening) → IsPlain what → NotReceived what
plain-not (Happening.Received message) plain = absurd plain
plain-not what plain = tt

pub start-not : (side : Side) (note : Happening) (base : ℕ) → IsStartOf side note base → NotReceived note
start-not _ _ _ (of_equipment found base) = tt
start-not _ _ _ (of_host base) = tt
start-not _ _ _ (of_journal found base) = tt

pub plain-no-start : (what : Happening) → IsPlain what → IsNoStart (change_of what)
plain-no-start (Happening.EquipmentStarted found base) plain = absurd plain
plain-no-start what plain = tt

pub plain-sends : (what : Happening) (drawn : List ℕ) → IsPlain what → SendsDrawn (change_of what) drawn
plain-sends (Happening.Sent message) drawn plain = absurd plain
plain-sends what drawn plain = tt

pub quiet-step : (policy : Policy) (log : List Entry) (moment : ℕ) (what : Happening) (base : ℕ) (drawn now : List ℕ)
    (sent : List Message) (given : List Giving) (places : List ℕ)
    → NotReceived what → IsWorld policy log base drawn now sent given places
    → IsWorld policy (Noted moment Host what ∷ log) base drawn now sent given places
quiet-step policy log moment (Happening.Received message) base drawn now sent given places not is = absurd not
quiet-step policy log moment what base drawn now sent given places not is = record {
  facts = ((tt, tt), is.facts);
  falls = is.falls;
  first = is.first;
  starts = is.starts;
  host_taken = is.host_taken;
  order = is.order;
  taken_at = is.taken_at;
}
