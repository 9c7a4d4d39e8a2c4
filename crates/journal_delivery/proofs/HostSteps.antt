-- What a note of the host, and what it does, leaves of the journal.
use Rattle.std.specs.Prelude.{◌≡◌, ◌≤◌, ◌⊎◌, ℕ, Bool, true, false, List, ◌∷◌, ◌++◌, length, Option, Some, None, option_to_list, if◌then◌else◌, refl}
use Rattle.std.proofs.Common.{sym, ap, ◌∙◌, subst, arith, inl, inr}
use Rattle.gl_base.specs.declared.side.Side.TheVariants.{Host}
use Rattle.message_end.specs.Own.{Giving, Has, sent_at}
use Rattle.message_end.proofs.Lists.{has-sent}
use Rattle.message_end.proofs.Members.{has-back, has-either, has-front}
use Rattle.message_flow.specs.declared.message.Message.{Message}
use Rattle.message_flow.specs.Message.{is_primary}
use Rattle.spool_rule.specs.Rule.{is_spoolable}
use Rattle.trace_log.specs.Delivered.{Delivered}
use Rattle.trace_log.specs.Log.{Entry, Happening}
use Rattle.trace_log.specs.Log.Entry.{Noted}
use Rattle.trace_log.specs.Names.{Record}
use Rattle.spool_law.specs.Listing.{AllStoredAreSpoolable, Owed, owed_behind, record_of}
use Rattle.spool_law.specs.Listing.Owed.{Nothing, ToList}
use Rattle.spool_law.specs.Shelf.{Policy}
use Rattle.spool_delivery.specs.Account.{Account, Put, Turn, account_after, account_of, taken_of, taken_with, tried_with, turn_of_note}
use Rattle.spool_delivery.specs.Account.Turn.{Quiet}
use Rattle.spool_delivery.specs.Claims.{equipment_notes}
use Rattle.spool_delivery.proofs.Facts.{AreFacts, IsFact, IsNewIn}
use Rattle.spool_delivery.proofs.Folded.{place_of}
use Rattle.spool_delivery.proofs.Logs.{equipment_sent, taken-was-sent}
use Rattle.spool_delivery.proofs.Orders.{AllPlaced, sent-less}
use Rattle.spool_delivery.proofs.WorldSteps.{NotReceived}
use Rattle.journal_delivery.specs.Listed.{listed_by, listed_log, listed_message, owed_of, with_listed}
use Rattle.journal_delivery.proofs.Alike.{account-read, turn-read, turn_listed, with_taken}
use Rattle.journal_delivery.proofs.Steps.{IsJournal, IsNewest, IsReplyTo, IsSettled, listed_of, newest-later, owed_record, settled-later, taken-grows, tries-read}
use Rattle.journal_delivery.proofs.Tried.{IsSent, sent-later, sent-spoolable, tried-before}

none-some : {X : Type 0} (x : X) → None ≡ Some x → ⊥
none-some x is = cc

some-same : {X : Type 0} (one other : X) → Some one ≡ Some other → one ≡ other
some-same one other is = cc

-- ---- what is taken where a record is listed

abbrev listed_more : Option Record → Account → List Put → List Put
listed_more None a taken = taken
listed_more (Some listed) a taken =
    taken ++ taken_with (is_primary (listed_message listed)) (listed_message listed) a

alike-with : (primary : Bool) (message : Message) (taken : List Put) (a : Account)
    → taken_with primary message (with_taken taken a) ≡ taken_with primary message a
alike-with true message taken a = refl
alike-with false message taken a = refl

more-listed : (log : List Entry) (moment : ℕ) (what : Happening)
    → listed_of (Noted moment Host what ∷ log)
    ≡ listed_more (listed_by (owed_of log) what) (account_of log) (listed_of log)
more-listed log moment what =
    ap (λ (t : Turn). (account_after (length (listed_log log)) t now).taken) (turn-read (listed_by (owed_of log) what)
    what)
    ∙ of (listed_by (owed_of log) what)
  where
    now : Account
    now = account_of (listed_log log)

    of : (listed : Option Record)
        → (account_after (length (listed_log log)) (turn_listed listed) now).taken
        ≡ listed_more listed (account_of log) now.taken
    of None = refl
    of (Some listed) =
        ap
        (λ (a : Account). now.taken ++ taken_with (is_primary (listed_message listed)) (listed_message listed) a)
        (account-read log)
        ∙ ap (λ (ps : List Put). now.taken ++ ps)
        (alike-with (is_primary (listed_message listed)) (listed_message listed) now.taken (account_of log))

with-is : (primary : Bool) (message : Message) (a : Account) (put : Put) → Has (taken_with primary message a) put
    → (primary ≡ true) × (tried_with message.system a.tries ≡ Some put)
with-is false message a put is = absurd is
with-is true message a put has = (refl, go (tried_with message.system a.tries) has)
  where
    go : (o : Option Put) → Has (option_to_list o) put → o ≡ Some put
    go None is = absurd is
    go (Some one) (inl same) = ap Some (sym same)
    go (Some one) (inr is) = absurd is

with-has : (primary : Bool) (message : Message) (a : Account) (put : Put) → primary ≡ true
    → tried_with message.system a.tries ≡ Some put → Has (taken_with primary message a) put
with-has primary message a put is tried =
    subst (λ (b : Bool). Has (taken_with b message a) put) (sym is)
    (subst (λ (o : Option Put). Has (option_to_list o) put) (sym tried) (inl refl))

-- what is listed now
listed-has : (log : List Entry) (moment : ℕ) (what : Happening) (listed : Record) (put : Put)
    → listed_by (owed_of log) what ≡ Some listed → is_primary (listed_message listed) ≡ true
    → tried_with listed.system (account_of log).tries ≡ Some put → Has (listed_of (Noted moment Host what ∷ log)) put
listed-has log moment what listed put is primary tried =
    subst (λ (ps : List Put). Has ps put) (sym (more-listed log moment what))
    (subst (λ (o : Option Record). Has (listed_more o (account_of log) (listed_of log)) put) (sym is)
    (has-back (listed_of log) (taken_with (is_primary (listed_message listed)) (listed_message listed) (account_of log))
    put (with-has (is_primary (listed_message listed)) (listed_message listed) (account_of log) put primary tried)))

listed-grows : (log : List Entry) (moment : ℕ) (what : Happening) (put : Put) → Has (listed_of log) put
    → Has (listed_of (Noted moment Host what ∷ log)) put
listed-grows log moment what put has =
    taken-grows (length (listed_log log)) (turn_of_note Host (with_listed (listed_by (owed_of log) what) what))
    (account_of (listed_log log)) put has

-- ---- a note of the host

host-new : (what : Happening) (log : List Entry) → IsNewIn (turn_of_note Host what) log
host-new (Happening.Received message) log = tt
host-new what log = tt

-- what is listed was owed
abbrev pub ListsOwed : Happening → Owed → Type 0
ListsOwed what owed = (listed : Record) → listed_by owed what ≡ Some listed → owed_record owed ≡ Some listed

host-facts : (policy : Policy) (log : List Entry) (moment : ℕ) (what : Happening) (received now : List Message)
    (given : List Giving) (sent : List Message)
    → ListsOwed what (owed_of log) → IsJournal policy log received now given sent
    → AreFacts policy (listed_log (Noted moment Host what ∷ log))
host-facts policy log moment what received now given sent lists is = (
  subst (λ (t : Turn). IsFact policy t notes a × IsNewIn t (listed_log log))
      (sym (turn-read (listed_by (owed_of log) what) what)) (of (listed_by (owed_of log) what) refl),
  is.facts,
)
  where
    notes : List Happening
    notes = equipment_notes (listed_log log)

    a : Account
    a = account_of (listed_log log)

    of : (listed : Option Record) → listed_by (owed_of log) what ≡ listed
        → IsFact policy (turn_listed listed) notes a × IsNewIn (turn_listed listed) (listed_log log)
    of None same = (tt, tt)
    of (Some listed) same = (
      λ put primary tried one has.
          (is.owed listed (lists listed same) primary).last put
          (ap (λ ts. tried_with listed.system ts) (sym (tries-read log)) ∙ tried) one (is.among one has),
      tt,
    )

among-now : (policy : Policy) (log : List Entry) (moment : ℕ) (what : Happening) (received now : List Message)
    (given : List Giving) (sent : List Message) (put : Put)
    → ListsOwed what (owed_of log) → IsJournal policy log received now given sent
    → Has (listed_of (Noted moment Host what ∷ log)) put → Has (taken_of log) put
among-now policy log moment what received now given sent put lists is has =
    go (listed_by (owed_of log) what) refl
    (subst (λ (ps : List Put). Has ps put) (more-listed log moment what) has)
  where
    go : (listed : Option Record) → listed_by (owed_of log) what ≡ listed
        → Has (listed_more listed (account_of log) (listed_of log)) put → Has (taken_of log) put
    go None same there = is.among put there
    go (Some listed) same there = either (has-either (listed_of log) new put there)
      where
        new : List Put
        new = taken_with (is_primary (listed_message listed)) (listed_message listed) (account_of log)

        either : Has (listed_of log) put ⊎ Has new put → Has (taken_of log) put
        either (inl old) = is.among put old
        either (inr fresh) =
            let it = with-is (is_primary (listed_message listed)) (listed_message listed) (account_of log) put fresh in
            (is.owed listed (lists listed same) it.0).taken put it.1

-- a note that receives nothing. Of what the host has received in its start, what it owed is owed still, or is listed
pub host-step : (policy : Policy) (log : List Entry) (moment : ℕ) (what : Happening)
    (received received_now now now_now : List Message) (given : List Giving) (sent : List Message)
    → NotReceived what → ListsOwed what (owed_of log)
    → ((listed : Record) → owed_record (owed_behind what (owed_of log)) ≡ Some listed
    → owed_record (owed_of log) ≡ Some listed)
    → ((m : Message) → Has received_now m → Has received m)
    → ((m : Message) → Has received_now m → owed_record (owed_of log) ≡ Some (record_of m)
    → (owed_record (owed_behind what (owed_of log)) ≡ Some (record_of m))
    ⊎ (listed_by (owed_of log) what ≡ Some (record_of m)))
    → ((m : Message) → Has now_now m → is_primary m ≡ false → IsReplyTo received_now m)
    → IsJournal policy log received now given sent
    → IsJournal policy (Noted moment Host what ∷ log) received_now now_now given sent
host-step policy log moment what received received_now now now_now given sent not lists owes kept rest replies is =
    record {
      facts = host-facts policy log moment what received now given sent lists is;
      among = λ put has.
          subst (λ (ps : List Put). Has ps put) (sym taken_is)
          (among-now policy log moment what received now given sent put lists is has);
      owed = λ listed same primary.
          newest-later entry log listed.system new taken_is (is.owed listed (owes listed same) primary);
      received_are = λ m has primary.
          let it = is.received_are m (kept m has) primary in
          (sent-later m.system entry log it.0, either m has primary it.0 it.1);
      replies = replies;
      given_are = λ g m has at secondary. later m.system (is.given_are g m has at secondary);
      heard_are = λ m has secondary. later m.system (is.heard_are m has secondary);
    }
  where
    entry : Entry
    entry = Noted moment Host what

    new : IsNewIn (turn_of_note Host what) log
    new = host-new what log

    quiet : (what : Happening) → NotReceived what → turn_of_note Host what ≡ Quiet
    quiet (Happening.Received message) not = absurd not
    quiet what not = refl

    taken_is : taken_of (entry ∷ log) ≡ taken_of log
    taken_is = ap (λ (t : Turn). (account_after (length log) t (account_of log)).taken) (quiet what not)

    later : (system : ℕ) → IsSettled system log → IsSettled system (entry ∷ log)
    later system settled = settled-later entry log system new (listed-grows log moment what) settled

    either : (m : Message) → Has received_now m → is_primary m ≡ true → IsSent m.system log
        → IsSettled m.system log ⊎ (owed_record (owed_of log) ≡ Some (record_of m))
        → IsSettled m.system (entry ∷ log) ⊎ (owed_record (owed_behind what (owed_of log)) ≡ Some (record_of m))
    either m has primary was (inl settled) = inl (later m.system settled)
    either m has primary was (inr owed) = go (rest m has owed)
      where
        go : (owed_record (owed_behind what (owed_of log)) ≡ Some (record_of m))
            ⊎ (listed_by (owed_of log) what ≡ Some (record_of m))
            → IsSettled m.system (entry ∷ log) ⊎ (owed_record (owed_behind what (owed_of log)) ≡ Some (record_of m))
        go (inl still) = inr still
        go (inr listed) = inl (record {
          sent = sent-later m.system entry log was;
          listed = λ put tried.
              listed-has log moment what (record_of m) put listed primary
              (tried-before entry log new m.system was put tried);
        })

-- ---- the host receives

pub take-step : (policy : Policy) (log : List Entry) (moment : ℕ) (message : Message) (received now : List Message)
    (given : List Giving) (sent : List Message)
    → AreFacts policy (Noted moment Host (Happening.Received message) ∷ log)
    → AllStoredAreSpoolable (equipment_notes log)
    → Delivered (Noted moment Host (Happening.Received message) ∷ log) → owed_of log ≡ Nothing
    → IsJournal policy log received now given sent
    → IsJournal policy (Noted moment Host (Happening.Received message) ∷ log) (message ∷ received) now given sent
take-step policy log moment message received now given sent facts stored delivered none is = record {
  facts = host-facts policy log moment what received now given sent lists is;
  among = λ put has. has-front (taken_of log) puts put
      (among-now policy log moment what received now given sent put lists is has);
  owed = λ listed same primary.
      owed_now (is_spoolable message.stream message.function) listed same primary;
  received_are = λ m has primary. of m has primary;
  replies = λ m has secondary. reply (is.replies m has secondary);
  given_are = λ g m has at secondary. later m.system (is.given_are g m has at secondary);
  heard_are = λ m has secondary. later m.system (is.heard_are m has secondary);
}
  where
    what : Happening
    what = Happening.Received message

    entry : Entry
    entry = Noted moment Host what

    puts : List Put
    puts = taken_with (is_primary message) message (account_of log)

    lists : ListsOwed what (owed_of log)
    lists listed same = absurd (none-some listed same)

    later : (system : ℕ) → IsSettled system log → IsSettled system (entry ∷ log)
    later system settled = settled-later entry log system tt (listed-grows log moment what) settled

    was_sent : Has (equipment_sent log) message
    was_sent = taken-was-sent (entry ∷ log) delivered message (inl refl)

    was : is_primary message ≡ true → IsSent message.system log
    was primary = record { message = message; has = was_sent; primary = primary; system_is = refl }

    -- it is behind all that was taken
    newest : is_primary message ≡ true → IsNewest message.system (entry ∷ log)
    newest primary = record {
      sent = sent-later message.system entry log (was primary);
      taken = λ put tried.
          has-back (taken_of log) puts put (with-has (is_primary message) message (account_of log) put primary tried);
      last = λ put tried one has. up put tried one (has-either (taken_of log) puts one has);
    }
      where
        up : (put : Put) → tried_with message.system (account_of log).tries ≡ Some put → (one : Put)
            → Has (taken_of log) one ⊎ Has puts one → one.place ≤ put.place
        up put tried one (inl old) = facts.0.0 put primary tried one old
        up put tried one (inr new) =
            let it = with-is (is_primary message) message (account_of log) one new in
            let same = ap place_of (some-same one put (sym it.1 ∙ tried)) in
            omega (arith, same)

    owed_now : (spoolable : Bool) (listed : Record)
        → owed_record (if spoolable then ToList (record_of message) else owed_of log) ≡ Some listed
        → is_primary (listed_message listed) ≡ true → IsNewest listed.system (entry ∷ log)
    owed_now true listed same primary =
        let it = some-same (record_of message) listed same in
        subst (λ (r : Record). IsNewest r.system (entry ∷ log)) it
        (newest (subst (λ (r : Record). is_primary (listed_message r) ≡ true) (sym it) primary))
    owed_now false listed same primary = absurd (none-some listed (sym (ap owed_record none) ∙ same))

    first : (spoolable : Bool) → is_spoolable message.stream message.function ≡ spoolable
        → is_primary message ≡ true
        → IsSettled message.system (entry ∷ log)
        ⊎ (owed_record (if spoolable then ToList (record_of message) else owed_of log) ≡ Some (record_of message))
    first true can primary = inr refl
    first false can primary = inl (record {
      sent = sent-later message.system entry log (was primary);
      listed = λ put tried.
          absurd
          (never (sym (sent-spoolable policy log facts.1 stored message was_sent primary put tried) ∙ can));
    })
      where
        never : true ≡ false → ⊥
        never is = cc

    either : (m : Message) → IsSettled m.system log ⊎ (owed_record (owed_of log) ≡ Some (record_of m))
        → IsSettled m.system (entry ∷ log)
        ⊎ (owed_record (owed_of (entry ∷ log)) ≡ Some (record_of m))
    either m (inl settled) = inl (later m.system settled)
    either m (inr owed) = absurd (none-some (record_of m) (sym (ap owed_record none) ∙ owed))

    of : (m : Message) → Has (message ∷ received) m → is_primary m ≡ true
        → IsSent m.system (entry ∷ log)
        × (IsSettled m.system (entry ∷ log) ⊎ (owed_record (owed_of (entry ∷ log)) ≡ Some (record_of m)))
    of m (inl same) primary =
        subst
        (λ (w : Message).
        IsSent w.system (entry ∷ log)
        × (IsSettled w.system (entry ∷ log) ⊎ (owed_record (owed_of (entry ∷ log)) ≡ Some (record_of w))))
        (sym same) (
          sent-later message.system entry log (was primary_so),
          first (is_spoolable message.stream message.function) refl primary_so,
        )
      where
        primary_so : is_primary message ≡ true
        primary_so = ap is_primary (sym same) ∙ primary
    of m (inr has) primary =
        let it = is.received_are m has primary in (sent-later m.system entry log it.0, either m it.1)

    reply : {m : Message} → IsReplyTo received m → IsReplyTo (message ∷ received) m
    reply it = record { asked = it.asked; has = inr it.has; primary = it.primary; system = it.system }

-- ---- it sends a message, and gives a block

pub sent-step : (policy : Policy) (log : List Entry) (received now : List Message) (given : List Giving)
    (sent : List Message) (message : Message)
    → AllPlaced given sent → (is_primary message ≡ false → IsReplyTo received message)
    → IsJournal policy log received now given sent
    → IsJournal policy log received (message ∷ now) given (message ∷ sent)
sent-step policy log received now given sent message placed replies is = record {
  facts = is.facts;
  among = is.among;
  owed = is.owed;
  received_are = is.received_are;
  replies = λ m has secondary. of m has secondary;
  given_are = λ g m has at secondary.
      is.given_are g m has (sent-less g.place sent message m (placed g has) at) secondary;
  heard_are = is.heard_are;
}
  where
    of : (m : Message) → Has (message ∷ now) m → is_primary m ≡ false → IsReplyTo received m
    of m (inl same) secondary =
        subst (λ (w : Message). IsReplyTo received w) (sym same) (replies (ap is_primary (sym same) ∙ secondary))
    of m (inr has) secondary = is.replies m has secondary

pub give-step : (policy : Policy) (log : List Entry) (received now : List Message) (given : List Giving)
    (sent : List Message) (giving : Giving) (place : ℕ) (message : Message)
    → sent_at place now ≡ Some message → sent_at giving.place sent ≡ Some message → owed_of log ≡ Nothing
    → IsJournal policy log received now given sent
    → IsJournal policy log received now (giving ∷ given) sent
give-step policy log received now given sent giving place message at whole none is = record {
  facts = is.facts;
  among = is.among;
  owed = is.owed;
  received_are = is.received_are;
  replies = is.replies;
  given_are = λ g m has at_g secondary. of g m has at_g secondary;
  heard_are = is.heard_are;
}
  where
    settled : is_primary message ≡ false → IsSettled message.system log
    settled secondary =
        subst (λ (s : ℕ). IsSettled s log) it.system (either (is.received_are it.asked it.has it.primary).1)
      where
        it : IsReplyTo received message
        it = is.replies message (has-sent place now message at) secondary

        either : IsSettled it.asked.system log ⊎ (owed_record (owed_of log) ≡ Some (record_of it.asked))
            → IsSettled it.asked.system log
        either (inl so) = so
        either (inr owed) = absurd (none-some (record_of it.asked) (sym (ap owed_record none) ∙ owed))

    of : (g : Giving) (m : Message) → Has (giving ∷ given) g → sent_at g.place sent ≡ Some m → is_primary m ≡ false
        → IsSettled m.system log
    of g m (inl same) at_g secondary =
        subst (λ (w : Message). IsSettled w.system log) it (settled (ap is_primary it ∙ secondary))
      where
        it : message ≡ m
        it =
            some-same message m
            (sym whole ∙ ap (λ (x : Giving). sent_at x.place sent) (sym same) ∙ at_g)
    of g m (inr has) at_g secondary = is.given_are g m has at_g secondary
