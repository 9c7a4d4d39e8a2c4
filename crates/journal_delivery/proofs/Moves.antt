-- Two ends that keep their laws, with the journal of the host, at each move.
use Rattle.std.specs.Prelude.{◌≡◌, ◌⊎◌, ◌+◌, ℕ, Bool, true, false, List, [], ◌∷◌, ◌++◌, length, map, Option, Some, None, if◌then◌else◌, refl}
use Rattle.std.proofs.Common.{sym, ap, ◌∙◌, subst, inl, inr}
use Rattle.gl_base.specs.declared.side.Side.{Side}
use Rattle.gl_base.specs.declared.side.Side.TheVariants.{Equipment, Host}
use Rattle.gl_base.specs.Side.{other_side}
use Rattle.delivery.specs.Order.{AreInOrder, KindInOrder}
use Rattle.line_order.specs.Characters.{Character}
use Rattle.line_order.specs.Line.{Arrival}
use Rattle.message_end.specs.Doings.{IsPlain, line_of, own_of, with_call}
use Rattle.message_end.specs.Doings.Doing.{Calls, Does, Gives, Says}
use Rattle.message_end.specs.Log.{log_of, noted_at, noted_of, with_note}
use Rattle.message_end.specs.Moves.{KeepLaws, Kind, LinePlans, MayMove, Move, Run, all_given, all_sent, behind, newest_place, plan_at, run_after, run_at, seen_at}
use Rattle.message_end.specs.Moves.Kind.{Added, Changed, Did, Lost, Started}
use Rattle.message_end.specs.Own.{Giving, Has, Own, given_in, received_in, sent_in, MaySend}
use Rattle.message_end.specs.Own.Own.{DrewNumber, DroppedMessage, GaveBlock, HeardBlock, ReceivedMessage, SentMessage, WroteFrame}
use Rattle.message_end.specs.Plan.{EndPlan, receiver_of}
use Rattle.message_end.specs.Starts.{IsStartOf}
use Rattle.message_end.proofs.MessagesKept.{reply-system}
use Rattle.message_end.proofs.Starts.{IsHostStart, host-start}
use Rattle.message_flow.specs.declared.message.Message.{Message}
use Rattle.message_flow.specs.Blocks.{header_of}
use Rattle.message_flow.specs.Message.{is_primary}
use Rattle.trace_log.specs.Delivered.{Delivered}
use Rattle.trace_log.specs.Log.{Entry, Happening, Journal}
use Rattle.trace_log.specs.Log.Entry.{Noted}
use Rattle.trace_log.specs.Names.{Record, Spooled}
use Rattle.spool_law.specs.Listing.{AllStoredAreSpoolable, KeepsListing, MayListAt, MayMoveListing, MaySayOwed, Owed, owed_behind, owed_in, owed_with, record_of}
use Rattle.spool_law.specs.Listing.Owed.{Nothing, ToHaveListed, ToList}
use Rattle.spool_law.specs.Shelf.{KeepsSpool, Policy, change_of, received_behind, shelf_of}
use Rattle.spool_law.specs.Tries.{KeepsTries}
use Rattle.spool_delivery.specs.Account.{account_of}
use Rattle.spool_delivery.specs.Claims.{equipment_notes}
use Rattle.spool_delivery.proofs.Facts.{AreFacts}
use Rattle.spool_delivery.proofs.Logs.{asked-received}
use Rattle.spool_delivery.proofs.Orders.{given-has, sent-front}
use Rattle.spool_delivery.proofs.Runs.{AreSame, IsNumbered, call-same}
use Rattle.spool_delivery.proofs.Tries.{FirstTried}
use Rattle.spool_delivery.proofs.WorldSteps.{plain-not}
use Rattle.spool_delivery.proofs.Worlds.{all-placed, delivered-before, numbered-are, spool-before, world-at}
use Rattle.journal_delivery.specs.Listed.{found_among, has_number, listed_by, listed_log, owed_of}
use Rattle.journal_delivery.proofs.HostSteps.{ListsOwed, give-step, host-step, sent-step, take-step}
use Rattle.journal_delivery.proofs.Steps.{IsJournal, IsReplyTo, IsSettled, owed_record, tool-step}
use Rattle.journal_delivery.proofs.Tried.{all-but}

-- ---- what the host owes, by its doings and by the log

owed-noted : (moment : ℕ) (noted : Option Happening) (log : List Entry)
    → owed_of (with_note moment Host noted log) ≡ owed_with noted (owed_of log)
owed-noted moment None log = refl
owed-noted moment (Some what) log = refl

owed-tool : (moment : ℕ) (noted : Option Happening) (log : List Entry)
    → owed_of (with_note moment Equipment noted log) ≡ owed_of log
owed-tool moment None log = refl
owed-tool moment (Some what) log = refl

owed-after : (plan : EndPlan) → plan.side ≡ Host → (arrived : List Arrival) (way : List Character) (moment : ℕ)
    (kind : Kind) (log : List Entry) (run : Run)
    → MayMove plan way run kind → owed_of log ≡ owed_in run.doings
    → owed_of (with_note moment Host (noted_at Host kind) log) ≡ owed_in (run_after plan arrived kind run).doings
owed-after plan host arrived way moment (Did doing) log run may same =
    owed-noted moment (noted_of doing) log ∙ ap (λ (o : Owed). owed_with (noted_of doing) o) same
owed-after plan host arrived way moment (Started note base) log run may same =
    ap (λ (what : Happening). owed_behind what (owed_of log)) (host-start plan.side note base may.0 host).is
owed-after plan host arrived way moment Lost log run may same = same
owed-after plan host arrived way moment (Changed place byte) log run may same = same
owed-after plan host arrived way moment (Added byte) log run may same = same

owed-are : (plans : LinePlans) (moves : List Move) → KeepLaws plans moves
    → owed_of (log_of moves) ≡ owed_in (run_at Host plans moves).doings
owed-are plans [] laws = refl
owed-are plans (move ∷ before) laws = go (owed-are plans before laws.1) move.side laws.0
  where
    go : owed_of (log_of before) ≡ owed_in (run_at Host plans before).doings → (side : Side)
        → MayMove (plan_at side plans) (seen_at side plans before).there.under_way (run_at side plans before) move.kind
        → owed_of (with_note move.moment side (noted_at side move.kind) (log_of before))
        ≡ owed_in (run_at Host plans (record move { side = side } ∷ before)).doings
    go earlier Host may =
        owed-after (plan_at Host plans) refl (seen_at Host plans before).here.arrived
        (seen_at Host plans before).there.under_way move.moment move.kind (log_of before) (run_at Host plans before) may
        earlier
    go earlier Equipment may = owed-tool move.moment (noted_at Equipment move.kind) (log_of before) ∙ earlier

-- ---- a move of the equipment

abbrev pub IsJournalOf : Policy → List Entry → EndPlan → Run → Type 0
IsJournalOf policy log plan run =
    IsJournal policy log (received_in (own_of plan run.doings)) (sent_in (own_of plan run.doings)) (all_given plan run)
    (all_sent plan run)

-- what the equipment receives of a note, if anything
abbrev Hears : Happening → List Message
Hears what = received_behind (change_of what) []

plain-hears : (what : Happening) (m : Message) → IsPlain what → Has (Hears what) m → ⊥
plain-hears (Happening.Received message) m plain is = plain
plain-hears what m plain is = is

start-hears : (side : Side) (note : Happening) (base : ℕ) (m : Message) → IsStartOf side note base
    → Has (Hears note) m → ⊥
start-hears _ _ _ m (IsStartOf.of_equipment found base) is = is
start-hears _ _ _ m (IsStartOf.of_host base) is = is
start-hears _ _ _ m (IsStartOf.of_journal found base) is = is

tool-move : (policy : Policy) (plan there : EndPlan) (arrived : List Arrival) (way : List Character) (moment : ℕ)
    (kind : Kind) (log : List Entry) (run theirs : Run) (place : ℕ)
    → MayMove plan way run kind → KindInOrder kind there theirs run place
    → AreFacts policy (with_note moment Equipment (noted_at Equipment kind) log)
    → FirstTried (shelf_of (equipment_notes log)).tried (account_of log).standing (account_of log).tries
    → IsJournalOf policy log there theirs
    → IsJournalOf policy (with_note moment Equipment (noted_at Equipment kind) log) there theirs
tool-move policy plan there arrived way moment (Did (Does (ReceivedMessage message))) log run theirs place may order
    facts first is =
    tool-step policy log moment (Happening.Received message) (received_in own) (sent_in own) (all_given there theirs)
    (all_sent there theirs) facts first heard is
  where
    own : List Own
    own = own_of there theirs.doings

    heard : (m : Message) → Has (message ∷ []) m → is_primary m ≡ false → IsSettled m.system log
    heard m (inl same) secondary =
        is.given_are order.last_block.giving m
        (given-has place (all_given there theirs) order.last_block.giving order.last_block.given)
        (order.last_block.sent ∙ ap Some (sym same)) secondary
    heard m (inr none) secondary = absurd none
tool-move policy plan there arrived way moment (Did (Does (SentMessage message))) log run theirs place may order
    facts first is =
    tool-step policy log moment (Happening.Sent message) (received_in own) (sent_in own) (all_given there theirs)
    (all_sent there theirs) facts first (λ m none secondary. absurd none) is
  where
    own : List Own
    own = own_of there theirs.doings
tool-move policy plan there arrived way moment (Did (Does (DrewNumber number))) log run theirs place may order
    facts first is = is
tool-move policy plan there arrived way moment (Did (Does (DroppedMessage header now))) log run theirs place may order
    facts first is = is
tool-move policy plan there arrived way moment (Did (Does (GaveBlock at number))) log run theirs place may order
    facts first is = absurd may.0.1
tool-move policy plan there arrived way moment (Did (Does (WroteFrame at number))) log run theirs place may order
    facts first is = absurd may.0.1
tool-move policy plan there arrived way moment (Did (Does (HeardBlock block now flow))) log run theirs place may order
    facts first is = absurd may.0.1
tool-move policy plan there arrived way moment (Did (Gives at number block now)) log run theirs place may order
    facts first is = is
tool-move policy plan there arrived way moment (Did (Calls call)) log run theirs place may order facts first is = is
tool-move policy plan there arrived way moment (Did (Says what)) log run theirs place may order facts first is =
    tool-step policy log moment what (received_in own) (sent_in own) (all_given there theirs) (all_sent there theirs)
    facts first (λ m has secondary. absurd (plain-hears what m may.0.1 has)) is
  where
    own : List Own
    own = own_of there theirs.doings
tool-move policy plan there arrived way moment (Started note base) log run theirs place may order facts first is =
    tool-step policy log moment note (received_in own) (sent_in own) (all_given there theirs) (all_sent there theirs)
    facts first (λ m has secondary. absurd (start-hears plan.side note base m may.0 has)) is
  where
    own : List Own
    own = own_of there theirs.doings
tool-move policy plan there arrived way moment Lost log run theirs place may order facts first is = is
tool-move policy plan there arrived way moment (Changed at byte) log run theirs place may order facts first is = is
tool-move policy plan there arrived way moment (Added byte) log run theirs place may order facts first is = is

-- ---- a move of the host

none-some : {X : Type 0} (x : X) → None ≡ Some x → ⊥
none-some x is = cc

-- what is being listed is found, if anything
found-owed : (found : List (ℕ × Spooled)) (owed : Owed) (listed : Record) → found_among found owed ≡ Some listed
    → owed_record owed ≡ Some listed
found-owed found Nothing listed is = is
found-owed found (ToList other) listed is = absurd (none-some listed is)
found-owed found (ToHaveListed number other) listed is = go (has_number found number) is
  where
    go : (test : Bool) → (if test then Some other else None) ≡ Some listed → Some other ≡ Some listed
    go true same = same
    go false same = absurd (none-some listed same)

start-owed : (journal : Option Journal) (owed : Owed) → ListsOwed (Happening.HostStarted journal) owed
start-owed None owed listed is = absurd (none-some listed is)
start-owed (Some journal) owed listed is = found-owed journal.found owed listed is

-- what a note of the host lists was owed, what is owed then was owed before, and what was owed is owed still or listed
record ListsInTurn (what : Happening) (owed : Owed) : Type 0 where
  pub lists : ListsOwed what owed
  pub owes :
      (listed : Record) → owed_record (owed_behind what owed) ≡ Some listed → owed_record owed ≡ Some listed
  pub rest :
      (m : Message) → owed_record owed ≡ Some (record_of m)
      → (owed_record (owed_behind what owed) ≡ Some (record_of m)) ⊎ (listed_by owed what ≡ Some (record_of m))

says-in-turn : (what : Happening) (owed : Owed) → IsPlain what → MaySayOwed owed what → ListsInTurn what owed
says-in-turn (Happening.Listing number listed) owed plain may = record {
  lists = λ other is. absurd (none-some other is);
  owes = λ other is. ap owed_record may ∙ is;
  rest = λ m is. inl (sym (ap owed_record may) ∙ is);
}
says-in-turn (Happening.Listed number listed) owed plain may = record {
  lists = λ other is. ap owed_record may ∙ is;
  owes = λ other is. absurd (none-some other is);
  rest = λ m is. inr (sym (ap owed_record may) ∙ is);
}
says-in-turn (Happening.Received message) owed plain may = absurd plain
says-in-turn (Happening.HostStarted journal) owed plain may = absurd plain
says-in-turn what owed plain may = record {
  lists = λ other is. absurd (none-some other is);
  owes = λ other is. is;
  rest = λ m is. inl is;
}

-- a reply is to a message received in this start
asked-of : (plan : EndPlan) (base : ℕ) (own : List Own) (message : Message) → MaySend plan.side own message
    → is_primary message ≡ false → IsReplyTo (received_in own) message
asked-of plan base own message may secondary =
    let reply = may.reply secondary in
    record {
      asked = reply.asked;
      has = asked-received own reply.asked reply.newest;
      primary = reply.primary;
      system =
          reply-system (other_side plan.side) reply.asked (header_of plan.side 0 message 1) reply.reply;
    }

host-move : (policy : Policy) (plan : EndPlan) → plan.side ≡ Host → (arrived : List Arrival) (way : List Character)
    (moment : ℕ) (kind : Kind) (log : List Entry) (run : Run)
    → MayMove plan way run kind → MayMoveListing run.doings kind → owed_of log ≡ owed_in run.doings
    → AreFacts policy (with_note moment Host (noted_at Host kind) log)
    → AllStoredAreSpoolable (equipment_notes log) → Delivered (with_note moment Host (noted_at Host kind) log)
    → IsNumbered plan run → IsJournalOf policy log plan run
    → IsJournalOf policy (with_note moment Host (noted_at Host kind) log) plan (run_after plan arrived kind run)
host-move policy plan host arrived way moment (Did (Does (ReceivedMessage message))) log run may list owes facts stored
    delivered numbered is =
    take-step policy log moment message (received_in own) (sent_in own) (all_given plan run) (all_sent plan run) facts
    stored delivered (owes ∙ list) is
  where
    own : List Own
    own = own_of plan run.doings
host-move policy plan host arrived way moment (Did (Does (SentMessage message))) log run may list owes facts stored
    delivered numbered is =
    sent-step policy (Noted moment Host (Happening.Sent message) ∷ log) (received_in own) (sent_in own)
    (all_given plan run) (all_sent plan run) message (all-placed plan run numbered)
    (asked-of plan run.base own message may.0.1)
    (host-step policy log moment (Happening.Sent message) (received_in own) (received_in own) (sent_in own)
    (sent_in own) (all_given plan run) (all_sent plan run) tt (λ other same. absurd (none-some other same)) (λ other same. same)
    (λ m has. has) (λ m has same. inl same) is.replies is)
  where
    own : List Own
    own = own_of plan run.doings
host-move policy plan host arrived way moment (Did (Does (DrewNumber number))) log run may list owes facts stored
    delivered numbered is = is
host-move policy plan host arrived way moment (Did (Does (DroppedMessage header now))) log run may list owes facts
    stored delivered numbered is = is
host-move policy plan host arrived way moment (Did (Does (GaveBlock place number))) log run may list owes facts stored
    delivered numbered is = absurd may.0.1
host-move policy plan host arrived way moment (Did (Does (WroteFrame place number))) log run may list owes facts stored
    delivered numbered is = absurd may.0.1
host-move policy plan host arrived way moment (Did (Does (HeardBlock block now flow))) log run may list owes facts
    stored delivered numbered is = absurd may.0.1
host-move policy plan host arrived way moment (Did (Gives place number block now)) log run may list owes facts stored
    delivered numbered is =
    give-step policy log (received_in own) (sent_in own) (all_given plan run) (all_sent plan run)
    (record { place = length run.sent_before + place; number = number }) place may.0.may.message may.0.may.sent
    (sent-front place (sent_in own) run.sent_before may.0.may.message may.0.may.sent) (owes ∙ list) is
  where
    own : List Own
    own = own_of plan run.doings
host-move policy plan host arrived way moment (Did (Calls call)) log run may list owes facts stored delivered numbered
    is = carried
  where
    own : List Own
    own = own_of plan run.doings

    now : List Own
    now = with_call (receiver_of plan) call (line_of plan run.doings) own

    same : AreSame now own
    same = call-same (receiver_of plan) call (line_of plan run.doings) own

    carried : IsJournalOf policy log plan (run_after plan arrived (Did (Calls call)) run)
    carried =
        subst
        (λ (r : List Message).
        IsJournal policy log r (sent_in now) (map (behind (length run.sent_before)) (given_in now) ++ run.given_before)
        (sent_in now ++ run.sent_before)) (sym same.received)
        (subst
        (λ (s : List Message).
        IsJournal policy log (received_in own) s
        (map (behind (length run.sent_before)) (given_in now) ++ run.given_before) (s ++ run.sent_before))
        (sym same.sent)
        (subst
        (λ (g : List Giving).
        IsJournal policy log (received_in own) (sent_in own)
        (map (behind (length run.sent_before)) g ++ run.given_before) (all_sent plan run)) (sym same.given) is))
host-move policy plan host arrived way moment (Did (Says what)) log run may list owes facts stored delivered numbered
    is =
    host-step policy log moment what (received_in own) (received_in own) (sent_in own) (sent_in own)
    (all_given plan run) (all_sent plan run) (plain-not what may.0.1) turn.lists turn.owes (λ m has. has)
    (λ m has owed. turn.rest m owed) is.replies is
  where
    own : List Own
    own = own_of plan run.doings

    turn : ListsInTurn what (owed_of log)
    turn =
        says-in-turn what (owed_of log) may.0.1
        (subst (λ (o : Owed). MaySayOwed o what) (sym owes) list)
host-move policy plan host arrived way moment (Started note base) log run may list owes facts stored delivered numbered
    is =
    subst
    (λ (what : Happening).
    IsJournal policy (Noted moment Host what ∷ log) [] [] (all_given plan run) (all_sent plan run))
    (sym start.is)
    (host-step policy log moment (Happening.HostStarted start.journal) (received_in own) [] (sent_in own) []
    (all_given plan run) (all_sent plan run) tt (start-owed start.journal (owed_of log))
    (λ other same. absurd (none-some other same)) (λ m none. absurd none) (λ m none owed. absurd none)
    (λ m none secondary. absurd none) is)
  where
    own : List Own
    own = own_of plan run.doings

    start : IsHostStart note
    start = host-start plan.side note base may.0 host
host-move policy plan host arrived way moment Lost log run may list owes facts stored delivered numbered is = is
host-move policy plan host arrived way moment (Changed place byte) log run may list owes facts stored delivered numbered
    is = is
host-move policy plan host arrived way moment (Added byte) log run may list owes facts stored delivered numbered is = is

-- ---- all moves

stored-before : (moment : ℕ) (side : Side) (noted : Option Happening) (log : List Entry)
    → AllStoredAreSpoolable (equipment_notes (with_note moment side noted log))
    → AllStoredAreSpoolable (equipment_notes log)
stored-before moment side None log stored = stored
stored-before moment Equipment (Some what) log stored = all-but what (equipment_notes log) stored
stored-before moment Host (Some what) log stored = stored

abbrev pub JournalAt : Policy → LinePlans → List Move → Type 0
JournalAt policy plans moves = IsJournalOf policy (log_of moves) (plan_at Host plans) (run_at Host plans moves)

new-journal : (policy : Policy) (plans : LinePlans) → JournalAt policy plans []
new-journal policy plans = record {
  facts = tt;
  among = λ put none. absurd none;
  owed = λ listed is. absurd (none-some listed is);
  received_are = λ m none. absurd none;
  replies = λ m none. absurd none;
  given_are = λ g m none. absurd none;
  heard_are = λ m none. absurd none;
}

journal-at : (policy : Policy) (plans : LinePlans) (moves : List Move) → KeepLaws plans moves
    → KeepsSpool policy (equipment_notes (log_of moves)) → KeepsTries plans moves
    → AllStoredAreSpoolable (equipment_notes (log_of moves)) → KeepsListing plans moves → Delivered (log_of moves)
    → AreInOrder plans moves → JournalAt policy plans moves
journal-at policy plans [] laws spool tries stored listing delivered order = new-journal policy plans
journal-at policy plans (move ∷ before) laws spool tries stored listing delivered order =
    go
    (journal-at policy plans before laws.1 spool_so tries.1 stored_so listing.1 delivered_so order.1)
    (world-at policy plans before laws.1 spool_so tries.1 delivered_so order.1).first
    move.side laws.0 (world-at policy plans (move ∷ before) laws spool tries delivered order).facts listing.0 delivered
    order.0
  where
    spool_so : KeepsSpool policy (equipment_notes (log_of before))
    spool_so = spool-before policy move.moment move.side (noted_at move.side move.kind) (log_of before) spool

    stored_so : AllStoredAreSpoolable (equipment_notes (log_of before))
    stored_so = stored-before move.moment move.side (noted_at move.side move.kind) (log_of before) stored

    delivered_so : Delivered (log_of before)
    delivered_so = delivered-before move.moment move.side (noted_at move.side move.kind) (log_of before) delivered

    go : JournalAt policy plans before
        → FirstTried (shelf_of (equipment_notes (log_of before))).tried (account_of (log_of before)).standing
        (account_of (log_of before)).tries
        → (side : Side)
        → MayMove (plan_at side plans) (seen_at side plans before).there.under_way (run_at side plans before) move.kind
        → AreFacts policy (with_note move.moment side (noted_at side move.kind) (log_of before))
        → MayListAt side plans before move.kind
        → Delivered (with_note move.moment side (noted_at side move.kind) (log_of before))
        → KindInOrder move.kind (plan_at (other_side side) plans) (run_at (other_side side) plans before)
        (run_at side plans before) (newest_place (seen_at side plans before).here.arrived)
        → JournalAt policy plans (record move { side = side } ∷ before)
    go earlier first Equipment may facts list delivered_now order_so =
        tool-move policy (plan_at Equipment plans) (plan_at Host plans) (seen_at Equipment plans before).here.arrived
        (seen_at Equipment plans before).there.under_way move.moment move.kind (log_of before)
        (run_at Equipment plans before) (run_at Host plans before)
        (newest_place (seen_at Equipment plans before).here.arrived) may order_so facts first earlier
    go earlier first Host may facts list delivered_now order_so =
        host-move policy (plan_at Host plans) refl (seen_at Host plans before).here.arrived
        (seen_at Host plans before).there.under_way move.moment move.kind (log_of before) (run_at Host plans before) may
        list (owed-are plans before laws.1) facts stored_so delivered_now (numbered-are Host plans before laws.1)
        earlier

pub journal-facts : (policy : Policy) (plans : LinePlans) (moves : List Move) → KeepLaws plans moves
    → KeepsSpool policy (equipment_notes (log_of moves)) → KeepsTries plans moves
    → AllStoredAreSpoolable (equipment_notes (log_of moves)) → KeepsListing plans moves → Delivered (log_of moves)
    → AreInOrder plans moves → AreFacts policy (listed_log (log_of moves))
journal-facts policy plans moves laws spool tries stored listing delivered order =
    (journal-at policy plans moves laws spool tries stored listing delivered order).facts
