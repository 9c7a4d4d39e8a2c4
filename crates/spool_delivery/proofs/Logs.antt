-- Who has sent and received what, by the log of two ends.
use Rattle.std.specs.Prelude.{◌≡◌, ◌⊎◌, ℕ, Bool, true, false, List, [], ◌∷◌, ◌++◌, Option, Some, None, refl}
use Rattle.std.specs.List.{Contains}
use Rattle.std.proofs.Common.{sym, ap, ◌∙◌, subst, inl, inr}
use Rattle.gl_base.specs.declared.side.Side.{Side}
use Rattle.gl_base.specs.declared.side.Side.TheVariants.{Equipment, Host}
use Rattle.gl_base.specs.Side.{other_side}
use Rattle.line_order.specs.Characters.{Character}
use Rattle.line_order.specs.Line.{Arrival}
use Rattle.line_order.proofs.Given.{contains-cases, contains-none}
use Rattle.message_end.specs.Doings.{IsPlain, line_of, own_of}
use Rattle.message_end.specs.Doings.Doing.{Calls, Does, Gives, Says}
use Rattle.message_end.specs.Own.{Has, IsReplyTo, Own, asked_after, asked_in, received_in}
use Rattle.message_end.specs.Own.Own.{DrewNumber, DroppedMessage, GaveBlock, HeardBlock, ReceivedMessage, SentMessage, WroteFrame}
use Rattle.message_end.specs.Plan.{EndPlan, receiver_of}
use Rattle.message_end.specs.Log.{log_of, noted_at, with_note}
use Rattle.message_end.specs.Moves.{KeepLaws, Kind, LinePlans, MayMove, Move, Run, all_sent, plan_at, run_after, run_at, seen_at}
use Rattle.message_end.specs.Moves.Kind.{Added, Changed, Did, Lost, Started}
use Rattle.message_end.proofs.MessagesKept.{reply-system}
use Rattle.message_flow.specs.declared.message.Message.{Message}
use Rattle.message_flow.specs.Blocks.{header_of}
use Rattle.message_flow.specs.Message.{is_primary}
use Rattle.trace_log.specs.Delivered.{Delivered, WasSent}
use Rattle.message_end.specs.Starts.{IsStartOf}
use Rattle.message_end.specs.Starts.IsStartOf.{of_equipment, of_host, of_journal}
use Rattle.trace_log.specs.Log.{Entry, Happening}
use Rattle.trace_log.specs.Log.Entry.{Noted}
use Rattle.spool_law.specs.Shelf.{received_since}
use Rattle.spool_delivery.specs.Claims.{equipment_notes}
use Rattle.spool_delivery.proofs.Runs.{call-same}

-- what an entry adds to the messages sent by the equipment, and to those sent and received by the host
abbrev pub sent_behind : Entry → List Message → List Message
sent_behind (Noted moment Equipment (Happening.Sent message)) before = message ∷ before
sent_behind _ before = before

abbrev pub replied_behind : Entry → List Message → List Message
replied_behind (Noted moment Host (Happening.Sent message)) before = message ∷ before
replied_behind _ before = before

abbrev pub taken_behind : Entry → List Message → List Message
taken_behind (Noted moment Host (Happening.Received message)) before = message ∷ before
taken_behind _ before = before

abbrev pub equipment_sent : List Entry → List Message
equipment_sent [] = []
equipment_sent (entry ∷ before) = sent_behind entry (equipment_sent before)

abbrev pub host_sent : List Entry → List Message
host_sent [] = []
host_sent (entry ∷ before) = replied_behind entry (host_sent before)

abbrev pub host_received : List Entry → List Message
host_received [] = []
host_received (entry ∷ before) = taken_behind entry (host_received before)

-- ---- none is lost by an entry more

pub sent-more : (entry : Entry) (before : List Message) (m : Message) → Has before m → Has (sent_behind entry before) m
sent-more (Noted moment Equipment (Happening.Sent message)) before m has = inr has
sent-more entry before m has = has

replied-more : (entry : Entry) (before : List Message) (m : Message) → Has before m
    → Has (replied_behind entry before) m
replied-more (Noted moment Host (Happening.Sent message)) before m has = inr has
replied-more entry before m has = has

pub taken-more : (entry : Entry) (before : List Message) (m : Message) → Has before m
    → Has (taken_behind entry before) m
taken-more (Noted moment Host (Happening.Received message)) before m has = inr has
taken-more entry before m has = has

equipment-was : (log : List Entry) (m : Message) → WasSent Equipment m log → Has (equipment_sent log) m
equipment-was log m was = go log was.entry
  where
    go : (log : List Entry) → Contains log (Noted was.moment Equipment (Happening.Sent m)) → Has (equipment_sent log) m
    go [] has = absurd (contains-none (Noted was.moment Equipment (Happening.Sent m)) has)
    go (entry ∷ before) has =
        cases (contains-cases entry before (Noted was.moment Equipment (Happening.Sent m)) has) (go before)
      where
        cases : (Noted was.moment Equipment (Happening.Sent m) ≡ entry)
            ⊎ Contains before (Noted was.moment Equipment (Happening.Sent m))
            → (Contains before (Noted was.moment Equipment (Happening.Sent m)) → Has (equipment_sent before) m)
            → Has (sent_behind entry (equipment_sent before)) m
        cases (inl same) later = subst (λ (e : Entry). Has (sent_behind e (equipment_sent before)) m) same (inl refl)
        cases (inr there) later = sent-more entry (equipment_sent before) m (later there)

host-was : (log : List Entry) (m : Message) → WasSent Host m log → Has (host_sent log) m
host-was log m was = go log was.entry
  where
    go : (log : List Entry) → Contains log (Noted was.moment Host (Happening.Sent m)) → Has (host_sent log) m
    go [] has = absurd (contains-none (Noted was.moment Host (Happening.Sent m)) has)
    go (entry ∷ before) has =
        cases (contains-cases entry before (Noted was.moment Host (Happening.Sent m)) has) (go before)
      where
        cases : (Noted was.moment Host (Happening.Sent m) ≡ entry)
            ⊎ Contains before (Noted was.moment Host (Happening.Sent m))
            → (Contains before (Noted was.moment Host (Happening.Sent m)) → Has (host_sent before) m)
            → Has (replied_behind entry (host_sent before)) m
        cases (inl same) later = subst (λ (e : Entry). Has (replied_behind e (host_sent before)) m) same (inl refl)
        cases (inr there) later = replied-more entry (host_sent before) m (later there)

-- ---- what was received was sent

pub taken-was-sent : (log : List Entry) → Delivered log → (m : Message) → Has (host_received log) m
    → Has (equipment_sent log) m
taken-was-sent [] delivered m is = absurd is
taken-was-sent (Noted moment Host (Happening.Received message) ∷ before) delivered m (inl same) =
    subst (λ (w : Message). Has (equipment_sent before) w) (sym same)
    (equipment-was before message delivered.0.sent)
taken-was-sent (Noted moment Host (Happening.Received message) ∷ before) delivered m (inr has) =
    taken-was-sent before delivered.1 m has
taken-was-sent (entry ∷ before) delivered m has =
    sent-more entry (equipment_sent before) m (taken-was-sent before delivered.1 m has)

pub received-was-sent : (log : List Entry) → Delivered log → (m : Message)
    → Has (received_since (equipment_notes log)) m → Has (host_sent log) m
received-was-sent [] delivered m is = absurd is
received-was-sent (Noted moment Equipment (Happening.Received message) ∷ before) delivered m (inl same) =
    subst (λ (w : Message). Has (host_sent before) w) (sym same) (host-was before message delivered.0.sent)
received-was-sent (Noted moment Equipment (Happening.Received message) ∷ before) delivered m (inr has) =
    received-was-sent before delivered.1 m has
received-was-sent (Noted moment Equipment (Happening.EquipmentStarted found base) ∷ before) delivered m is = absurd is
received-was-sent (entry ∷ before) delivered m has =
    replied-more entry (host_sent before) m (received-was-sent before delivered.1 m has)

-- ---- what the log has of the equipment's messages is what it has sent

plain-sends : (moment : ℕ) (what : Happening) (before : List Message) → IsPlain what
    → sent_behind (Noted moment Equipment what) before ≡ before
plain-sends moment (Happening.Sent message) before plain = absurd plain
plain-sends moment what before plain = refl

start-sends :
    (moment : ℕ) (side : Side) (note : Happening) (base : ℕ) (before : List Message) → IsStartOf side note base
    → sent_behind (Noted moment Equipment note) before ≡ before
start-sends moment _ _ _ before (of_equipment found base) = refl
start-sends moment _ _ _ before (of_host base) = refl
start-sends moment _ _ _ before (of_journal found base) = refl

sent-after : (plan : EndPlan) (arrived : List Arrival) (way : List Character) (moment : ℕ) (kind : Kind)
    (log : List Entry)
    (run : Run)
    → MayMove plan way run kind → equipment_sent log ≡ all_sent plan run
    → equipment_sent (with_note moment Equipment (noted_at Equipment kind) log)
    ≡ all_sent plan (run_after plan arrived kind run)
sent-after plan arrived way moment (Did (Does (SentMessage message))) log run may is =
    ap (λ (ms : List Message). message ∷ ms) is
sent-after plan arrived way moment (Did (Does (DrewNumber number))) log run may is = is
sent-after plan arrived way moment (Did (Does (ReceivedMessage message))) log run may is = is
sent-after plan arrived way moment (Did (Does (DroppedMessage header now))) log run may is = is
sent-after plan arrived way moment (Did (Does (GaveBlock place number))) log run may is = absurd may.0.1
sent-after plan arrived way moment (Did (Does (WroteFrame place number))) log run may is = absurd may.0.1
sent-after plan arrived way moment (Did (Does (HeardBlock block now flow))) log run may is = absurd may.0.1
sent-after plan arrived way moment (Did (Gives place number block now)) log run may is = is
sent-after plan arrived way moment (Did (Calls call)) log run may is =
    is ∙ ap (λ (ms : List Message). ms ++ run.sent_before)
    (sym (call-same (receiver_of plan) call (line_of plan run.doings) (own_of plan run.doings)).sent)
sent-after plan arrived way moment (Did (Says what)) log run may is =
    plain-sends moment what (equipment_sent log) may.0.1 ∙ is
sent-after plan arrived way moment (Started note base) log run may is =
    start-sends moment plan.side note base (equipment_sent log) may.0 ∙ is
sent-after plan arrived way moment Lost log run may is = is
sent-after plan arrived way moment (Changed place byte) log run may is = is
sent-after plan arrived way moment (Added byte) log run may is = is

host-note : (moment : ℕ) (noted : Option Happening) (log : List Entry)
    → equipment_sent (with_note moment Host noted log) ≡ equipment_sent log
host-note moment None log = refl
host-note moment (Some what) log = refl

pub sent-are : (plans : LinePlans) (moves : List Move) → KeepLaws plans moves
    → equipment_sent (log_of moves) ≡ all_sent (plan_at Equipment plans) (run_at Equipment plans moves)
sent-are plans [] laws = refl
sent-are plans (move ∷ before) laws = go (sent-are plans before laws.1) move.side laws.0
  where
    go : equipment_sent (log_of before) ≡ all_sent (plan_at Equipment plans) (run_at Equipment plans before)
        → (side : Side)
        → MayMove (plan_at side plans) (seen_at side plans before).there.under_way (run_at side plans before) move.kind
        → equipment_sent (with_note move.moment side (noted_at side move.kind) (log_of before))
        ≡ all_sent (plan_at Equipment plans) (run_at Equipment plans (record move { side = side } ∷ before))
    go earlier Equipment may =
        sent-after (plan_at Equipment plans) (seen_at Equipment plans before).here.arrived
        (seen_at Equipment plans before).there.under_way move.moment move.kind (log_of before)
        (run_at Equipment plans before) may earlier
    go earlier Host may = host-note move.moment (noted_at Host move.kind) (log_of before) ∙ earlier

-- ---- a reply of the host is behind what it replies to

pub asked-received : (own : List Own) (m : Message) → asked_in own ≡ Some m → Has (received_in own) m
asked-received [] m is = cc
asked-received (SentMessage message ∷ before) m is = go (is_primary message) is (asked-received before m)
  where
    go : (primary : Bool) → asked_after primary (asked_in before) ≡ Some m
        → (asked_in before ≡ Some m → Has (received_in before) m) → Has (received_in before) m
    go true found later = later found
    go false found later = cc
asked-received (ReceivedMessage message ∷ before) m is = inl (same is)
  where
    same : Some message ≡ Some m → m ≡ message
    same found = cc
asked-received (DrewNumber number ∷ before) m is = asked-received before m is
asked-received (GaveBlock place number ∷ before) m is = asked-received before m is
asked-received (WroteFrame place number ∷ before) m is = asked-received before m is
asked-received (HeardBlock block now flow ∷ before) m is = asked-received before m is
asked-received (DroppedMessage header now ∷ before) m is = asked-received before m is

plain-takes : (moment : ℕ) (what : Happening) (before : List Message) → IsPlain what
    → taken_behind (Noted moment Host what) before ≡ before
plain-takes moment (Happening.Received message) before plain = absurd plain
plain-takes moment what before plain = refl

note-taken : (moment : ℕ) (side : Side) (noted : Option Happening) (log : List Entry) (m : Message)
    → Has (host_received log) m → Has (host_received (with_note moment side noted log)) m
note-taken moment side None log m has = has
note-taken moment side (Some what) log m has = taken-more (Noted moment side what) (host_received log) m has

-- what the host has received in this start is in the log
received-after : (plan : EndPlan) (arrived : List Arrival) (way : List Character) (moment : ℕ) (kind : Kind)
    (log : List Entry) (run : Run)
    → MayMove plan way run kind
    → ((m : Message) → Has (received_in (own_of plan run.doings)) m → Has (host_received log) m)
    → (m : Message) → Has (received_in (own_of plan (run_after plan arrived kind run).doings)) m
    → Has (host_received (with_note moment Host (noted_at Host kind) log)) m
received-after plan arrived way moment (Did (Does (ReceivedMessage message))) log run may earlier m (inl same) =
    inl same
received-after plan arrived way moment (Did (Does (ReceivedMessage message))) log run may earlier m (inr has) =
    inr (earlier m has)
received-after plan arrived way moment (Did (Does (SentMessage message))) log run may earlier m has = earlier m has
received-after plan arrived way moment (Did (Does (DrewNumber number))) log run may earlier m has = earlier m has
received-after plan arrived way moment (Did (Does (DroppedMessage header now))) log run may earlier m has = earlier m
    has
received-after plan arrived way moment (Did (Does (GaveBlock place number))) log run may earlier m has = absurd may.0.1
received-after plan arrived way moment (Did (Does (WroteFrame place number))) log run may earlier m has = absurd may.0.1
received-after plan arrived way moment (Did (Does (HeardBlock block now flow))) log run may earlier m has =
    absurd may.0.1
received-after plan arrived way moment (Did (Gives place number block now)) log run may earlier m has = earlier m has
received-after plan arrived way moment (Did (Calls call)) log run may earlier m has =
    earlier m
    (subst (λ (ms : List Message). Has ms m)
    (call-same (receiver_of plan) call (line_of plan run.doings) (own_of plan run.doings)).received has)
received-after plan arrived way moment (Did (Says what)) log run may earlier m has =
    taken-more (Noted moment Host what) (host_received log) m (earlier m has)
received-after plan arrived way moment (Started note base) log run may earlier m is = absurd is
received-after plan arrived way moment Lost log run may earlier m has = earlier m has
received-after plan arrived way moment (Changed place byte) log run may earlier m has = earlier m has
received-after plan arrived way moment (Added byte) log run may earlier m has = earlier m has

received-are : (plans : LinePlans) (moves : List Move) → KeepLaws plans moves → (m : Message)
    → Has (received_in (own_of (plan_at Host plans) (run_at Host plans moves).doings)) m
    → Has (host_received (log_of moves)) m
received-are plans [] laws = λ m is. absurd is
received-are plans (move ∷ before) laws = go move.side laws.0 (received-are plans before laws.1)
  where
    Is : List Move → Type 0
    Is moves =
        (m : Message) → Has (received_in (own_of (plan_at Host plans) (run_at Host plans moves).doings)) m
        → Has (host_received (log_of moves)) m

    go : (side : Side)
        → MayMove (plan_at side plans) (seen_at side plans before).there.under_way (run_at side plans before) move.kind
        → Is before → Is (record move { side = side } ∷ before)
    go Host may earlier =
        received-after (plan_at Host plans) (seen_at Host plans before).here.arrived
        (seen_at Host plans before).there.under_way move.moment move.kind (log_of before)
        (run_at Host plans before) may earlier
    go Equipment may earlier =
        λ m has. note-taken move.moment Equipment (noted_at Equipment move.kind) (log_of before) m (earlier m has)

-- the host has received the primary that a message replies to
pub record IsReplied (log : List Entry) (m : Message) : Type 0 where
  pub asked : Message
  pub has : Has (host_received log) asked
  pub primary : is_primary asked ≡ true
  pub system : asked.system ≡ m.system

replied-later : (moment : ℕ) (side : Side) (noted : Option Happening) (log : List Entry) (m : Message) → IsReplied log m
    → IsReplied (with_note moment side noted log) m
replied-later moment side noted log m is = record {
  asked = is.asked;
  has = note-taken moment side noted log is.asked is.has;
  primary = is.primary;
  system = is.system;
}

abbrev pub AreReplied : List Entry → Type 0
AreReplied log = (m : Message) → Has (host_sent log) m → is_primary m ≡ false → IsReplied log m

system-of : (asked m : Message) → IsReplyTo Equipment asked (header_of Host 0 m 1) → asked.system ≡ m.system
system-of asked m reply = reply-system Equipment asked (header_of Host 0 m 1) reply

plain-replies : (moment : ℕ) (what : Happening) (before : List Message) → IsPlain what
    → replied_behind (Noted moment Host what) before ≡ before
plain-replies moment (Happening.Sent message) before plain = absurd plain
plain-replies moment what before plain = refl

start-replies :
    (moment : ℕ) (side : Side) (note : Happening) (base : ℕ) (before : List Message) → IsStartOf side note base
    → replied_behind (Noted moment Host note) before ≡ before
start-replies moment _ _ _ before (of_equipment found base) = refl
start-replies moment _ _ _ before (of_host base) = refl
start-replies moment _ _ _ before (of_journal found base) = refl

-- what it has received in this start, and what it has sent
replied-after : (plan : EndPlan) → plan.side ≡ Host → (arrived : List Arrival) (way : List Character) (moment : ℕ)
    (kind : Kind) (log : List Entry) (run : Run)
    → MayMove plan way run kind
    → ((m : Message) → Has (received_in (own_of plan run.doings)) m → Has (host_received log) m)
    → AreReplied log
    → (m : Message) → Has (host_sent (with_note moment Host (noted_at Host kind) log)) m → is_primary m ≡ false
    → (Has (host_sent log) m → is_primary m ≡ false → IsReplied log m)
    → IsReplied log m
replied-after plan host arrived way moment (Did (Does (SentMessage message))) log run may received are m (inl same)
    secondary later =
    let reply = may.0.1.reply (ap is_primary (sym same) ∙ secondary) in
    let to = subst (λ (s : Side). IsReplyTo (other_side s) reply.asked (header_of s 0 message 1)) host reply.reply in
    record {
      asked = reply.asked;
      has = received reply.asked (asked-received (own_of plan run.doings) reply.asked reply.newest);
      primary = reply.primary;
      system = system-of reply.asked message to ∙ ap (λ (w : Message). w.system) (sym same);
    }
replied-after plan host arrived way moment (Did (Does (SentMessage message))) log run may received are m (inr has)
    secondary later = later has secondary
replied-after plan host arrived way moment (Did (Does (ReceivedMessage message))) log run may received are m has
    secondary
    later = later has secondary
replied-after plan host arrived way moment (Did (Does (DrewNumber number))) log run may received are m has secondary
    later = later has secondary
replied-after plan host arrived way moment (Did (Does (DroppedMessage header now))) log run may received are m has
    secondary later = later has secondary
replied-after plan host arrived way moment (Did (Does (GaveBlock place number))) log run may received are m has
    secondary
    later = absurd may.0.1
replied-after plan host arrived way moment (Did (Does (WroteFrame place number))) log run may received are m has
    secondary later = absurd may.0.1
replied-after plan host arrived way moment (Did (Does (HeardBlock block now flow))) log run may received are m has
    secondary later = absurd may.0.1
replied-after plan host arrived way moment (Did (Gives place number block now)) log run may received are m has secondary
    later = later has secondary
replied-after plan host arrived way moment (Did (Calls call)) log run may received are m has secondary later =
    later has secondary
replied-after plan host arrived way moment (Did (Says what)) log run may received are m has secondary later =
    later (subst (λ (ms : List Message). Has ms m) (plain-replies moment what (host_sent log) may.0.1) has) secondary
replied-after plan host arrived way moment (Started note base) log run may received are m has secondary later =
    later
    (subst (λ (ms : List Message). Has ms m) (start-replies moment plan.side note base (host_sent log) may.0) has)
    secondary
replied-after plan host arrived way moment Lost log run may received are m has secondary later = later has secondary
replied-after plan host arrived way moment (Changed place byte) log run may received are m has secondary later =
    later has secondary
replied-after plan host arrived way moment (Added byte) log run may received are m has secondary later =
    later has secondary

equipment-replies : (moment : ℕ) (noted : Option Happening) (log : List Entry)
    → host_sent (with_note moment Equipment noted log) ≡ host_sent log
equipment-replies moment None log = refl
equipment-replies moment (Some what) log = refl

pub replied-are : (plans : LinePlans) (moves : List Move) → KeepLaws plans moves → AreReplied (log_of moves)
replied-are plans [] laws = λ m is. absurd is
replied-are plans (move ∷ before) laws = go move.side laws.0 (replied-are plans before laws.1)
  where
    go : (side : Side)
        → MayMove (plan_at side plans) (seen_at side plans before).there.under_way (run_at side plans before) move.kind
        → AreReplied (log_of before)
        → AreReplied (with_note move.moment side (noted_at side move.kind) (log_of before))
    go Host may earlier m has secondary =
        replied-later move.moment Host (noted_at Host move.kind) (log_of before) m
        (replied-after (plan_at Host plans) refl (seen_at Host plans before).here.arrived
        (seen_at Host plans before).there.under_way move.moment move.kind (log_of before) (run_at Host plans before) may
        (received-are plans before laws.1) earlier m has secondary (earlier m))
    go Equipment may earlier m has secondary =
        replied-later move.moment Equipment (noted_at Equipment move.kind) (log_of before) m
        (earlier m
        (subst (λ (ms : List Message). Has ms m) (equipment-replies move.moment (noted_at Equipment move.kind)
        (log_of before)) has) secondary)
