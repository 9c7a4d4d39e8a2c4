-- What the log of two ends says of their messages.
use Rattle.std.specs.Prelude.{◌≡◌, ◌≢◌, ◌⊎◌, ◌==◌, ◌&&◌, ◌++◌, ℕ, Bool, true, false, All, List, [], ◌∷◌, Option, Some, None, if◌then◌else◌, refl}
use Rattle.std.specs.List.{Contains}
use Rattle.std.proofs.Common.{sym, ap, ◌∙◌, subst, arith, inl, inr}
use Rattle.std.proofs.lemmas.Bool.Decides.{nat_tests}
use Rattle.std.proofs.lemmas.List.Elements.{All-cons, All-nil}
use Rattle.gl_base.specs.declared.side.Side.{Side}
use Rattle.gl_base.specs.declared.side.Side.TheVariants.{Equipment, Host}
use Rattle.gl_base.specs.Side.{is_same_side}
use Rattle.line_end.specs.declared.event.LineEvent.{LineEvent}
use Rattle.line_end.specs.declared.event.LineEvent.TheVariants.{Arrived, Failed, Nothing, Refused, Sent}
use Rattle.line_end.specs.State.{LineState}
use Rattle.line_end.specs.Step.{LineCall, line_step}
use Rattle.line_order.specs.Characters.{Character, writes_frame}
use Rattle.line_order.specs.Line.{Arrival}
use Rattle.line_order.proofs.Given.{contains-first, contains-more}
use Rattle.message_end.specs.Doings.{Doing, IsLawful, IsPlain, line_of, moment_of, own_of, with_call, with_frame, with_frame_of, with_hearing}
use Rattle.message_end.specs.Doings.Doing.{Calls, Does, Gives, Says}
use Rattle.message_end.specs.Own.{Giving, Has, Own, given_in, received_in, sent_in}
use Rattle.message_end.specs.Own.Own.{DrewNumber, DroppedMessage, GaveBlock, HeardBlock, ReceivedMessage, SentMessage, WroteFrame}
use Rattle.message_end.specs.Plan.{EndPlan, receiver_of}
use Rattle.message_end.specs.Log.{log_of, noted_at, noted_of, with_note}
use Rattle.message_end.specs.Moves.{KeepLaws, Kind, LinePlans, MayMove, Move, Run, all_sent, plan_at, run_after, run_at, seen_at}
use Rattle.message_end.specs.Moves.Kind.{Added, Changed, Did, Lost, Started}
use Rattle.message_flow.specs.declared.message.Message.{Message}
use Rattle.message_flow.specs.Message.{is_primary}
use Rattle.message_flow.specs.Receiver.{Receiver}
use Rattle.trace_log.specs.Delivered.{WasSent, delivers_like, is_same_key, sends_like, since_start, starts}
use Rattle.message_end.specs.Starts.{IsStartOf}
use Rattle.message_end.specs.Starts.IsStartOf.{of_equipment, of_host, of_journal}
use Rattle.trace_log.specs.Log.{Entry, Happening}
use Rattle.trace_log.specs.Log.Entry.{Noted}

-- ---- what a call of the line leaves as it is

frame-keeps : (writes : Bool) (own : List Own)
    → (sent_in (with_frame writes own) ≡ sent_in own) × (received_in (with_frame writes own) ≡ received_in own)
frame-keeps false own = (refl, refl)
frame-keeps true own = go (given_in own)
  where
    go : (gs : List Giving)
        → (sent_in (with_frame_of gs own) ≡ sent_in own) × (received_in (with_frame_of gs own) ≡ received_in own)
    go [] = (refl, refl)
    go (g ∷ before) = (refl, refl)

hearing-keeps : (receiver : Receiver) (event : LineEvent) (now : ℕ) (own : List Own)
    → (sent_in (with_hearing receiver event now own) ≡ sent_in own)
    × (received_in (with_hearing receiver event now own) ≡ received_in own)
hearing-keeps receiver (Arrived block) now own = (refl, refl)
hearing-keeps receiver Nothing now own = (refl, refl)
hearing-keeps receiver Sent now own = (refl, refl)
hearing-keeps receiver Failed now own = (refl, refl)
hearing-keeps receiver (Refused cause) now own = (refl, refl)

call-keeps : (receiver : Receiver) (call : LineCall) (s : LineState) (own : List Own)
    → (sent_in (with_call receiver call s own) ≡ sent_in own)
    × (received_in (with_call receiver call s own) ≡ received_in own)
call-keeps receiver call s own =
    let frame = frame-keeps (writes_frame (line_step s call).written) own in
    let hearing =
    hearing-keeps receiver (line_step s call).event (moment_of call)
    (with_frame (writes_frame (line_step s call).written) own)
    in
    (hearing.0 ∙ frame.0, hearing.1 ∙ frame.1)

-- ---- what was sent is in the log

sent-after : (plan : EndPlan) (arrived : List Arrival) (side : Side) (kind : Kind) (run : Run) (m : Message)
    → Has (all_sent plan (run_after plan arrived kind run)) m
    → (noted_at side kind ≡ Some (Happening.Sent m)) ⊎ Has (all_sent plan run) m
sent-after plan arrived side (Did (Does (SentMessage message))) run m (inl same) =
    inl (ap (λ (w : Message). Some (Happening.Sent w)) (sym same))
sent-after plan arrived side (Did (Does (SentMessage message))) run m (inr has) = inr has
sent-after plan arrived side (Did (Does (DrewNumber number))) run m has = inr has
sent-after plan arrived side (Did (Does (GaveBlock place number))) run m has = inr has
sent-after plan arrived side (Did (Does (WroteFrame place number))) run m has = inr has
sent-after plan arrived side (Did (Does (HeardBlock block now flow))) run m has = inr has
sent-after plan arrived side (Did (Does (DroppedMessage header now))) run m has = inr has
sent-after plan arrived side (Did (Does (ReceivedMessage message))) run m has = inr has
sent-after plan arrived side (Did (Gives place number block now)) run m has = inr has
sent-after plan arrived side (Did (Calls call)) run m has =
    inr (subst (λ (ms : List Message). Has (ms ++ run.sent_before) m)
    (call-keeps (receiver_of plan) call (line_of plan run.doings) (own_of plan run.doings)).0
    has)
sent-after plan arrived side (Did (Says what)) run m has = inr has
sent-after plan arrived side (Started note base) run m has = inr has
sent-after plan arrived side Lost run m has = inr has
sent-after plan arrived side (Changed place byte) run m has = inr has
sent-after plan arrived side (Added byte) run m has = inr has

note-more : (moment : ℕ) (side : Side) (noted : Option Happening) (log : List Entry) (entry : Entry)
    → Contains log entry
    → Contains (with_note moment side noted log) entry
note-more moment side None log entry has = has
note-more moment side (Some what) log entry has = contains-more (Noted moment side what) log entry has

was-more : (moment : ℕ) (side by : Side) (noted : Option Happening) (log : List Entry) (m : Message)
    → WasSent by m log → WasSent by m (with_note moment side noted log)
was-more moment side by noted log m was = record {
  moment = was.moment;
  entry = note-more moment side noted log (Noted was.moment by (Happening.Sent m)) was.entry;
}

was-noted : (moment : ℕ) (side : Side) (noted : Option Happening) (log : List Entry) (m : Message)
    → noted ≡ Some (Happening.Sent m) → WasSent side m (with_note moment side noted log)
was-noted moment side noted log m is = record {
  moment = moment;
  entry =
      subst (λ (n : Option Happening). Contains (with_note moment side n log) (Noted moment side (Happening.Sent m)))
      (sym is) (contains-first (Noted moment side (Happening.Sent m)) log);
}

-- the run of an end, by whose move it is
run-here : (side : Side) (plans : LinePlans) (moment : ℕ) (kind : Kind) (before : List Move)
    → run_at side plans (record { side = side; moment = moment; kind = kind } ∷ before)
    ≡ run_after (plan_at side plans) (seen_at side plans before).here.arrived kind (run_at side plans before)
run-here Equipment plans moment kind before = refl
run-here Host plans moment kind before = refl

pub was-sent : (side : Side) (plans : LinePlans) (moves : List Move) (m : Message)
    → Has (all_sent (plan_at side plans) (run_at side plans moves)) m → WasSent side m (log_of moves)
was-sent side plans [] m has = absurd has
was-sent side plans (move ∷ before) m has = go side move.side (was-sent side plans before m) has
  where
    Later : Side → Side → Type 0
    Later by of =
        (Has (all_sent (plan_at by plans) (run_at by plans before)) m → WasSent by m (log_of before))
        → Has (all_sent (plan_at by plans) (run_at by plans (record move { side = of } ∷ before))) m
        → WasSent by m (with_note move.moment of (noted_at of move.kind) (log_of before))

    here : (by : Side) → Later by by
    here by earlier has_it =
        cases
        (sent-after (plan_at by plans) (seen_at by plans before).here.arrived by move.kind (run_at by plans before) m
        (subst (λ (r : Run). Has (all_sent (plan_at by plans) r) m) (run-here by plans move.moment move.kind before)
        has_it))
      where
        cases : (noted_at by move.kind ≡ Some (Happening.Sent m)) ⊎ Has (all_sent (plan_at by plans) (run_at by plans
            before)) m
            → WasSent by m (with_note move.moment by (noted_at by move.kind) (log_of before))
        cases (inl noted) = was-noted move.moment by (noted_at by move.kind) (log_of before) m noted
        cases (inr old) = was-more move.moment by by (noted_at by move.kind) (log_of before) m (earlier old)

    go : (by of : Side) → Later by of
    go Equipment Equipment = here Equipment
    go Host Host = here Host
    go Equipment Host = λ earlier has_it.
        was-more move.moment Host Equipment (noted_at Host move.kind) (log_of before) m (earlier has_it)
    go Host Equipment = λ earlier has_it.
        was-more move.moment Equipment Host (noted_at Equipment move.kind) (log_of before) m (earlier has_it)

-- ---- entries that say nothing of an end's messages

pub record IsQuiet (side : Side) (m : Message) (entry : Entry) : Type 0 where
  pub starts_not : starts side entry ≡ false
  pub delivers_not : delivers_like side m entry ≡ false
  pub sends_not : sends_like side m entry ≡ false

quiet : (side : Side) (m : Message) (entry : Entry) → starts side entry ≡ false → delivers_like side m entry ≡ false
    → sends_like side m entry ≡ false → IsQuiet side m entry
quiet side m entry a b c = record { starts_not = a; delivers_not = b; sends_not = c }

quiet-equipment : (m : Message) (moment : ℕ) (what : Happening) → IsQuiet Equipment m (Noted moment Host what)
quiet-equipment m moment (Happening.Sent other) = quiet Equipment m (Noted moment Host (Happening.Sent other)) refl
    refl refl
quiet-equipment m moment (Happening.Received other) =
    quiet Equipment m (Noted moment Host (Happening.Received other)) refl refl refl
quiet-equipment m moment what = quiet Equipment m (Noted moment Host what) refl refl refl

quiet-host : (m : Message) (moment : ℕ) (what : Happening) → IsQuiet Host m (Noted moment Equipment what)
quiet-host m moment (Happening.Sent other) = quiet Host m (Noted moment Equipment (Happening.Sent other)) refl refl refl
quiet-host m moment (Happening.Received other) =
    quiet Host m (Noted moment Equipment (Happening.Received other)) refl refl refl
quiet-host m moment what = quiet Host m (Noted moment Equipment what) refl refl refl

quiet-plain : (side : Side) (m : Message) (moment : ℕ) (what : Happening) → IsPlain what
    → IsQuiet side m (Noted moment side what)
quiet-plain side m moment (Happening.Sent other) plain = absurd plain
quiet-plain side m moment (Happening.Received other) plain = absurd plain
quiet-plain side m moment (Happening.EquipmentStarted found base) plain = absurd plain
quiet-plain side m moment (Happening.HostStarted journal) plain = absurd plain
quiet-plain Equipment m moment what plain = quiet Equipment m (Noted moment Equipment what) refl refl refl
quiet-plain Host m moment what plain = quiet Host m (Noted moment Host what) refl refl refl

-- ---- what was received in a start, and what was sent

abbrev pub NoneDelivers : Side → Message → List Entry → Type 0
NoneDelivers side m log = All (λ entry. delivers_like side m entry ≡ false) (since_start side log)

abbrev pub NoneSends : Side → Message → List Entry → Type 0
NoneSends side m log = All (λ entry. sends_like side m entry ≡ false) log

none-delivers-more : (side : Side) (m : Message) (entry : Entry) (log : List Entry) → starts side entry ≡ false
    → delivers_like side m entry ≡ false → NoneDelivers side m log → NoneDelivers side m (entry ∷ log)
none-delivers-more side m entry log starts_not not none =
    subst
    (λ (test : Bool). All (λ e. delivers_like side m e ≡ false) (if test then [] else entry ∷ since_start side log))
    (sym starts_not)
    (All-cons (λ (e : Entry). delivers_like side m e ≡ false) entry (since_start side log) not none)

-- an entry that the other end, or no message, brings
abbrev pub AllQuiet : Side → Message → ℕ → Side → Option Happening → Type 0
AllQuiet side m moment of noted = (what : Happening) → noted ≡ Some what → IsQuiet side m (Noted moment of what)

quiet-more : (side : Side) (m : Message) (moment : ℕ) (of : Side) (noted : Option Happening) (log : List Entry)
    → AllQuiet side m moment of noted
    → (NoneDelivers side m log → NoneDelivers side m (with_note moment of noted log))
    × (NoneSends side m log → NoneSends side m (with_note moment of noted log))
quiet-more side m moment of None log is = (λ none. none, λ none. none)
quiet-more side m moment of (Some what) log is =
    let it = is what refl in (
      none-delivers-more side m (Noted moment of what) log it.starts_not it.delivers_not,
      All-cons (λ (e : Entry). sends_like side m e ≡ false) (Noted moment of what) log it.sends_not,
    )

quiet-other : (side of : Side) (m : Message) (moment : ℕ) (noted : Option Happening) → is_same_side side of ≡ false
    → AllQuiet side m moment of noted
quiet-other Equipment Equipment m moment noted apart = cc
quiet-other Equipment Host m moment noted apart = λ what is. quiet-equipment m moment what
quiet-other Host Equipment m moment noted apart = λ what is. quiet-host m moment what
quiet-other Host Host m moment noted apart = cc

abbrev pub ReceivedAt : Side → LinePlans → List Move → List Message
ReceivedAt side plans moves = received_in (own_of (plan_at side plans) (run_at side plans moves).doings)

start-ends :
    (side : Side) (m : Message) (moment : ℕ) (note : Happening) (base : ℕ) (log : List Entry)
    → IsStartOf side note base → NoneDelivers side m (Noted moment side note ∷ log)
start-ends _ m moment _ _ log (of_equipment found base) = All-nil (λ (e : Entry). delivers_like Equipment m e ≡ false)
start-ends _ m moment _ _ log (of_host base) = All-nil (λ (e : Entry). delivers_like Host m e ≡ false)
start-ends _ m moment _ _ log (of_journal found base) = All-nil (λ (e : Entry). delivers_like Host m e ≡ false)

start-sends-not :
    (side of : Side) (m : Message) (moment : ℕ) (note : Happening) (base : ℕ) → IsStartOf of note base
    → sends_like side m (Noted moment side note) ≡ false
start-sends-not side _ m moment _ _ (of_equipment found base) = refl
start-sends-not side _ m moment _ _ (of_host base) = refl
start-sends-not side _ m moment _ _ (of_journal found base) = refl

-- the plan of an end is of its side
of-plan : (side : Side) (plans : LinePlans) → (plan_at side plans).side ≡ side
of-plan Equipment plans = refl
of-plan Host plans = refl

received-quiet : (side : Side) (m other : Message) (moment : ℕ) → is_same_key m other ≡ false
    → IsQuiet side m (Noted moment side (Happening.Received other))
received-quiet Equipment m other moment apart =
    quiet Equipment m (Noted moment Equipment (Happening.Received other)) refl apart refl
received-quiet Host m other moment apart = quiet Host m (Noted moment Host (Happening.Received other)) refl apart refl

-- what a doing adds says nothing of a message that is like none it received
doing-delivers : (side : Side) (plans : LinePlans) (moment : ℕ) (doing : Doing) (before : List Move) (run : Run) (m :
    Message)
    → IsLawful (plan_at side plans) run.base run.doings doing
    → ((other : Message) → Has (received_in (own_of (plan_at side plans) (doing ∷ run.doings))) other
    → is_same_key m other ≡ false)
    → (((other : Message) → Has (received_in (own_of (plan_at side plans) run.doings)) other
    → is_same_key m other ≡ false)
    → NoneDelivers side m (log_of before))
    → NoneDelivers side m (with_note moment side (noted_of doing) (log_of before))
doing-delivers Equipment plans moment (Does (SentMessage message)) before run m may apart earlier =
    none-delivers-more Equipment m (Noted moment Equipment (Happening.Sent message)) (log_of before) refl refl
    (earlier apart)
doing-delivers Host plans moment (Does (SentMessage message)) before run m may apart earlier =
    none-delivers-more Host m (Noted moment Host (Happening.Sent message)) (log_of before) refl refl (earlier apart)
doing-delivers side plans moment (Does (ReceivedMessage message)) before run m may apart earlier =
    let it = received-quiet side m message moment (apart message (inl refl)) in
    none-delivers-more side m (Noted moment side (Happening.Received message)) (log_of before) it.starts_not
    it.delivers_not
    (earlier (λ other has. apart other (inr has)))
doing-delivers side plans moment (Does (DrewNumber number)) before run m may apart earlier = earlier apart
doing-delivers side plans moment (Does (DroppedMessage header now)) before run m may apart earlier = earlier apart
doing-delivers side plans moment (Does (GaveBlock place number)) before run m may apart earlier = absurd may.1
doing-delivers side plans moment (Does (WroteFrame place number)) before run m may apart earlier = absurd may.1
doing-delivers side plans moment (Does (HeardBlock block now flow)) before run m may apart earlier = absurd may.1
doing-delivers side plans moment (Gives place number block now) before run m may apart earlier = earlier apart
doing-delivers side plans moment (Calls call) before run m may apart earlier =
    earlier (λ other has. apart other (subst (λ (ms : List Message). Has ms other) (sym kept) has))
  where
    kept : received_in (own_of (plan_at side plans) (Calls call ∷ run.doings))
        ≡ received_in (own_of (plan_at side plans) run.doings)
    kept =
        (call-keeps (receiver_of (plan_at side plans)) call (line_of (plan_at side plans) run.doings)
        (own_of (plan_at side plans) run.doings)).1
doing-delivers side plans moment (Says what) before run m may apart earlier =
    let it = quiet-plain side m moment what may.1 in
    none-delivers-more side m (Noted moment side what) (log_of before) it.starts_not it.delivers_not (earlier apart)

pub none-delivers : (side : Side) (plans : LinePlans) (moves : List Move) (m : Message) → KeepLaws plans moves
    → ((other : Message) → Has (ReceivedAt side plans moves) other → is_same_key m other ≡ false)
    → NoneDelivers side m (log_of moves)
none-delivers side plans [] m laws apart = All-nil (λ (e : Entry). delivers_like side m e ≡ false)
none-delivers side plans (move ∷ before) m laws apart =
    go side move.side laws.0 (λ earlier. none-delivers side plans before m laws.1 earlier) apart
  where
    Later : Side → Side → Type 0
    Later by of =
        MayMove (plan_at of plans) (seen_at of plans before).there.under_way (run_at of plans before) move.kind
        → (((other : Message) → Has (ReceivedAt by plans before) other → is_same_key m other ≡ false)
        → NoneDelivers by m (log_of before))
        → ((other : Message) → Has (ReceivedAt by plans (record move { side = of } ∷ before)) other
        → is_same_key m other ≡ false)
        → NoneDelivers by m (with_note move.moment of (noted_at of move.kind) (log_of before))

    here : (by : Side) → Later by by
    here by may earlier apart_all =
        cases move.kind may
        (λ other has. apart_all other
        (subst (λ (r : Run). Has (received_in (own_of (plan_at by plans) r.doings)) other)
        (sym (run-here by plans move.moment move.kind before)) has))
      where
        run : Run
        run = run_at by plans before

        arrived : List Arrival
        arrived = (seen_at by plans before).here.arrived

        cases : (kind : Kind)
            → MayMove (plan_at by plans) (seen_at by plans before).there.under_way (run_at by plans before) kind
            → ((other : Message)
            → Has (received_in (own_of (plan_at by plans) (run_after (plan_at by plans) arrived kind run).doings)) other
            → is_same_key m other ≡ false)
            → NoneDelivers by m (with_note move.moment by (noted_at by kind) (log_of before))
        cases (Did doing) can apart_here =
            doing-delivers by plans move.moment doing before (run_at by plans before) m can.0 apart_here earlier
        cases (Started note base) can apart_here =
            start-ends by m move.moment note base (log_of before)
            (subst (λ (side : Side). IsStartOf side note base) (of-plan by plans) can.0)
        cases Lost can apart_here = earlier apart_here
        cases (Changed place byte) can apart_here = earlier apart_here
        cases (Added byte) can apart_here = earlier apart_here

    go : (by of : Side) → Later by of
    go Equipment Equipment = here Equipment
    go Host Host = here Host
    go Equipment Host = λ may earlier apart_all.
        (quiet-more Equipment m move.moment Host (noted_at Host move.kind) (log_of before)
        (quiet-other Equipment Host m move.moment (noted_at Host move.kind) refl)).0 (earlier apart_all)
    go Host Equipment = λ may earlier apart_all.
        (quiet-more Host m move.moment Equipment (noted_at Equipment move.kind) (log_of before)
        (quiet-other Host Equipment m move.moment (noted_at Equipment move.kind) refl)).0 (earlier apart_all)

-- ---- a primary's system bytes

abbrev pub IsNewTo : Message → List Message → Type 0
IsNewTo m sent = (other : Message) → Has sent other → is_primary other ≡ true → other.system ≢ m.system

sent-sends-not : (side : Side) (m other : Message) (moment : ℕ) → (is_primary other ≡ true → other.system ≢ m.system)
    → sends_like side m (Noted moment side (Happening.Sent other)) ≡ false
sent-sends-not Equipment m other moment new = go (is_primary other) refl
  where
    go : (primary : Bool) → is_primary other ≡ primary → (primary && m.system == other.system) ≡ false
    go false is = refl
    go true is = let apart = new is in grind (arith, nat_tests)
sent-sends-not Host m other moment new = go (is_primary other) refl
  where
    go : (primary : Bool) → is_primary other ≡ primary → (primary && m.system == other.system) ≡ false
    go false is = refl
    go true is = let apart = new is in grind (arith, nat_tests)

none-sends-more : (side : Side) (m : Message) (entry : Entry) (log : List Entry) → sends_like side m entry ≡ false
    → NoneSends side m log → NoneSends side m (entry ∷ log)
none-sends-more side m entry log not none = All-cons (λ (e : Entry). sends_like side m e ≡ false) entry log not none

received-sends-not : (side : Side) (m other : Message) (moment : ℕ)
    → sends_like side m (Noted moment side (Happening.Received other)) ≡ false
received-sends-not side m other moment = refl

kind-sends : (side : Side) (plan : EndPlan) (arrived : List Arrival) (way : List Character) (moment : ℕ) (kind : Kind)
    (log : List Entry) (run : Run) (m : Message)
    → MayMove plan way run kind → IsNewTo m (all_sent plan (run_after plan arrived kind run))
    → (IsNewTo m (all_sent plan run) → NoneSends side m log)
    → NoneSends side m (with_note moment side (noted_at side kind) log)
kind-sends side plan arrived way moment (Did (Does (SentMessage message))) log run m may new earlier =
    none-sends-more side m (Noted moment side (Happening.Sent message)) log
    (sent-sends-not side m message moment (new message (inl refl))) (earlier (λ other has. new other (inr has)))
kind-sends side plan arrived way moment (Did (Does (ReceivedMessage message))) log run m may new earlier =
    none-sends-more side m (Noted moment side (Happening.Received message)) log
    (received-sends-not side m message moment) (earlier new)
kind-sends side plan arrived way moment (Did (Does (DrewNumber number))) log run m may new earlier = earlier new
kind-sends side plan arrived way moment (Did (Does (DroppedMessage header now))) log run m may new earlier = earlier new
kind-sends side plan arrived way moment (Did (Does (GaveBlock place number))) log run m may new earlier = absurd may.0.1
kind-sends side plan arrived way moment (Did (Does (WroteFrame place number))) log run m may new earlier = absurd
    may.0.1
kind-sends side plan arrived way moment (Did (Does (HeardBlock block now flow))) log run m may new earlier = absurd
    may.0.1
kind-sends side plan arrived way moment (Did (Gives place number block now)) log run m may new earlier = earlier new
kind-sends side plan arrived way moment (Did (Calls call)) log run m may new earlier =
    earlier (λ other has. new other (subst (λ (ms : List Message). Has (ms ++ run.sent_before) other) (sym kept) has))
  where
    kept : sent_in (own_of plan (Calls call ∷ run.doings)) ≡ sent_in (own_of plan run.doings)
    kept = (call-keeps (receiver_of plan) call (line_of plan run.doings) (own_of plan run.doings)).0
kind-sends side plan arrived way moment (Did (Says what)) log run m may new earlier =
    none-sends-more side m (Noted moment side what) log (quiet-plain side m moment what may.0.1).sends_not (earlier new)
kind-sends side plan arrived way moment (Started note base) log run m may new earlier =
    none-sends-more side m (Noted moment side note) log (start-sends-not side plan.side m moment note base may.0)
    (earlier new)
kind-sends side plan arrived way moment Lost log run m may new earlier = earlier new
kind-sends side plan arrived way moment (Changed place byte) log run m may new earlier = earlier new
kind-sends side plan arrived way moment (Added byte) log run m may new earlier = earlier new

pub none-sends : (side : Side) (plans : LinePlans) (moves : List Move) (m : Message) → KeepLaws plans moves
    → IsNewTo m (all_sent (plan_at side plans) (run_at side plans moves)) → NoneSends side m (log_of moves)
none-sends side plans [] m laws new = All-nil (λ (e : Entry). sends_like side m e ≡ false)
none-sends side plans (move ∷ before) m laws new =
    go side move.side laws.0 (λ earlier. none-sends side plans before m laws.1 earlier) new
  where
    Later : Side → Side → Type 0
    Later by of =
        MayMove (plan_at of plans) (seen_at of plans before).there.under_way (run_at of plans before) move.kind
        → (IsNewTo m (all_sent (plan_at by plans) (run_at by plans before)) → NoneSends by m (log_of before))
        → IsNewTo m (all_sent (plan_at by plans) (run_at by plans (record move { side = of } ∷ before)))
        → NoneSends by m (with_note move.moment of (noted_at of move.kind) (log_of before))

    here : (by : Side) → Later by by
    here by may earlier new_all =
        kind-sends by (plan_at by plans) (seen_at by plans before).here.arrived
        (seen_at by plans before).there.under_way move.moment move.kind (log_of before) (run_at by plans before) m may
        (subst (λ (r : Run). IsNewTo m (all_sent (plan_at by plans) r)) (run-here by plans move.moment move.kind before)
        new_all)
        earlier

    go : (by of : Side) → Later by of
    go Equipment Equipment = here Equipment
    go Host Host = here Host
    go Equipment Host = λ may earlier new_all.
        (quiet-more Equipment m move.moment Host (noted_at Host move.kind) (log_of before)
        (quiet-other Equipment Host m move.moment (noted_at Host move.kind) refl)).1 (earlier new_all)
    go Host Equipment = λ may earlier new_all.
        (quiet-more Host m move.moment Equipment (noted_at Equipment move.kind) (log_of before)
        (quiet-other Host Equipment m move.moment (noted_at Equipment move.kind) refl)).1 (earlier new_all)
