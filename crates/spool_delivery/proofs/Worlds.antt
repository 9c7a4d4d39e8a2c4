-- Two ends that keep their laws, with the spool of the equipment, at each move.
use Rattle.std.specs.Prelude.{◌≡◌, ◌≢◌, ◌<◌, ◌≤◌, ◌⊎◌, ◌+◌, ℕ, true, List, [], ◌∷◌, ◌++◌, length, map, Option, Some, None, refl}
use Rattle.std.proofs.Common.{sym, ap, subst, arith, inl, inr, length-append}
use Rattle.gl_base.specs.declared.side.Side.{Side}
use Rattle.gl_base.specs.declared.side.Side.TheVariants.{Equipment, Host}
use Rattle.gl_base.specs.Side.{other_side}
use Rattle.delivery.specs.Order.{AreInOrder, KindInOrder}
use Rattle.line_order.specs.Characters.{Character}
use Rattle.line_order.specs.Line.{Arrival}
use Rattle.message_end.specs.Doings.{line_of, own_of, with_call}
use Rattle.message_end.specs.Doings.Doing.{Calls, Does, Gives, Says}
use Rattle.message_end.specs.Own.{Giving, Has, Own, drawn_in, given_in, sent_in}
use Rattle.message_end.specs.Own.Own.{DrewNumber, DroppedMessage, GaveBlock, HeardBlock, ReceivedMessage, SentMessage, WroteFrame}
use Rattle.message_end.specs.Plan.{EndPlan, receiver_of}
use Rattle.message_end.specs.Log.{log_of, noted_at, with_note}
use Rattle.message_end.specs.Moves.{KeepLaws, Kind, LinePlans, MayMove, Move, Run, all_given, all_sent, behind, newest_place, plan_at, run_after, run_at, seen_at}
use Rattle.message_end.specs.Moves.Kind.{Added, Changed, Did, Lost, Started}
use Rattle.message_flow.specs.declared.message.Message.{Message}
use Rattle.message_flow.specs.Message.{is_primary}
use Rattle.trace_log.specs.Delivered.{Delivered}
use Rattle.trace_log.specs.Log.{Entry, Happening}
use Rattle.trace_log.specs.Log.Entry.{Noted}
use Rattle.spool_law.specs.Shelf.{Change, KeepsSpool, MayChange, Policy, change_of, shelf_of}
use Rattle.spool_law.specs.Shelf.Change.{Finds, HasGone, HasStored, Leaves, Other, Receives, Sends, Stores, Tries}
use Rattle.spool_law.specs.Tries.{KeepsTries, MayMoveTried, MaySayTried, MayTryAt, tried_behind, tries_in}
use Rattle.spool_delivery.specs.Account.{account_of}
use Rattle.spool_delivery.specs.Claims.{equipment_notes}
use Rattle.spool_delivery.proofs.Facts.{AreFacts}
use Rattle.spool_delivery.proofs.Tied.{sound-at}
use Rattle.message_end.proofs.Members.{has-either, has-mapped}
use Rattle.message_end.proofs.Starts.{IsEquipmentStart, equipment-start}
use Rattle.spool_delivery.proofs.Logs.{AreReplied, equipment_sent, replied-are, sent-are}
use Rattle.spool_delivery.proofs.Orders.{AllPlaced, of-latest}
use Rattle.spool_delivery.proofs.Runs.{AreSame, IsNumbered, call-same, numbered-after}
use Rattle.spool_delivery.proofs.Tries.{AllFresh, AreOfStart, DrawnFor, IsUntried, of-new-start, of-start, untried-in}
use Rattle.spool_delivery.proofs.WorldSteps.{IsWorld, drawn-step, give-step, note-step, plain-no-start, plain-not, plain-sends, quiet-step, sent-step, start-not, take-step}

-- ---- a move of the equipment

abbrev pub IsWorldOf : Policy → List Entry → EndPlan → Run → List ℕ → Type 0
IsWorldOf policy log plan run places =
    IsWorld policy log run.base (drawn_in (own_of plan run.doings)) (tries_in run.doings) (all_sent plan run)
    (all_given plan run) places

pub all-placed : (plan : EndPlan) (run : Run) → IsNumbered plan run → AllPlaced (all_given plan run) (all_sent plan run)
all-placed plan run is g has = go (has-either (map (behind (length run.sent_before)) given) run.given_before g has)
  where
    given : List Giving
    given = given_in (own_of plan run.doings)

    long : length (all_sent plan run) ≡ length (sent_in (own_of plan run.doings)) + length run.sent_before
    long = length-append (sent_in (own_of plan run.doings)) run.sent_before

    go : Has (map (behind (length run.sent_before)) given) g ⊎ Has run.given_before g
        → g.place < length (all_sent plan run)
    go (inl now) =
        let it = has-mapped (behind (length run.sent_before)) given g now in
        let under = is.given_now it.0 it.1 in
        let here : g.place ≡ length run.sent_before + it.0.place = ap (λ (x : Giving). x.place) it.2 in
        omega (arith, under, here, long)
    go (inr old) = let under = is.given_old g old in omega (arith, under, long)

fresh-for : (plan : EndPlan) (run : Run) (change : Change) → IsNumbered plan run
    → MaySayTried (own_of plan run.doings) (tries_in run.doings) change
    → AllFresh change (all_sent plan run) × DrawnFor change (drawn_in (own_of plan run.doings))
fresh-for plan run (Tries number system) is may = (
  λ m has primary. go m (has-either sent run.sent_before m has) primary,
  may.drawn,
)
  where
    sent : List Message
    sent = sent_in (own_of plan run.doings)

    go : (m : Message) → Has sent m ⊎ Has run.sent_before m → is_primary m ≡ true → m.system ≢ system
    go m (inl has) primary = may.new m has primary
    go m (inr has) primary =
        let low = is.old m has primary in let high = is.least system may.drawn in omega (arith, low, high)
fresh-for plan run (Finds found) is may = (tt, tt)
fresh-for plan run (Stores number message) is may = (tt, tt)
fresh-for plan run (HasStored number) is may = (tt, tt)
fresh-for plan run (Leaves number why room_for) is may = (tt, tt)
fresh-for plan run (HasGone number) is may = (tt, tt)
fresh-for plan run (Sends message) is may = (tt, tt)
fresh-for plan run (Receives message) is may = (tt, tt)
fresh-for plan run Other is may = (tt, tt)

untried-for : (plan : EndPlan) (run : Run) (change : Change) (log : List Entry) → IsNumbered plan run
    → MaySayTried (own_of plan run.doings) (tries_in run.doings) change
    → AreOfStart run.base (drawn_in (own_of plan run.doings)) (tries_in run.doings)
    (shelf_of (equipment_notes log)).told (account_of log).tries
    → IsUntried change (account_of log).tries
untried-for plan run (Tries number system) log is may starts =
    untried-in run.base (drawn_in (own_of plan run.doings)) (tries_in run.doings)
    (shelf_of (equipment_notes log)).told (account_of log).tries system starts is.least may.drawn may.untried
untried-for plan run (Finds found) log is may starts = tt
untried-for plan run (Stores number message) log is may starts = tt
untried-for plan run (HasStored number) log is may starts = tt
untried-for plan run (Leaves number why room_for) log is may starts = tt
untried-for plan run (HasGone number) log is may starts = tt
untried-for plan run (Sends message) log is may starts = tt
untried-for plan run (Receives message) log is may starts = tt
untried-for plan run Other log is may starts = tt

equipment-step : (policy : Policy) (plan : EndPlan) → plan.side ≡ Equipment → (arrived : List Arrival)
    (way : List Character) (moment : ℕ) (kind : Kind) (log : List Entry) (run : Run) (places : List ℕ)
    → MayMove plan way run kind → MayMoveTried plan run.doings kind
    → KeepsSpool policy (equipment_notes (with_note moment Equipment (noted_at Equipment kind) log))
    → Delivered log → AreReplied log → equipment_sent log ≡ all_sent plan run → IsNumbered plan run
    → IsWorldOf policy log plan run places
    → IsWorldOf policy (with_note moment Equipment (noted_at Equipment kind) log) plan (run_after plan arrived kind run)
    places
equipment-step policy plan side arrived way moment (Did (Does (DrewNumber number))) log run places may tried spool
    delivered replied sent_are numbered is =
    drawn-step policy log run.base (drawn_in (own_of plan run.doings)) (tries_in run.doings) (all_sent plan run)
    (all_given plan run) places number is
equipment-step policy plan side arrived way moment (Did (Does (SentMessage message))) log run places may tried spool
    delivered replied sent_are numbered is =
    sent-step policy (Noted moment Equipment (Happening.Sent message) ∷ log) run.base drawn now (all_sent plan run)
    (all_given plan run) places message (all-placed plan run numbered)
    (note-step policy log moment (Happening.Sent message) run.base drawn now (all_sent plan run) (all_given plan run)
    places run.base drawn now delivered replied sent_are numbered.least (λ primary. (may.0.1.primary primary).drawn)
    spool.0 tt tt is.starts is)
  where
    drawn : List ℕ
    drawn = drawn_in (own_of plan run.doings)

    now : List ℕ
    now = tries_in run.doings
equipment-step policy plan side arrived way moment (Did (Does (ReceivedMessage message))) log run places may tried spool
    delivered replied sent_are numbered is =
    note-step policy log moment (Happening.Received message) run.base drawn now (all_sent plan run) (all_given plan run)
    places run.base drawn now delivered replied sent_are numbered.least tt spool.0 tt tt is.starts is
  where
    drawn : List ℕ
    drawn = drawn_in (own_of plan run.doings)

    now : List ℕ
    now = tries_in run.doings
equipment-step policy plan side arrived way moment (Did (Does (DroppedMessage header now))) log run places may
    tried spool
    delivered replied sent_are numbered is = is
equipment-step policy plan side arrived way moment (Did (Does (GaveBlock place number))) log run places may tried spool
    delivered replied sent_are numbered is = absurd may.0.1
equipment-step policy plan side arrived way moment (Did (Does (WroteFrame place number))) log run places may tried spool
    delivered replied sent_are numbered is = absurd may.0.1
equipment-step policy plan side arrived way moment (Did (Does (HeardBlock block now flow))) log run places may
    tried spool
    delivered replied sent_are numbered is = absurd may.0.1
equipment-step policy plan side arrived way moment (Did (Gives place number block now)) log run places may tried spool
    delivered replied sent_are numbered is =
    give-step policy log run.base (drawn_in own) (tries_in run.doings) (all_sent plan run) (all_given plan run) places
    (record { place = length run.sent_before + place; number = number })
    (of-latest run.base (drawn_in own) (tries_in run.doings) (shelf_of (equipment_notes log)).told
    (account_of log).tries (sent_in own) run.sent_before
    (record { place = length run.sent_before + place; number = number }) place may.0.may.message refl may.0.may.sent
    tried
    is.falls is.starts numbered.least numbered.drawn_are)
    is
  where
    own : List Own
    own = own_of plan run.doings
equipment-step policy plan side arrived way moment (Did (Calls call)) log run places may tried spool delivered replied
    sent_are numbered is = carried
  where
    own : List Own
    own = own_of plan run.doings

    now : List Own
    now = with_call (receiver_of plan) call (line_of plan run.doings) own

    same : AreSame now own
    same = call-same (receiver_of plan) call (line_of plan run.doings) own

    carried : IsWorldOf policy log plan (run_after plan arrived (Did (Calls call)) run) places
    carried =
        subst
        (λ (d : List ℕ).
        IsWorld policy log run.base d (tries_in run.doings) (sent_in now ++ run.sent_before)
        (map (behind (length run.sent_before)) (given_in now) ++ run.given_before) places) (sym same.drawn)
        (subst
        (λ (s : List Message).
        IsWorld policy log run.base (drawn_in own) (tries_in run.doings) (s ++ run.sent_before)
        (map (behind (length run.sent_before)) (given_in now) ++ run.given_before) places) (sym same.sent)
        (subst
        (λ (g : List Giving).
        IsWorld policy log run.base (drawn_in own) (tries_in run.doings) (all_sent plan run)
        (map (behind (length run.sent_before)) g ++ run.given_before) places) (sym same.given) is))
equipment-step policy plan side arrived way moment (Did (Says what)) log run places may tried spool delivered replied
    sent_are numbered is =
    note-step policy log moment what run.base drawn now (all_sent plan run) (all_given plan run) places run.base drawn
    (tried_behind (change_of what) now) delivered replied sent_are numbered.least
    (plain-sends what drawn may.0.1) spool.0
    fresh.0 (untried-for plan run (change_of what) log numbered tried is.starts)
    (of-start policy (equipment_notes log) (change_of what) (length log) (account_of log) run.base drawn now
    (plain-no-start what may.0.1) (sound-at policy log is.facts).tied spool.0 fresh.1 is.starts)
    is
  where
    drawn : List ℕ
    drawn = drawn_in (own_of plan run.doings)

    now : List ℕ
    now = tries_in run.doings

    fresh : AllFresh (change_of what) (all_sent plan run) × DrawnFor (change_of what) drawn
    fresh = fresh-for plan run (change_of what) numbered tried
equipment-step policy plan side arrived way moment (Started note base) log run places may tried spool delivered replied
    sent_are numbered is =
    subst
    (λ (what : Happening).
    MayChange policy (equipment_notes log) (change_of what)
    → IsWorld policy (Noted moment Equipment what ∷ log) base [] [] (all_sent plan run) (all_given plan run) places)
    (sym starts.is) started spool.0
  where
    starts : IsEquipmentStart note base
    starts = equipment-start plan.side note base may.0 side

    drawn : List ℕ
    drawn = drawn_in (own_of plan run.doings)

    now : List ℕ
    now = tries_in run.doings

    started : MayChange policy (equipment_notes log) (Finds starts.found)
        → IsWorld policy (Noted moment Equipment (Happening.EquipmentStarted starts.found base) ∷ log) base [] []
        (all_sent plan run) (all_given plan run) places
    started finds =
        note-step policy log moment (Happening.EquipmentStarted starts.found base) run.base drawn now
        (all_sent plan run) (all_given plan run) places base [] [] delivered replied sent_are numbered.least tt finds tt tt
        (of-new-start run.base base drawn now (shelf_of (equipment_notes log)).told
        (account_of log).tries may.1.least may.1.above
        is.starts)
        is
equipment-step policy plan side arrived way moment Lost log run places may tried spool delivered replied sent_are
    numbered
    is = is
equipment-step policy plan side arrived way moment (Changed place byte) log run places may tried spool delivered replied
    sent_are numbered is = is
equipment-step policy plan side arrived way moment (Added byte) log run places may tried spool delivered replied
    sent_are numbered is = is

-- ---- a move of the host

abbrev pub all_places : Run → List ℕ
all_places run = run.places ++ run.places_before

host-step : (policy : Policy) (plan there : EndPlan) (arrived : List Arrival) (way : List Character) (moment : ℕ)
    (kind : Kind) (log : List Entry) (run theirs : Run)
    → MayMove plan way run kind → KindInOrder kind there theirs run (newest_place arrived)
    → IsWorldOf policy log there theirs (all_places run)
    → IsWorldOf policy (with_note moment Host (noted_at Host kind) log) there theirs
    (all_places (run_after plan arrived kind run))
host-step policy plan there arrived way moment (Did (Does (ReceivedMessage message))) log run theirs may order is =
    take-step policy log moment message theirs.base (drawn_in (own_of there theirs.doings)) (tries_in theirs.doings)
    (all_sent there theirs) (all_given there theirs) (all_places run) (newest_place arrived) order.last_block.giving
    order.last_block.given order.last_block.sent
    (λ other has. go other (has-either run.places run.places_before other has)) is
  where
    go : (other : ℕ) → Has run.places other ⊎ Has run.places_before other → other ≤ newest_place arrived
    go other (inl has) = let under = order.rises other has in omega (arith, under)
    go other (inr has) = order.never_falls other has
host-step policy plan there arrived way moment (Did (Does (SentMessage message))) log run theirs may order is =
    quiet-step policy log moment (Happening.Sent message) theirs.base (drawn_in (own_of there theirs.doings)) (tries_in
    theirs.doings) (all_sent there theirs) (all_given there theirs) (all_places run) tt is
host-step policy plan there arrived way moment (Did (Does (DrewNumber number))) log run theirs may order is = is
host-step policy plan there arrived way moment (Did (Does (DroppedMessage header now))) log run theirs may order is = is
host-step policy plan there arrived way moment (Did (Does (GaveBlock place number))) log run theirs may order is =
    absurd may.0.1
host-step policy plan there arrived way moment (Did (Does (WroteFrame place number))) log run theirs may order is =
    absurd may.0.1
host-step policy plan there arrived way moment (Did (Does (HeardBlock block now flow))) log run theirs may order is =
    absurd may.0.1
host-step policy plan there arrived way moment (Did (Gives place number block now)) log run theirs may order is = is
host-step policy plan there arrived way moment (Did (Calls call)) log run theirs may order is = is
host-step policy plan there arrived way moment (Did (Says what)) log run theirs may order is =
    quiet-step policy log moment what theirs.base (drawn_in (own_of there theirs.doings)) (tries_in theirs.doings)
    (all_sent there theirs) (all_given there theirs) (all_places run) (plain-not what may.0.1) is
host-step policy plan there arrived way moment (Started note base) log run theirs may order is =
    quiet-step policy log moment note theirs.base (drawn_in (own_of there theirs.doings)) (tries_in theirs.doings)
    (all_sent there theirs) (all_given there theirs) (all_places run) (start-not plan.side note base may.0) is
host-step policy plan there arrived way moment Lost log run theirs may order is = is
host-step policy plan there arrived way moment (Changed place byte) log run theirs may order is = is
host-step policy plan there arrived way moment (Added byte) log run theirs may order is = is

-- ---- all moves

pub delivered-before : (moment : ℕ) (side : Side) (noted : Option Happening) (log : List Entry)
    → Delivered (with_note moment side noted log) → Delivered log
delivered-before moment side None log is = is
delivered-before moment side (Some what) log is = is.1

pub spool-before : (policy : Policy) (moment : ℕ) (side : Side) (noted : Option Happening) (log : List Entry)
    → KeepsSpool policy (equipment_notes (with_note moment side noted log)) → KeepsSpool policy (equipment_notes log)
spool-before policy moment side None log is = is
spool-before policy moment Equipment (Some what) log is = is.1
spool-before policy moment Host (Some what) log is = is

-- of either end
pub numbered-are : (end : Side) (plans : LinePlans) (moves : List Move) → KeepLaws plans moves
    → IsNumbered (plan_at end plans) (run_at end plans moves)
numbered-are end plans [] laws = record {
  least = λ n none. absurd none;
  drawn_are = λ m none. absurd none;
  old = λ m none. absurd none;
  given_now = λ g none. absurd none;
  given_old = λ g none. absurd none;
}
numbered-are end plans (move ∷ before) laws = go end (numbered-are end plans before laws.1) move.side laws.0
  where
    go : (end : Side) → IsNumbered (plan_at end plans) (run_at end plans before) → (side : Side)
        → MayMove (plan_at side plans) (seen_at side plans before).there.under_way (run_at side plans before) move.kind
        → IsNumbered (plan_at end plans) (run_at end plans (record move { side = side } ∷ before))
    go Equipment earlier Equipment may =
        numbered-after (plan_at Equipment plans) (seen_at Equipment plans before).here.arrived
        (seen_at Equipment plans before).there.under_way move.kind (run_at Equipment plans before) may earlier
    go Equipment earlier Host may = earlier
    go Host earlier Host may =
        numbered-after (plan_at Host plans) (seen_at Host plans before).here.arrived
        (seen_at Host plans before).there.under_way move.kind (run_at Host plans before) may earlier
    go Host earlier Equipment may = earlier

abbrev pub WorldAt : Policy → LinePlans → List Move → Type 0
WorldAt policy plans moves =
    IsWorldOf policy (log_of moves) (plan_at Equipment plans) (run_at Equipment plans moves)
    (all_places (run_at Host plans moves))

new-world : (policy : Policy) (plans : LinePlans) → WorldAt policy plans []
new-world policy plans = record {
  facts = tt;
  falls = tt;
  first = λ t is. cc;
  starts = record {
    older = [];
    are = refl;
    below = λ s none. absurd none;
    drawn_are = λ s none. absurd none;
    told_before = [];
    told_are = refl;
    told_below = λ one none. absurd none;
    told_drawn = λ one none. absurd none;
  };
  host_taken = λ m none. absurd none;
  order = λ p q u w at_p at_q up_to. absurd (never at_p.giving at_p.is);
  taken_at = λ put none. absurd none;
}
  where
    never : (g : Giving) → None ≡ Some g → ⊥
    never g is = cc

pub world-at : (policy : Policy) (plans : LinePlans) (moves : List Move) → KeepLaws plans moves
    → KeepsSpool policy (equipment_notes (log_of moves)) → KeepsTries plans moves → Delivered (log_of moves)
    → AreInOrder plans moves → WorldAt policy plans moves
world-at policy plans [] laws spool tries delivered order = new-world policy plans
world-at policy plans (move ∷ before) laws spool tries delivered order =
    go
    (world-at policy plans before laws.1
    (spool-before policy move.moment move.side (noted_at move.side move.kind) (log_of before) spool) tries.1
    delivered_so order.1)
    move.side laws.0 spool tries.0 order.0
  where
    delivered_so : Delivered (log_of before)
    delivered_so = delivered-before move.moment move.side (noted_at move.side move.kind) (log_of before) delivered

    go : WorldAt policy plans before → (side : Side)
        → MayMove (plan_at side plans) (seen_at side plans before).there.under_way (run_at side plans before) move.kind
        → KeepsSpool policy
        (equipment_notes (with_note move.moment side (noted_at side move.kind) (log_of before)))
        → MayTryAt side plans before move.kind
        → KindInOrder move.kind (plan_at (other_side side) plans) (run_at (other_side side) plans before)
        (run_at side plans before) (newest_place (seen_at side plans before).here.arrived)
        → WorldAt policy plans (record move { side = side } ∷ before)
    go earlier Equipment may spool_so tried order_so =
        equipment-step policy (plan_at Equipment plans) refl (seen_at Equipment plans before).here.arrived
        (seen_at Equipment plans before).there.under_way move.moment move.kind (log_of before)
        (run_at Equipment plans before) (all_places (run_at Host plans before)) may tried spool_so delivered_so
        (replied-are plans before laws.1) (sent-are plans before laws.1)
        (numbered-are Equipment plans before laws.1) earlier
    go earlier Host may spool_so tried order_so =
        host-step policy (plan_at Host plans) (plan_at Equipment plans) (seen_at Host plans before).here.arrived
        (seen_at Host plans before).there.under_way move.moment move.kind (log_of before) (run_at Host plans before)
        (run_at Equipment plans before) may order_so earlier

pub facts-are : (policy : Policy) (plans : LinePlans) (moves : List Move) → KeepLaws plans moves
    → KeepsSpool policy (equipment_notes (log_of moves)) → KeepsTries plans moves → Delivered (log_of moves)
    → AreInOrder plans moves → AreFacts policy (log_of moves)
facts-are policy plans moves laws spool tries delivered order =
    (world-at policy plans moves laws spool tries delivered order).facts
