-- What happens to two ends on one line, and what it leaves. Lists have the newest first.
use Rattle.std.specs.Prelude.{◌≡◌, ◌<◌, ◌≤◌, ℕ, ◌+◌, List, [], ◌∷◌, ◌++◌, length, map, Option, Some, None, if◌then◌else◌}
use Rattle.gl_base.specs.declared.side.Side.{Side}
use Rattle.gl_base.specs.declared.side.Side.TheVariants.{Equipment, Host}
use Rattle.gl_base.specs.Side.{is_same_side}
use Rattle.line_end.specs.declared.plan.LinePlan.{LinePlan}
use Rattle.line_end.specs.Step.{LineCall}
use Rattle.line_end.specs.Step.LineCall.{Cancel, Resume, Send, Take, Tick}
use Rattle.line_order.specs.Acts.{Act, Deed, line_after}
use Rattle.line_order.specs.Acts.Act.{Add, Call, Change, Hand, Lose, PowerLoss}
use Rattle.line_order.specs.Characters.{Character}
use Rattle.line_order.specs.Line.{Arrival, Line, View, new_line, seen_from}
use Rattle.message_end.specs.Doings.{Doing, IsLawful, own_of}
use Rattle.message_end.specs.Doings.Doing.{Calls, Does, Gives, Says}
use Rattle.message_end.specs.Drops.{IsDropped}
use Rattle.message_end.specs.Own.{Giving, Has, Own, drawn_in, given_in, sent_in}
use Rattle.message_end.specs.Own.Own.{ReceivedMessage}
use Rattle.message_end.specs.Plan.{EndPlan}
use Rattle.message_flow.specs.declared.message.Message.{Message}
use Rattle.message_end.specs.Starts.{IsStartOf}
use Rattle.trace_log.specs.Log.{Happening}

-- an end does something, where a character that it takes is the next on its way to it; it starts anew without what it
-- held, notes this of it, and may draw numbers from a base on; or the next character on its way to it is lost, the one
-- at a place becomes another byte, or one is added in front of them
pub data Kind : Type 0 where
  Did : (doing : Doing) → Kind
  Started : (note : Happening) (base : ℕ) → Kind
  Lost : Kind
  Changed : (place byte : ℕ) → Kind
  Added : (byte : ℕ) → Kind

-- at one of the ends, at a moment
pub record Move : Type 0 where
  pub side : Side
  pub moment : ℕ
  pub kind : Kind

-- ---- the two ends and their line

pub record LinePlans : Type 0 where
  pub equipment : LinePlan
  pub host : LinePlan

abbrev pub plan_at : Side → LinePlans → EndPlan
plan_at Equipment plans = record { side = Equipment; line = plans.equipment }
plan_at Host plans = record { side = Host; line = plans.host }

abbrev pub act_of_call : LineCall → Act
act_of_call (Send block now) = Call (Send block now)
act_of_call (Resume now) = Call (Resume now)
act_of_call Cancel = Call Cancel
act_of_call (Take byte now) = Hand now
act_of_call (Tick now) = Call (Tick now)

abbrev pub act_of_doing : Doing → Option Act
act_of_doing (Does own) = None
act_of_doing (Gives place number block now) = Some (Call (Send block now))
act_of_doing (Calls call) = Some (act_of_call call)
act_of_doing (Says what) = None

-- what it is on the line
abbrev pub act_of : Kind → Option Act
act_of (Did doing) = act_of_doing doing
act_of (Started note base) = Some PowerLoss
act_of Lost = Some Lose
act_of (Changed place byte) = Some (Change place byte)
act_of (Added byte) = Some (Add byte)

abbrev pub with_act : Side → Option Act → List Deed → List Deed
with_act side None deeds = deeds
with_act side (Some act) deeds = record { side = side; act = act } ∷ deeds

abbrev pub deeds_of : List Move → List Deed
deeds_of [] = []
deeds_of (move ∷ before) = with_act move.side (act_of move.kind) (deeds_of before)

abbrev pub line_of_moves : LinePlans → List Move → Line
line_of_moves plans moves = line_after (new_line plans.equipment.times plans.host.times) (deeds_of moves)

-- ---- what an end has done over all its starts

-- since its start: the first number that it may draw, its doings, and for each message received the place of the block
-- that made it whole, among all that the other end has given; and all that it had sent, given and received so before
pub record Run : Type 0 where
  pub base : ℕ
  pub doings : List Doing
  pub places : List ℕ
  pub sent_before : List Message
  pub given_before : List Giving
  pub places_before : List ℕ

abbrev pub new_run : Run
new_run = record { base = 0; doings = []; places = []; sent_before = []; given_before = []; places_before = [] }

-- all messages that it has sent
abbrev pub all_sent : EndPlan → Run → List Message
all_sent plan run = sent_in (own_of plan run.doings) ++ run.sent_before

abbrev pub behind : ℕ → Giving → Giving
behind count giving = record { place = count + giving.place; number = giving.number }

-- all blocks that it has given, each with the place of its message among all that it has sent
abbrev pub all_given : EndPlan → Run → List Giving
all_given plan run =
    map (behind (length run.sent_before)) (given_in (own_of plan run.doings)) ++ run.given_before

-- the place of the block that has arrived last
abbrev pub newest_place : List Arrival → ℕ
newest_place [] = 0
newest_place (arrival ∷ before) = arrival.frame.place

abbrev pub places_with_own : List Arrival → Own → List ℕ → List ℕ
places_with_own arrived (ReceivedMessage message) places = newest_place arrived ∷ places
places_with_own arrived _ places = places

abbrev pub places_with : List Arrival → Doing → List ℕ → List ℕ
places_with arrived (Does own) places = places_with_own arrived own places
places_with arrived (Gives place number block now) places = places
places_with arrived (Calls call) places = places
places_with arrived (Says what) places = places

-- an end that has all these blocks from the other one does this
abbrev pub run_after : EndPlan → List Arrival → Kind → Run → Run
run_after plan arrived (Did doing) run =
    record run { doings = doing ∷ run.doings; places = places_with arrived doing run.places }
run_after plan arrived (Started note base) run = record {
  base = base;
  doings = [];
  places = [];
  sent_before = all_sent plan run;
  given_before = all_given plan run;
  places_before = run.places ++ run.places_before;
}
run_after plan arrived Lost run = run
run_after plan arrived (Changed place byte) run = run
run_after plan arrived (Added byte) run = run

abbrev pub seen_at : Side → LinePlans → List Move → View
seen_at side plans moves = seen_from side (line_of_moves plans moves)

abbrev pub run_at : Side → LinePlans → List Move → Run
run_at side plans [] = new_run
run_at side plans (move ∷ before) =
    if is_same_side side move.side
    then run_after (plan_at side plans) (seen_at side plans before).here.arrived move.kind (run_at side plans before)
    else run_at side plans before

-- ---- the law

-- the byte is the next of these characters
abbrev pub IsNextByte : List Character → ℕ → Type 0
IsNextByte [] byte = ⊥
IsNextByte (character ∷ rest) byte = byte ≡ character.byte

abbrev pub IsCallOnWay : List Character → LineCall → Type 0
IsCallOnWay way (Take byte now) = IsNextByte way byte
IsCallOnWay way _ = Unit {0}

abbrev pub IsOnWay : List Character → Doing → Type 0
IsOnWay way (Does own) = Unit {0}
IsOnWay way (Gives place number block now) = Unit {0}
IsOnWay way (Calls call) = IsCallOnWay way call
IsOnWay way (Says what) = Unit {0}

-- the first number of a start lies above all that were drawn before it (SEMI E5, system bytes)
pub record IsHigher (plan : EndPlan) (run : Run) (base : ℕ) : Type 0 where
  pub least : run.base ≤ base
  pub above : (drawn : ℕ) → Has (drawn_in (own_of plan run.doings)) drawn → drawn < base

abbrev pub MayMove : EndPlan → List Character → Run → Kind → Type 0
MayMove plan way run (Did doing) = IsLawful plan run.base run.doings doing × IsOnWay way doing
MayMove plan way run (Started note base) = IsStartOf plan.side note base × IsHigher plan run base
MayMove plan way run Lost = Unit {0}
MayMove plan way run (Changed place byte) = Unit {0}
MayMove plan way run (Added byte) = Unit {0}

-- each end keeps its law over its own doings, and notes each start as its own and draws numbers above all old ones
-- there
abbrev pub KeepLaws : LinePlans → List Move → Type 0
KeepLaws plans [] = Unit {0}
KeepLaws plans (move ∷ before) =
    MayMove (plan_at move.side plans) (seen_at move.side plans before).there.under_way (run_at move.side plans before)
    move.kind
    × KeepLaws plans before

-- a message that T4 drops is dropped at the moment of its move
abbrev pub IsTimelyDoing : ℕ → Doing → Type 0
IsTimelyDoing moment (Does own) = IsDropped (λ at. at ≡ moment) own
IsTimelyDoing moment (Gives place number block now) = Unit {0}
IsTimelyDoing moment (Calls call) = Unit {0}
IsTimelyDoing moment (Says what) = Unit {0}

abbrev pub IsTimely : ℕ → Kind → Type 0
IsTimely moment (Did doing) = IsTimelyDoing moment doing
IsTimely moment (Started note base) = Unit {0}
IsTimely moment Lost = Unit {0}
IsTimely moment (Changed place byte) = Unit {0}
IsTimely moment (Added byte) = Unit {0}

abbrev pub AreTimely : List Move → Type 0
AreTimely [] = Unit {0}
AreTimely (move ∷ before) = IsTimely move.moment move.kind × AreTimely before
