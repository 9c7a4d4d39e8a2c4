-- The order in which messages are received.
use Rattle.std.specs.Prelude.{◌≡◌, ◌<◌, ◌≤◌, ◌==◌, ℕ, List, [], ◌∷◌, length, Option, Some, None, if◌then◌else◌}
use Rattle.gl_base.specs.Side.{other_side}
use Rattle.message_end.specs.Doings.{Doing}
use Rattle.message_end.specs.Doings.Doing.{Calls, Does, Gives, Says}
use Rattle.message_end.specs.Own.{Giving, Has, Own, sent_at}
use Rattle.message_end.specs.Own.Own.{ReceivedMessage}
use Rattle.message_end.specs.Plan.{EndPlan}
use Rattle.message_end.specs.Moves.{Kind, LinePlans, Move, Run, all_given, all_sent, newest_place, plan_at, run_at, seen_at}
use Rattle.message_end.specs.Moves.Kind.{Added, Changed, Did, Lost, Started}
use Rattle.message_flow.specs.declared.message.Message.{Message}
use Rattle.message_flow.specs.Blocks.{block_count}

abbrev pub giving_at : ℕ → List Giving → Option Giving
giving_at place [] = None
giving_at place (giving ∷ before) = if place == length before then Some giving else giving_at place before

-- the block at this place, among all that an end has given, is the last one of this message that it has sent
pub record IsLastBlock (plan : EndPlan) (run : Run) (place : ℕ) (message : Message) : Type 0 where
  pub giving : Giving
  pub given : giving_at place (all_given plan run) ≡ Some giving
  pub sent : sent_at giving.place (all_sent plan run) ≡ Some message
  pub last : giving.number ≡ block_count message

-- a message is received behind all that this end has received before: with the place of its last block, among all
-- blocks that the other end has given over its starts, these places never fall over all starts of both, and rise within
-- one start of the receiver (SEMI E4, multi-block message; this profile)
pub record IsInOrder (plan : EndPlan) (there here : Run) (place : ℕ) (message : Message) : Type 0 where
  pub last_block : IsLastBlock plan there place message
  pub rises : (other : ℕ) → Has here.places other → other < place
  pub never_falls : (other : ℕ) → Has here.places_before other → other ≤ place

abbrev pub OwnInOrder : Own → EndPlan → Run → Run → ℕ → Type 0
OwnInOrder (ReceivedMessage message) plan there here place = IsInOrder plan there here place message
OwnInOrder _ plan there here place = Unit {0}

abbrev pub DoingInOrder : Doing → EndPlan → Run → Run → ℕ → Type 0
DoingInOrder (Does own) plan there here place = OwnInOrder own plan there here place
DoingInOrder (Gives at number block now) plan there here place = Unit {0}
DoingInOrder (Calls call) plan there here place = Unit {0}
DoingInOrder (Says what) plan there here place = Unit {0}

abbrev pub KindInOrder : Kind → EndPlan → Run → Run → ℕ → Type 0
KindInOrder (Did doing) plan there here place = DoingInOrder doing plan there here place
KindInOrder (Started note base) plan there here place = Unit {0}
KindInOrder Lost plan there here place = Unit {0}
KindInOrder (Changed at byte) plan there here place = Unit {0}
KindInOrder (Added byte) plan there here place = Unit {0}

-- each message at what was received before it
abbrev pub AreInOrder : LinePlans → List Move → Type 0
AreInOrder plans [] = Unit {0}
AreInOrder plans (move ∷ before) =
    KindInOrder move.kind (plan_at (other_side move.side) plans) (run_at (other_side move.side) plans before)
    (run_at move.side plans before) (newest_place (seen_at move.side plans before).here.arrived)
    × AreInOrder plans before
