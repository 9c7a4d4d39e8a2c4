-- Runs that can be followed by hand.
use Rattle.std.specs.Prelude.{◌≡◌, ◌+◌, ◌==◌, ℕ, Bool, true, false, List, [], ◌∷◌, ◌++◌, length, replicate}
use Rattle.block_codec.specs.Frame.{frame_bytes}
use Rattle.gl_base.specs.declared.side.Side.{Side}
use Rattle.gl_base.specs.declared.side.Side.TheVariants.{Equipment, Host}
use Rattle.gl_base.specs.Side.{other_side}
use Rattle.line_end.specs.declared.plan.LinePlan.{LinePlan}
use Rattle.line_end.specs.Plan.{TimesFit}
use Rattle.line_end.specs.Step.{ack, enq, eot}
use Rattle.line_end.specs.Step.LineCall.{Resume, Take, Tick}
use Rattle.line_end.specs.Worked.{times_with}
use Rattle.line_order.specs.Acts.{HasNoSlip}
use Rattle.line_order.specs.Line.{new_line}
use Rattle.message_end.specs.Doings.{own_of}
use Rattle.message_end.specs.Doings.Doing.{Calls, Does, Gives}
use Rattle.message_end.specs.Own.{Own, received_in}
use Rattle.message_end.specs.Own.Own.{DrewNumber, ReceivedMessage, SentMessage}
use Rattle.message_end.specs.Plan.{block_of}
use Rattle.message_end.specs.Log.{log_of}
use Rattle.message_end.specs.Moves.{KeepLaws, Kind, LinePlans, MayMove, Move, deeds_of, plan_at, run_at, seen_at}
use Rattle.message_end.specs.Moves.Kind.{Added, Did, Lost, Started}
use Rattle.trace_log.specs.Log.Happening.{EquipmentStarted}
use Rattle.message_flow.specs.declared.message.Message.{Message}
use Rattle.trace_log.specs.Delivered.{Delivered}

abbrev pub a_plan : LinePlan
a_plan = record { device = 0; times = times_with 3; t3 = 45000; t4 = 45000; max_body = 1048576 }

abbrev pub plans : LinePlans
plans = record { equipment = a_plan; host = a_plan }

-- ---- runs are told in scenes, the oldest first

-- one move; an end gives a block of its message at a place to the line; or it takes these characters, one after another
pub data Scene : Type 0 where
  One : (side : Side) (moment : ℕ) (kind : Kind) → Scene
  Block : (side : Side) (moment : ℕ) (message : Message) (place number : ℕ) → Scene
  Takes : (side : Side) (moment : ℕ) (bytes : List ℕ) → Scene

abbrev pub takes_after : Side → ℕ → List ℕ → List Move → List Move
takes_after side moment [] before = before
takes_after side moment (byte ∷ bytes) before =
    takes_after side moment bytes
    (record { side = side; moment = moment; kind = Did (Calls (Take byte moment)) } ∷ before)

abbrev pub scene_after : Scene → List Move → List Move
scene_after (One side moment kind) before = record { side = side; moment = moment; kind = kind } ∷ before
scene_after (Block side moment message place number) before =
    record {
      side = side;
      moment = moment;
      kind = Did (Gives place number (block_of (plan_at side plans) message number) moment);
    }
    ∷ before
scene_after (Takes side moment bytes) before = takes_after side moment bytes before

-- the moves of these scenes behind those before
abbrev pub moves_after : List Scene → List Move → List Move
moves_after [] before = before
moves_after (scene ∷ scenes) before = moves_after scenes (scene_after scene before)

abbrev pub does : Own → Kind
does own = Did (Does own)

abbrev pub frame_of : Side → Message → ℕ → List ℕ
frame_of side message number = frame_bytes (block_of (plan_at side plans) message number)

abbrev pub message_with : (stream function : ℕ) (system : ℕ) → List ℕ → Message
message_with stream function system body =
    record { stream = stream; function = function; wait = false; system = system; body = body }

abbrev pub asking : (stream function : ℕ) (system : ℕ) → Message
asking stream function system =
    record { stream = stream; function = function; wait = true; system = system; body = [] }

-- the other end takes the ENQ for a block, the end its EOT, and the other end the block's frame
abbrev pub transfer : Side → ℕ → Message → ℕ → List Scene
transfer side moment message number =
    Takes (other_side side) moment (enq ∷ [])
    ∷ Takes side (moment + 1) (eot ∷ [])
    ∷ Takes (other_side side) (moment + 2) (frame_of side message number)
    ∷ []

-- ---- a reply in the middle of which power is lost

-- the host asks twice; a report of the equipment and its first answer have two blocks each
abbrev pub first_question : Message
first_question = asking 1 3 1

abbrev pub second_question : Message
second_question = asking 1 3 2

abbrev pub report : Message
report = message_with 6 11 1 (replicate 245 7)

abbrev pub long_answer : Message
long_answer = message_with 1 4 1 (replicate 245 9)

abbrev pub short_answer : Message
short_answer = message_with 1 4 2 []

-- both ends ask, the host yields and takes block 1 of the report
abbrev pub contention : List Scene
contention =
    One Equipment 0 (does (DrewNumber 1))
    ∷ One Equipment 0 (does (SentMessage report))
    ∷ One Host 0 (does (DrewNumber 1))
    ∷ One Host 0 (does (SentMessage first_question))
    ∷ Block Equipment 0 report 0 1
    ∷ Block Host 0 first_question 0 1
    ∷ Takes Host 1 (enq ∷ [])
    ∷ Takes Equipment 1 (enq ∷ [])
    ∷ Takes Equipment 2 (eot ∷ [])
    ∷ Takes Host 3 (frame_of Equipment report 1)
    ∷ Takes Equipment 4 (ack ∷ [])
    ∷ []

-- the host's question goes out after all
abbrev pub question : List Scene
question =
    One Host 5 (Did (Calls (Resume 5)))
    ∷ transfer Host 6 first_question 1
    ++ One Equipment 8 (does (ReceivedMessage first_question))
    ∷ One Equipment 8 (does (SentMessage long_answer))
    ∷ Takes Host 9 (ack ∷ [])
    ∷ []

-- block 1 of the answer goes out, and then block 2 of the report
abbrev pub by_turns : List Scene
by_turns =
    Block Equipment 10 long_answer 1 1
    ∷ transfer Equipment 11 long_answer 1
    ++ Takes Equipment 14 (ack ∷ [])
    ∷ Block Equipment 15 report 0 2
    ∷ transfer Equipment 16 report 2
    ++ One Host 18 (does (ReceivedMessage report))
    ∷ Takes Equipment 19 (ack ∷ [])
    ∷ []

-- power is lost as block 2 of the answer begins; the next question is answered
abbrev pub loss : List Scene
loss =
    Block Equipment 20 long_answer 1 2
    ∷ One Equipment 21 (Started (EquipmentStarted [] 2) 2)
    ∷ One Host 30 (does (DrewNumber 2))
    ∷ One Host 30 (does (SentMessage second_question))
    ∷ Block Host 30 second_question 1 1
    ∷ transfer Host 31 second_question 1
    ++ One Equipment 33 (does (ReceivedMessage second_question))
    ∷ One Equipment 33 (does (SentMessage short_answer))
    ∷ Takes Host 34 (ack ∷ [])
    ∷ Block Equipment 35 short_answer 0 1
    ∷ transfer Equipment 36 short_answer 1
    ++ One Host 38 (does (ReceivedMessage short_answer))
    ∷ []

abbrev pub outlived : List Move
outlived = moves_after loss (moves_after by_turns (moves_after question (moves_after contention [])))

abbrev pub ReceivedBy : Side → List Move → List Message → Type 0
ReceivedBy side moves messages = received_in (own_of (plan_at side plans) (run_at side plans moves).doings) ≡ messages

-- what the law of delivery starts from holds, and both ends have received messages
pub record OutlivesLoss : Type 0 where
  pub fits : TimesFit a_plan.times
  pub no_slip : HasNoSlip (new_line a_plan.times a_plan.times) (deeds_of outlived)
  pub laws : KeepLaws plans outlived
  pub at_host_are : ReceivedBy Host outlived (short_answer ∷ report ∷ [])
  pub at_equipment_are : ReceivedBy Equipment outlived (second_question ∷ [])

-- ---- a question that is received in two starts

-- two runs begin so: the equipment receives the host's question
abbrev pub opening : List Scene
opening =
    One Host 0 (does (DrewNumber 1))
    ∷ One Host 0 (does (SentMessage first_question))
    ∷ Block Host 0 first_question 0 1
    ∷ transfer Host 1 first_question 1
    ++ One Equipment 3 (does (ReceivedMessage first_question))
    ∷ []

-- the equipment loses its power, and its ACK with it; the host's T2 runs out
abbrev pub repeated : List Scene
repeated =
    opening
    ++ One Equipment 4 (Started (EquipmentStarted [] 0) 0)
    ∷ One Host 10002 (Did (Calls (Tick 10002)))
    ∷ transfer Host 10003 first_question 1
    ++ One Equipment 10005 (does (ReceivedMessage first_question))
    ∷ []

abbrev pub received_twice : List Move
received_twice = moves_after repeated []

-- it ends with the same block both times: over all starts the places of last blocks don't always rise
pub record ComesTwice : Type 0 where
  pub no_slip : HasNoSlip (new_line a_plan.times a_plan.times) (deeds_of received_twice)
  pub laws : KeepLaws plans received_twice
  pub before : (run_at Equipment plans received_twice).places_before ≡ 0 ∷ []
  pub now : (run_at Equipment plans received_twice).places ≡ 0 ∷ []

-- ---- a question that is written again after a block of its answer was heard

-- a primary of the equipment, and another answer to the host's question
abbrev pub alarm : Message
alarm = message_with 5 1 5 []

abbrev pub answer : Message
answer = message_with 1 4 1 []

abbrev pub other_answer : Message
other_answer = message_with 1 4 1 (1 ∷ [])

-- the ACK of the question is lost, and its answer heard; the equipment loses its power, and the host asks again for the
-- line
abbrev pub answered : List Scene
answered =
    opening
    ++ One Equipment 3 (does (SentMessage answer))
    ∷ Block Equipment 4 answer 0 1
    ∷ One Host 5 Lost
    ∷ Takes Host 5 (enq ∷ [])
    ∷ One Host 6 (Added enq)
    ∷ Takes Host 6 (enq ∷ [])
    ∷ Takes Equipment 7 (enq ∷ [])
    ∷ Takes Equipment 7 (eot ∷ [])
    ∷ Takes Host 8 (frame_of Equipment answer 1)
    ∷ One Host 8 (does (ReceivedMessage answer))
    ∷ One Equipment 9 (Started (EquipmentStarted [] 0) 0)
    ∷ One Host 9 (Did (Calls (Resume 9)))
    ∷ Takes Equipment 10 (enq ∷ [])
    ∷ []

-- the frame of the question is written once more
abbrev pub written_again : Move
written_again = record { side = Host; moment = 11; kind = Did (Calls (Take eot 11)) }

-- the equipment answers anew, with a block of another message before
abbrev pub answered_anew : List Scene
answered_anew =
    Takes Equipment 12 (frame_of Host first_question 1)
    ∷ One Equipment 12 (does (ReceivedMessage first_question))
    ∷ One Equipment 12 (does (DrewNumber 5))
    ∷ One Equipment 12 (does (SentMessage alarm))
    ∷ One Equipment 12 (does (SentMessage other_answer))
    ∷ Block Equipment 13 alarm 0 1
    ∷ Takes Host 14 (ack ∷ enq ∷ [])
    ∷ Takes Equipment 15 (eot ∷ [])
    ∷ Takes Host 16 (frame_of Equipment alarm 1)
    ∷ One Host 16 (does (ReceivedMessage alarm))
    ∷ Takes Equipment 17 (ack ∷ [])
    ∷ Block Equipment 18 other_answer 1 1
    ∷ transfer Equipment 19 other_answer 1
    ++ One Host 21 (does (ReceivedMessage other_answer))
    ∷ []

abbrev pub before_again : List Move
before_again = moves_after answered []

abbrev pub asked_twice : List Move
asked_twice = moves_after answered_anew (written_again ∷ before_again)

abbrev pub Unless : Bool → Type 0 → Type 0
Unless true law = Unit {0}
Unless false law = law

-- each move keeps its law but the one before which there were so many
abbrev pub KeepLawsBut : ℕ → List Move → Type 0
KeepLawsBut place [] = Unit {0}
KeepLawsBut place (move ∷ before) =
    Unless (place == length before)
    (MayMove (plan_at move.side plans) (seen_at move.side plans before).there.under_way
    (run_at move.side plans before) move.kind)
    × KeepLawsBut place before

-- all laws are kept but the silence after a reply's first block, and the host receives two answers to one question
pub record NeedsSilence : Type 0 where
  pub fits : TimesFit a_plan.times
  pub no_slip : HasNoSlip (new_line a_plan.times a_plan.times) (deeds_of asked_twice)
  pub laws : KeepLawsBut (length before_again) asked_twice
  pub at_host_are : ReceivedBy Host asked_twice (other_answer ∷ alarm ∷ answer ∷ [])
  pub undelivered : Delivered (log_of asked_twice) → ⊥
