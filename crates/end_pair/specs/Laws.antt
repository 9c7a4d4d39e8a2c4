-- What holds of every run.
use Rattle.std.specs.Prelude.{◌≡◌, ◌≢◌, ◌↔◌, ◌⊎◌, ◌≤◌, ◌<◌, ℕ, true, false, List, [], ◌∷◌, ◌++◌, length}
use Rattle.disk_base.specs.declared.cut.CutChoice.{CutChoice}
use Rattle.gl_base.specs.declared.side.Side.{Side}
use Rattle.gl_base.specs.declared.side.Side.TheVariants.{Equipment, Host}
use Rattle.line_order.specs.Acts.{HasNoSlip}
use Rattle.line_order.specs.Line.{new_line}
use Rattle.line_schedule.specs.declared.event.Event.{Event}
use Rattle.line_schedule.specs.declared.event.Event.TheVariants as event
use Rattle.line_way.specs.Ways.{Ways}
use Rattle.message_end.specs.Core.{Step}
use Rattle.message_end.specs.Core.Went.{Spent}
use Rattle.message_end.specs.Doings.{Doing}
use Rattle.message_end.specs.Ends.{Input, IsPassed, Loss, Machine, Reach, passing}
use Rattle.message_end.specs.Ends.Passing.{Cuts, Lacks}
use Rattle.message_end.specs.Log.{log_of}
use Rattle.message_end.specs.Moves.{AreTimely, KeepLaws, LinePlans, Move, deeds_of, plan_at}
use Rattle.message_end.specs.Plan.{EndPlan}
use Rattle.trace_log.specs.Log.{Entry, Happening}
use Rattle.trace_log.specs.Log.Entry.{Ended, Noted, Slipped}
use Rattle.trace_log.specs.declared.commands.HostCommand.{HostCommand}
use Rattle.trace_log.specs.declared.commands.ToolCommand.{ToolCommand}
use Rattle.end_pair.specs.declared.answers.WorldStep.{WorldStep}
use Rattle.end_pair.specs.declared.answers.WorldStep.TheVariants.{JournalFull, NoMemory, NumbersSpent, PowerLost, Slip, Turns, Went}
use Rattle.end_pair.specs.InSteps.{ComeInSteps}
use Rattle.end_pair.specs.Run.{piece_of, went_of, whole_log}
use Rattle.end_pair.specs.Steps.{no_reach, slips, stepped}
use Rattle.end_pair.specs.World.{World, most_steps}

-- the disk of an end goes no further
abbrev pub HasNoReach : {E H : Type 0} → World E H → Type 0
HasNoReach world = (world.reach ≡ no_reach) ⊎ (world.host_reach ≡ no_reach)

-- a run's steps never pass the most of them; and it has no turn left only with all of them made, or where the disk of
-- an end goes no further
abbrev pub RunsAreBounded : Type 0 → Type 0 → Type 0
RunsAreBounded E H =
    (e : Machine E ToolCommand) (h : Machine H HostCommand) (equipment : Step E Happening)
    (host : Step H Happening) (events : List Event)
    → let piece = piece_of e h equipment host events in
    (piece.world.steps ≤ most_steps)
    × (piece.went ≡ Turns → (piece.world.steps ≡ most_steps) ⊎ HasNoReach piece.world)

-- what an end has noted, a slip, and the end of a run
abbrev pub IsNote : Entry → Type 0
IsNote (Noted moment side what) = Unit {0}
IsNote (Slipped moment side frame characters) = ⊥
IsNote (Ended moment) = ⊥

abbrev pub IsSlip : Entry → Type 0
IsSlip (Noted moment side what) = ⊥
IsSlip (Slipped moment side frame characters) = Unit {0}
IsSlip (Ended moment) = ⊥

abbrev pub IsEnd : Entry → Type 0
IsEnd (Noted moment side what) = ⊥
IsEnd (Slipped moment side frame characters) = ⊥
IsEnd (Ended moment) = Unit {0}

-- the newest entry of a log is such a one
abbrev pub OnNewest : (Entry → Type 0) → List Entry → Type 0
OnNewest Such [] = ⊥
OnNewest Such (newest ∷ before) = Such newest

abbrev pub AreNotes : List Entry → Type 0
AreNotes [] = Unit {0}
AreNotes (entry ∷ before) = IsNote entry × AreNotes before

-- all of its entries are notes, but for the newest
abbrev pub AreNotesBefore : List Entry → Type 0
AreNotesBefore [] = Unit {0}
AreNotesBefore (newest ∷ before) = AreNotes before

-- a run is carried out to the end of its schedule, or it ends for a slip, for want of turns, for spent numbers or for a
-- full store of an end's own, and for nothing else; and the newest entry of its log tells whether it was carried out,
-- and whether a slip has ended it
pub record EndsOneWay (went : WorldStep) (log : List Entry) : Type 0 where
  pub how :
      (went ≡ Went) ⊎ ((went ≡ Slip) ⊎ ((went ≡ Turns) ⊎ ((went ≡ NumbersSpent) ⊎ (went ≡ JournalFull))))
  pub whole : went ≡ Went ↔ OnNewest IsEnd log
  pub slip : went ≡ Slip ↔ OnNewest IsSlip log
  pub notes : AreNotesBefore log

-- so does every run, whatever its ends are
abbrev pub RunsEndFiveWays : Type 0 → Type 0 → Type 0
RunsEndFiveWays E H =
    (e : Machine E ToolCommand) (h : Machine H HostCommand) (equipment : Step E Happening)
    (host : Step H Happening) (events : List Event)
    → let piece = piece_of e h equipment host events in
    EndsOneWay piece.went (whole_log piece)

-- no step of an end ends for want of room in a store of its own
abbrev pub NeverLacksRoom : {S C : Type 0} → Machine S C → Type 0
NeverLacksRoom {S} {C} machine = (s : S) (input : Input C) (now : ℕ) → machine.lacks_room s input now ≡ false

-- so no run of two such ends is ended by a full store
abbrev pub NeverFull : Type 0 → Type 0 → Type 0
NeverFull E H =
    (e : Machine E ToolCommand) (h : Machine H HostCommand) (equipment : Step E Happening)
    (host : Step H Happening) (events : List Event)
    → NeverLacksRoom e → NeverLacksRoom h → went_of e h equipment host events ≢ JournalFull

-- it comes to the call of its disk at which its power is to go, and there was room for those before
abbrev pub IsCutShort : {S C : Type 0} → Machine S C → Side → ℕ → Reach → Input C → S → Ways → Type 0
IsCutShort {S} machine side now reach input s ways =
    (slips machine side now input s ways ≡ false)
    × ((loss : Loss S) × (passing reach (machine.losses s input now) ≡ Cuts loss))

-- or to the first call for which its disk has no room, before its power is to go
abbrev pub LacksRoom : {S C : Type 0} → Machine S C → Side → ℕ → Reach → Input C → S → Ways → Type 0
LacksRoom {S} machine side now reach input s ways =
    (slips machine side now input s ways ≡ false)
    × ((loss : Loss S) × (passing reach (machine.losses s input now) ≡ Lacks loss))

-- it ends early where it isn't ended before: no slip goes first, and all its calls of the disk are made
abbrev pub EndsEarly : {S C : Type 0} → Machine S C → Side → ℕ → Reach → Input C → S → Ways → Type 0
EndsEarly {S} machine side now reach input s ways =
    (slips machine side now input s ways ≡ false)
    × (IsPassed (passing reach (machine.losses s input now))
    × ((step : Step S Happening) × (machine.act s input now ≡ Spent step)))

-- a step ends a run for a slip, for a call that its disk has no room for, where there is such a one, for a full store
-- of the end's own and for spent numbers, or an event for a loss of power at the call that is planned, and never else:
-- a slip goes first, and the disk's call before what ends a step early
pub record EndsByCause {S C : Type 0}
    (machine : Machine S C) (side : Side) (now : ℕ) (reach : Reach) (choice : CutChoice) (input : Input C) (s : S)
    (ways : Ways) : Type 0 where
  pub slip :
      (stepped machine side now reach choice input s ways).went ≡ Slip
      ↔ slips machine side now input s ways ≡ true
  pub lost :
      (stepped machine side now reach choice input s ways).went ≡ PowerLost side
      ↔ IsCutShort machine side now reach input s ways
  pub crowded :
      (stepped machine side now reach choice input s ways).went ≡ Turns
      ↔ LacksRoom machine side now reach input s ways
  pub spent :
      (stepped machine side now reach choice input s ways).went ≡ NumbersSpent
      ↔ (EndsEarly machine side now reach input s ways × (machine.lacks_room s input now ≡ false))
  pub full :
      (stepped machine side now reach choice input s ways).went ≡ JournalFull
      ↔ (EndsEarly machine side now reach input s ways × (machine.lacks_room s input now ≡ true))
  pub no_other : (stepped machine side now reach choice input s ways).went ≢ NoMemory
  pub no_other_end :
      (other : Side) → (stepped machine side now reach choice input s ways).went ≡ PowerLost other → other ≡ side

abbrev pub StepsEndByCause : Type 0 → Type 0 → Type 0
StepsEndByCause S C =
    (machine : Machine S C) (side : Side) (now : ℕ) (reach : Reach) (choice : CutChoice) (input : Input C) (s : S)
    (ways : Ways) → EndsByCause machine side now reach choice input s ways

-- an entry that no end has noted
abbrev pub IsNoNote : Entry → Type 0
IsNoNote (Noted moment side what) = ⊥
IsNoNote (Slipped moment side frame characters) = Unit {0}
IsNoNote (Ended moment) = Unit {0}

abbrev pub AreNoNotes : List Entry → Type 0
AreNoNotes [] = Unit {0}
AreNoNotes (entry ∷ before) = IsNoNote entry × AreNoNotes before

-- the log is that of moves of which each end keeps the law, none of them a slip and each T4 drop at its moment, which
-- come step by step; and at most one entry stands behind them, that of a slip or of the end
pub record IsOfMoves {S T : Type 0}
    (equipment : ℕ → List Doing → S → Type 0) (host : ℕ → List Doing → T → Type 0) (plans : LinePlans)
    (log : List Entry) : Type 0 where
  pub moves : List Move
  pub keep : KeepLaws plans moves
  pub timely : AreTimely moves
  pub no_slip : HasNoSlip (new_line plans.equipment.times plans.host.times) (deeds_of moves)
  pub steps : ComeInSteps equipment host plans moves
  pub last : List Entry
  pub at_most_one : length last ≤ 1
  pub no_notes : AreNoNotes last
  pub is : log ≡ last ++ log_of moves

-- the plans of the two ends of one line
pub record AreOnLine (plans : LinePlans) (equipment host : EndPlan) : Type 0 where
  pub equipment_is : equipment ≡ plan_at Equipment plans
  pub host_is : host ≡ plan_at Host plans

-- what becomes of characters are bytes
abbrev pub HasBytes : Event → Type 0
HasBytes (event.Change side place byte) = byte < 256
HasBytes (event.Add side byte) = byte < 256
HasBytes _ = Unit {0}
