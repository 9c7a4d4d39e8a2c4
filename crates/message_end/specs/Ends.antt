-- What an end of the line is to those above: what it is given in a step, what it makes of that, and the law that it
-- keeps.
use Rattle.std.specs.Prelude.{◌≡◌, ◌≢◌, ◌⊎◌, ◌+◌, ◌-◌, ◌<◌, ◌≤◌, ◌==◌, ◌||◌, nat_lt, zero, suc, ℕ, Bool, true, false, List, [], ◌∷◌, ◌++◌}
use Rattle.std.specs.Prelude.{Option, None, Result, Ok, Err, if◌then◌else◌}
use Rattle.std.specs.List.{filter_map, slice_get}
use Rattle.disk_base.specs.declared.cut.CutChoice.{CutChoice}
use Rattle.line_end.specs.Plan.{LinePlanFits}
use Rattle.line_end.specs.State.{LineState}
use Rattle.line_end.specs.Step.{LineCall}
use Rattle.line_end.specs.Step.LineCall.{Cancel, Resume, Send, Take, Tick}
use Rattle.message_flow.specs.declared.step.NodeInput.{NodeInput}
use Rattle.message_flow.specs.declared.step.NodeInput.TheVariants as given
use Rattle.message_flow.specs.declared.step.Note.{Note}
use Rattle.message_flow.specs.declared.step.StepOut.{StepOut}
use Rattle.trace_log.specs.Log.{Happening}
use Rattle.trace_log.specs.Log.Happening.{Power, Wrote}
use Rattle.trace_log.specs.Text.{printed_note}
use Rattle.message_end.specs.declared.end.Stop.{Stop}
use Rattle.message_end.specs.declared.end.Stop.TheVariants as stop
use Rattle.message_end.specs.Core.{Step, Went, step_in}
use Rattle.message_end.specs.Core.Went.{Goes, Spent}
use Rattle.message_end.specs.Doings.{AreLawful, Doing, line_of, own_of}
use Rattle.message_end.specs.Doings.Doing.{Says}
use Rattle.message_end.specs.Drops.{AreDroppedAt}
use Rattle.message_end.specs.History.{noted_in, written_in}
use Rattle.message_end.specs.InStep.{AreOfOneStep, EndsOnce, HasNoEnd, NoneEnds, ReplyInTheirSteps}
use Rattle.message_end.specs.LineCalls.{calls_in}
use Rattle.message_end.specs.Own.{Has, drawn_in, whole_in}
use Rattle.message_end.specs.Plan.{EndPlan}
use Rattle.message_end.specs.Starts.{AreOfStart, IsStartOf}

-- what an end is given in a step: a character, time, or a command of its own side
pub data Input (C : Type 0) : Type 0 where
  Char : (byte : ℕ) → Input C
  Time : Input C
  Command : (command : C) → Input C

-- how many calls of a disk, and how many bytes that these write
pub record Asked : Type 0 where
  pub calls : ℕ
  pub bytes : ℕ

abbrev pub none_asked : Asked
none_asked = record { calls = 0; bytes = 0 }

abbrev pub asked_both : Asked → Asked → Asked
asked_both one two = record { calls = one.calls + two.calls; bytes = one.bytes + two.bytes }

-- a call of an end's disk at which its power may be lost, or for which there may be no room: how many bytes it writes,
-- what is noted by then, and, by what becomes of the bytes that are written and not settled, what is left for a start
-- anew
pub record Loss (S : Type 0) : Type 0 where
  pub bytes : ℕ
  pub front : List Happening
  pub left : CutChoice → S

-- what an end makes of its state in a step at a moment, and when it starts anew without power; and its line. A step
-- that ends early lacks room in the end's own store, or else numbers: so a step that goes on is never asked what it
-- lacks. Its disk may stop a step, or a start, with these notes: one list for each piece of work that it asks of the
-- disk, in their order; and all of them ask so much of it. A step may be stopped, or its power lost, at each call of
-- the disk, in their order; and so much has been asked of the disk behind a first start, which finds the file made, and
-- behind a start anew, which has taken it up
pub record Machine (S C : Type 0) : Type 0 where
  pub act : S → Input C → ℕ → Went S Happening
  pub restart : S → ℕ → Went S Happening
  pub line : S → LineState
  pub lacks_room : S → Input C → ℕ → Bool
  pub stops : S → Input C → ℕ → List (List Happening)
  pub start_stops : List (List Happening)
  pub asks : S → Input C → ℕ → Asked
  pub start_asks : Asked
  pub losses : S → Input C → ℕ → List (Loss S)
  pub first_use : S → Asked
  pub anew_use : S → Asked

-- the characters that a step has written are noted last, where there are any
abbrev pub wrote : List ℕ → List Happening
wrote [] = []
wrote (byte ∷ bytes) = Wrote (byte ∷ bytes) ∷ []

-- ---- how far a disk goes

-- an end's disk has room for so many calls since its file was made, or power was lost, and for so many bytes that these
-- write (this profile)
abbrev pub most_asked : Asked
most_asked = record { calls = 65536; bytes = 67108864 }

-- the room that is left of some behind what was asked
abbrev pub room_behind : Asked → Asked → Asked
room_behind room asked = record { calls = room.calls - asked.calls; bytes = room.bytes - asked.bytes }

-- how many calls are left up to the one at which an end's power is to go, itself counted, 0 for none; and the room that
-- its disk has
pub record Reach : Type 0 where
  pub cut : ℕ
  pub room : Asked

-- behind a start, and where a call is planned
abbrev pub reach_behind : Asked → Reach
reach_behind asked = record { cut = 0; room = room_behind most_asked asked }

abbrev pub with_cut : ℕ → Reach → Reach
with_cut call reach = record { cut = call; room = reach.room }

-- there is no room for a call that writes n bytes
abbrev pub lacks : Asked → ℕ → Bool
lacks room n = room.calls == 0 || nat_lt room.bytes n

abbrev pub past_call : ℕ → Reach → Reach
past_call n reach =
    record { cut = reach.cut - 1; room = room_behind reach.room (record { calls = 1; bytes = n }) }

-- how far the calls of a step come: all are made; or its power goes at one; or there is no room for one
pub data Passing (S : Type 0) : Type 0 where
  Passes : (left : Reach) → Passing S
  Cuts : (loss : Loss S) → Passing S
  Lacks : (loss : Loss S) → Passing S

-- the first call that is planned, or finds no room, decides; where one call is both, its power goes
abbrev pub passing : {S : Type 0} → Reach → List (Loss S) → Passing S
passing reach [] = Passes reach
passing reach (loss ∷ losses) =
    if reach.cut == 1 then Cuts loss
    else if lacks reach.room loss.bytes then Lacks loss
    else passing (past_call loss.bytes reach) losses

-- the one at a call, which are counted from 1; none at 0
abbrev pub call_of : {X : Type 0} → ℕ → List X → Option X
call_of zero calls = None
call_of (suc before) calls = slice_get calls before

-- ---- what the code is given, and what it gives

abbrev pub input_of : {C : Type 0} → NodeInput C → Input C
input_of (given.Char byte) = Char byte
input_of given.Time = Time
input_of (given.Command command) = Command command.now

-- a character is a byte, and a command one that the end takes
abbrev pub MayTake : {C : Type 0} → (C → Type 0) → Input C → Type 0
MayTake takes (Char byte) = byte < 256
MayTake takes Time = Unit {0}
MayTake takes (Command command) = takes command

-- the output of a call is empty when it begins
pub record IsEmpty (out : StepOut) : Type 0 where
  pub line : out.line.items ≡ []
  pub notes : out.notes ≡ []

-- the lines of what was noted, the oldest first
abbrev pub printed : List Happening → List Note
printed = filter_map printed_note

-- what a step has come to, its notes and its characters
pub record HasGone {S : Type 0} (went : Went S Happening) (next : S) (out : StepOut) : Type 0 where
  pub step : Step S Happening
  pub is : went ≡ Goes step
  pub next_is : step.next ≡ next
  pub notes : out.notes ≡ printed step.notes
  pub written : out.line.items ≡ step.written

-- it has ended early: what was noted is there, and nothing is sent
pub record HasSpent {S : Type 0} (went : Went S Happening) (out : StepOut) : Type 0 where
  pub step : Step S Happening
  pub is : went ≡ Spent step
  pub notes : out.notes ≡ printed step.notes
  pub quiet : out.line.items ≡ []

-- these notes are the first ones of those
pub record IsFront (front notes : List Happening) : Type 0 where
  pub rest : List Happening
  pub whole : notes ≡ front ++ rest

-- its disk has stopped it with some of these notes, which are its first ones: they are there, and nothing is sent
pub record HasStopped {S : Type 0} (fronts : List (List Happening)) (went : Went S Happening) (out : StepOut)
    : Type 0 where
  pub front : List Happening
  pub may : Has fronts front
  pub first : IsFront front (step_in went).notes
  pub notes : out.notes ≡ printed front
  pub quiet : out.line.items ≡ []

-- a step goes on, or ends early, for want of room or of numbers, or the disk stops it with some of these notes. Where
-- memory runs out nothing is sent, and no more is said
abbrev pub Leaves :
    {S : Type 0} → List (List Happening) → Bool → Went S Happening → S → StepOut → Result (Unit {0}) Stop → Type 0
Leaves fronts lacks_room went next out (Ok done) = HasGone went next out
Leaves fronts lacks_room went next out (Err stop.NumbersSpent) = HasSpent went out × (lacks_room ≡ false)
Leaves fronts lacks_room went next out (Err stop.Full) = HasSpent went out × (lacks_room ≡ true)
Leaves fronts lacks_room went next out (Err stop.DiskFailed) = HasStopped fronts went out
Leaves fronts lacks_room went next out (Err stop.NoMemory) = out.line.items ≡ []

-- the same of a first start, which gives an end and needs no room
abbrev pub Starts :
    {E S : Type 0} → List (List Happening) → Went S Happening → (E → S) → StepOut → Result E Stop → Type 0
Starts fronts went means out (Ok end) = HasGone went (means end) out
Starts fronts went means out (Err stop.NumbersSpent) = HasSpent went out
Starts fronts went means out (Err stop.Full) = ⊥
Starts fronts went means out (Err stop.DiskFailed) = HasStopped fronts went out
Starts fronts went means out (Err stop.NoMemory) = out.line.items ≡ []

-- ---- what a disk has room for

-- of this room at least so much is left as wasn't asked
pub record IsLeft (room asked left : Asked) : Type 0 where
  pub calls : room.calls ≤ left.calls + asked.calls
  pub bytes : room.bytes ≤ left.bytes + asked.bytes

-- there is no room for so much
abbrev pub IsShort : Asked → Asked → Type 0
IsShort room asked = (room.calls < asked.calls) ⊎ (room.bytes < asked.bytes)

-- what asks for so much uses up no more, and its disk stops it only where there is no room for that
abbrev pub Uses : Asked → Asked → Asked → Result (Unit {0}) Stop → Type 0
Uses room asked left (Ok done) = IsLeft room asked left
Uses room asked left (Err stop.DiskFailed) = IsShort room asked
Uses room asked left (Err stop.NumbersSpent) = Unit {0}
Uses room asked left (Err stop.Full) = Unit {0}
Uses room asked left (Err stop.NoMemory) = Unit {0}

-- ---- where its disk stops it

-- no start is stopped by a disk: where that has no room for it, memory has run out
abbrev pub IsNotStopped : {R : Type 0} → Result R Stop → Type 0
IsNotStopped (Ok done) = Unit {0}
IsNotStopped (Err stop.NumbersSpent) = Unit {0}
IsNotStopped (Err stop.Full) = Unit {0}
IsNotStopped (Err stop.DiskFailed) = ⊥
IsNotStopped (Err stop.NoMemory) = Unit {0}

-- all calls of a step were made
abbrev pub IsPassed : {S : Type 0} → Passing S → Type 0
IsPassed (Passes left) = Unit {0}
IsPassed (Cuts loss) = ⊥
IsPassed (Lacks loss) = ⊥

-- its power has gone at one of them: what was noted by then is noted, and a start anew comes to what the loss says
pub record HasLost {S C : Type 0}
    (machine : Machine S C) (passed : Passing S) (anew : CutChoice → ℕ → Went S Happening) (out : StepOut) : Type 0
  where
    pub loss : Loss S
    pub is : passed ≡ Cuts loss
    pub notes : out.notes ≡ printed loss.front
    pub starts : (choice : CutChoice) (now : ℕ) → anew choice now ≡ machine.restart (loss.left choice) now

-- there was no room for one of them: what was noted by then is noted
pub record HasLacked {S : Type 0} (passed : Passing S) (out : StepOut) : Type 0 where
  pub loss : Loss S
  pub is : passed ≡ Lacks loss
  pub notes : out.notes ≡ printed loss.front

abbrev pub HasStoppedAt :
    {S C : Type 0} → Machine S C → Passing S → Bool → (CutChoice → ℕ → Went S Happening) → StepOut → Type 0
HasStoppedAt machine passed true anew out = HasLost machine passed anew out
HasStoppedAt machine passed false anew out = HasLacked passed out

-- a step goes on, or ends early, where all its calls are made; its disk stops it where its power is lost at one of
-- them, and then the disk has stopped, or where there is no room for one
abbrev pub EndsBy :
    {S C : Type 0} → Machine S C → List (Loss S) → (before after : Reach) → Bool → (CutChoice → ℕ → Went S Happening)
    → StepOut → Result (Unit {0}) Stop → Type 0
EndsBy machine losses before after stopped anew out (Ok done) =
    (passing before losses ≡ Passes after) × (stopped ≡ false)
EndsBy machine losses before after stopped anew out (Err stop.DiskFailed) =
    HasStoppedAt machine (passing before losses) stopped anew out
EndsBy machine losses before after stopped anew out (Err stop.NumbersSpent) = IsPassed (passing before losses)
EndsBy machine losses before after stopped anew out (Err stop.Full) = IsPassed (passing before losses)
EndsBy machine losses before after stopped anew out (Err stop.NoMemory) = Unit {0}

-- there are numbers to start with
abbrev pub Opens : {S : Type 0} → Went S Happening → Type 0
Opens (Goes step) = Unit {0}
Opens (Spent step) = ⊥

-- ---- the law

-- a call on which an end decides at a moment, behind the timer and the character
abbrev pub IsDecidedAt : ℕ → LineCall → Type 0
IsDecidedAt now (Send block at) = at ≡ now
IsDecidedAt now (Resume at) = at ≡ now
IsDecidedAt now Cancel = Unit {0}
IsDecidedAt now (Take byte at) = ⊥
IsDecidedAt now (Tick at) = ⊥

abbrev pub AreDecidedAt : ℕ → List LineCall → Type 0
AreDecidedAt now [] = Unit {0}
AreDecidedAt now (call ∷ before) = IsDecidedAt now call × AreDecidedAt now before

-- the timer, and behind it the character where one is given
abbrev pub taking_calls : {C : Type 0} → Input C → ℕ → List LineCall
taking_calls (Char byte) now = Take byte now ∷ Tick now ∷ []
taking_calls Time now = Tick now ∷ []
taking_calls (Command command) now = Tick now ∷ []

-- the calls of one step are these, and then decisions (this profile)
pub record AreOfStep {C : Type 0} (input : Input C) (now : ℕ) (calls : List LineCall) : Type 0 where
  pub decided : List LineCall
  pub are : calls ≡ decided ++ taking_calls input now
  pub decisions : AreDecidedAt now decided

-- they are the first ones of a step
pub record AreBegunOf {C : Type 0} (input : Input C) (now : ℕ) (calls : List LineCall) : Type 0 where
  pub later : List LineCall
  pub whole : AreOfStep input now (later ++ calls)

-- an end that these doings have made what it is does some more at a moment, with calls of the line that are such, and
-- with a step's end, or with none
pub record DoesMore {S : Type 0}
    (plan : EndPlan) (did : ℕ → List Doing → S → Type 0) (base : ℕ) (doings : List Doing) (now : ℕ)
    (Such : List LineCall → Type 0) (Ends : List Doing → Type 0) (step : Step S Happening) : Type 0 where
  pub done : List Doing
  pub is : did base (done ++ doings) step.next
  pub notes : noted_in (done ++ doings) ≡ noted_in doings ++ step.notes
  pub written : written_in plan (done ++ doings) ≡ written_in plan doings ++ step.written
  pub calls : Such (calls_in done)
  pub drops : AreDroppedAt now done
  pub ends : Ends done

-- all of a step, with its end last; or what was done until it ended early, and then no step has ended
abbrev pub DoesStep :
    {S C : Type 0} → EndPlan → (ℕ → List Doing → S → Type 0) → ℕ → List Doing → Input C → ℕ
    → Went S Happening → Type 0
DoesStep plan did base doings input now (Goes step) =
    DoesMore plan did base doings now (AreOfStep input now) EndsOnce step
DoesStep plan did base doings input now (Spent step) =
    DoesMore plan did base doings now (AreBegunOf input now) HasNoEnd step

-- a start: the end may draw numbers from a base on, notes the start, and behind that nothing, or what it does with its
-- setup; and it has done nothing else
pub record HasStarted {S : Type 0}
    (plan : EndPlan) (did : ℕ → List Doing → S → Type 0) (least : ℕ) (step : Step S Happening) : Type 0 where
  pub base : ℕ
  pub note : Happening
  pub said : List Doing
  pub is : did base said step.next
  pub above : least ≤ base
  pub of_side : IsStartOf plan.side note base
  pub of_start : AreOfStart said
  pub notes : step.notes ≡ note ∷ noted_in said
  pub written : step.written ≡ []

-- it draws no number again that was drawn in the start before
pub record HasRestarted {S : Type 0}
    (plan : EndPlan) (did : ℕ → List Doing → S → Type 0) (base : ℕ) (doings : List Doing) (step : Step S Happening)
    : Type 0 where
  pub least : ℕ
  pub no_lower : base ≤ least
  pub above : (drawn : ℕ) → Has (drawn_in (own_of plan doings)) drawn → drawn < least
  pub started : HasStarted plan did least step

-- where there are no more numbers an end doesn't start, and notes nothing
abbrev pub OnStart : {S : Type 0} → (Step S Happening → Type 0) → Went S Happening → Type 0
OnStart P (Goes step) = P step
OnStart P (Spent step) = step.notes ≡ []

-- these doings keep the law of histories, with each reply in the step of its primary, and have made of the line what it
-- is; no message that is whole is left to be received
pub record IsMadeOf (plan : EndPlan) (base : ℕ) (doings : List Doing) (line : LineState) : Type 0 where
  pub lawful : AreLawful plan base doings
  pub line_is : line ≡ line_of plan doings
  pub received : whole_in (own_of plan doings) ≡ None
  pub replies : ReplyInTheirSteps plan doings

-- what the world itself notes of an end
pub data IsOfWorld : Happening → Type 0 where
  of_wrote : (characters : List ℕ) → IsOfWorld (Wrote characters)
  of_power : IsOfWorld Power

-- the first ones of the doings of a step keep the law, with exactly these notes and the first calls of its line, and
-- the end could have gone on from there to some state
pub record GoesSoFar {S C : Type 0}
    (plan : EndPlan) (did : ℕ → List Doing → S → Type 0) (base : ℕ) (doings : List Doing) (input : Input C) (now : ℕ)
    (front : List Happening) : Type 0 where
  pub later : List Doing
  pub done : List Doing
  pub next : S
  pub could : did base (later ++ (done ++ doings)) next
  pub lawful : AreLawful plan base (done ++ doings)
  pub notes : noted_in (done ++ doings) ≡ noted_in doings ++ front
  pub calls : AreBegunOf input now (calls_in done)
  pub drops : AreDroppedAt now done
  -- no message that is whole is left to be received: so the world may note the loss behind it
  pub received : whole_in (own_of plan (done ++ doings)) ≡ None
  -- all of the step may have been done by then, but no more
  pub one : AreOfOneStep done

-- and the step hasn't come to its end, and what starts anew behind them draws no number again that was drawn by then
pub record LosesAt {S C : Type 0}
    (plan : EndPlan) (did : ℕ → List Doing → S → Type 0) (base : ℕ) (doings : List Doing) (input : Input C) (now : ℕ)
    (front : List Happening) (anew : Went S Happening) : Type 0 where
  pub so_far : GoesSoFar plan did base doings input now front
  pub unended : NoneEnds front
  pub starts : OnStart (HasRestarted plan did base (so_far.done ++ doings)) anew

-- the law of an end, where `did base doings s` says that these doings since a start, which may draw numbers from the
-- base on, have made the state s: whatever it is given, it keeps the law of histories (this profile)
pub record KeepsLaw {S C : Type 0}
    (plan : EndPlan) (did : ℕ → List Doing → S → Type 0) (takes : C → Type 0) (start : Went S Happening)
    (machine : Machine S C) : Type 0 where
  pub fits : LinePlanFits plan.line
  pub starts : OnStart (HasStarted plan did 0) start
  -- the first step of the first start has numbers to draw
  pub begins :
      (first step : Step S Happening) → start ≡ Goes first → machine.act first.next Time 0 ≢ Spent step
  pub keeps : (base : ℕ) (doings : List Doing) (s : S) → did base doings s → IsMadeOf plan base doings (machine.line s)
  pub goes_on :
      (base : ℕ) (doings : List Doing) (s : S) (input : Input C) (now : ℕ) → did base doings s → MayTake takes input
      → DoesStep plan did base doings input now (machine.act s input now)
  -- where its disk stops a step, what was noted are the first notes of the step
  pub stops :
      (base : ℕ) (doings : List Doing) (s : S) (input : Input C) (now : ℕ) → did base doings s → MayTake takes input
      → (front : List Happening) → Has (machine.stops s input now) front
      → IsFront front (step_in (machine.act s input now)).notes
  -- and it hasn't come to its end
  pub unended :
      (base : ℕ) (doings : List Doing) (s : S) (input : Input C) (now : ℕ) → did base doings s → MayTake takes input
      → (front : List Happening) → Has (machine.stops s input now) front → NoneEnds front
  -- the world notes some of what becomes of it
  pub says :
      (base : ℕ) (doings : List Doing) (s : S) (what : Happening) → did base doings s → IsOfWorld what
      → did base (Says what ∷ doings) s
  pub restarts :
      (base : ℕ) (doings : List Doing) (s : S) (now : ℕ) → did base doings s
      → OnStart (HasRestarted plan did base doings) (machine.restart s now)
  -- wherever its power is lost in a step, and whatever is left then, it has done what was noted by then, and no more,
  -- and starts anew lawfully
  pub loses :
      (base : ℕ) (doings : List Doing) (s : S) (input : Input C) (now : ℕ) → did base doings s → MayTake takes input
      → (loss : Loss S) → Has (machine.losses s input now) loss → (choice : CutChoice)
      → LosesAt plan did base doings input now loss.front (machine.restart (loss.left choice) now)
