-- That an end is given in a run what it takes: bytes of its link, and commands.
use Rattle.std.proofs.Common.{sym, subst, zero, suc, ℕ, Bool, List, [], ◌∷◌, ◌++◌, All, Option, Some, None}
use Rattle.std.proofs.lemmas.List.Elements.{All-cons, All-drop, All-head, All-nil, All-tail, All-take}
use Rattle.gl_base.specs.Events.{moment_after}
use Rattle.gl_base.specs.declared.link.LinkIn.{LinkIn}
use Rattle.gl_base.specs.declared.link.LinkIn.TheVariants as link
use Rattle.gl_base.specs.declared.side.Side.{Side}
use Rattle.line_schedule.specs.declared.script.ScriptStep.{ScriptStep}
use Rattle.message_end.specs.Core.{Step, Went}
use Rattle.message_end.specs.Core.Went.{Goes, Spent}
use Rattle.message_end.specs.Course.{Meeting}
use Rattle.message_end.specs.Course.Meeting.{Acts, Breaks, Fills, LosesPower, Restarts, Writes}
use Rattle.message_end.specs.Ends.{Asked, Input, Machine, MayTake}
use Rattle.message_end.specs.Ends.Input.{Char, Command, Time}
use Rattle.trace_log.specs.Log.{Happening}
use Rattle.end_run.specs.Commands.{Commands, IsTaken, MayTell, Telling}
use Rattle.end_run.specs.Commands.Telling.{IsOther, Says, Stops, Tells}
use Rattle.end_run.specs.Pieces.{Piece, and_more, and_on}
use Rattle.end_run.specs.Run.{begun, commanded_run, polled, turned, upon}
use Rattle.end_run.specs.Script.{AreTold, ScriptLine, by_script, due_count, due_lines, told_by}
use Rattle.end_run.specs.Steps.{all_told, answered, made, replied, started, step_at, stepped, tells}
use Rattle.end_run.specs.declared.ending.Ending.{Ending}
use Rattle.link_courses.specs.Courses.{met_by}
use Rattle.link_courses.specs.Lawful.{GiveBytes}
use Rattle.link_courses.proofs.Lists.{met-both}

-- a step of this input, or what it has written
abbrev pub IsGiven : {C : Type 0} → (C → Type 0) → Meeting C → Type 0
IsGiven takes (Acts input now) = MayTake takes input
IsGiven takes (Writes characters) = Unit {0}
IsGiven takes (Restarts now) = ⊥
IsGiven takes LosesPower = ⊥
IsGiven takes (Breaks input now call choice) = ⊥
IsGiven takes (Fills input now call) = ⊥

abbrev pub AreGiven : {C : Type 0} → (C → Type 0) → List (Meeting C) → Type 0
AreGiven takes [] = Unit {0}
AreGiven takes (meeting ∷ before) = IsGiven takes meeting × AreGiven takes before

given-both : {C : Type 0} (takes : C → Type 0) (newer older : List (Meeting C)) → AreGiven takes newer
    → AreGiven takes older → AreGiven takes (newer ++ older)
given-both takes [] older one two = two
given-both takes (meeting ∷ newer) older one two = (one.0, given-both takes newer older one.1 two)

-- ---- what commands it

-- what may come of what commands an end is what it takes
pub record BringsTaken {Q C : Type 0} (commands : Commands Q C) (takes : C → Type 0) (May : Q → Type 0) : Type 0 where
  pub come : (now : ℕ) (coming : Q) → May coming → All (IsTaken takes) (commands.come now coming)
  pub later : (now : ℕ) (coming : Q) → May coming → May (commands.later now coming)

-- so it is with a script whose lines tell what the end takes
module _ {C : Type 0} (told : ScriptStep → Telling C) (takes : C → Type 0) where
  abbrev MayLine : ScriptLine → Type 0
  MayLine line = MayTell takes (told line.1)

  is-taken : (telling : Telling C) → MayTell takes telling → IsTaken takes telling
  is-taken (Tells command reply) may = may.0
  is-taken (Says text) may = absurd may
  is-taken Stops may = tt
  is-taken IsOther may = absurd may

  told-taken : (lines : List ScriptLine) → AreTold told takes lines → All (IsTaken takes) (told_by told lines)
  told-taken [] may = All-nil (IsTaken takes)
  told-taken (line ∷ lines) may =
      All-cons (IsTaken takes) (told line.1) (told_by told lines)
      (is-taken (told line.1) (All-head MayLine line lines may)) (told-taken lines (All-tail MayLine line lines may))

  pub script-brings : BringsTaken (by_script told) takes (AreTold told takes)
  script-brings = record {
    come = λ now lines may.
        told-taken (due_lines now lines) (All-take MayLine (due_count now lines) lines may);
    later = λ now lines may. All-drop MayLine (due_count now lines) lines may;
  }

-- ---- a run

module _ {S C Q : Type 0} (machine : Machine S C) (due : S → Option ℕ) (commands : Commands Q C) (side : Side)
    (takes : C → Type 0) (May : Q → Type 0) (brings : BringsTaken commands takes May) where
  abbrev MayMeet : Piece S C → Type 0
  MayMeet piece = AreGiven takes (met_by piece.acts)

  more-given : (first : Piece S C) (more : S → Piece S C) → MayMeet first → ((s : S) → MayMeet (more s))
      → MayMeet (and_more first more)
  more-given first more one two = go first.ended
    where
      go : (ended : Option Ending) → MayMeet (and_on ended first more)
      go (Some how) = one
      go None =
          subst (AreGiven takes) (sym (met-both first.acts (more first.end).acts))
          (given-both takes (met_by (more first.end).acts) (met_by first.acts) (two first.end) one)

  made-given :
      (now : ℕ) (input : Input C) (s : S) (stops : List (List Happening)) (asked : Asked) (lacks_room : Bool)
      (reply : List ℕ) (went : Went S Happening)
      → MayTake takes input → MayMeet (made (step_at side now input s) stops asked lacks_room reply went)
  made-given now input s stops asked lacks_room reply (Spent step) may = (may, tt)
  made-given now input s stops asked lacks_room reply (Goes step) may = go step.written
    where
      go : (written : List ℕ)
          → MayMeet
          (made (step_at side now input s) stops asked lacks_room reply
          (Goes (record { next = step.next; notes = step.notes; written = written })))
      go [] = (may, tt)
      go (byte ∷ bytes) = (tt, (may, tt))

  replied-given : (reply : List ℕ) (now : ℕ) (input : Input C) → MayTake takes input → (s : S)
      → MayMeet (replied machine side reply now input s)
  replied-given reply now input may s =
      made-given now input s (machine.stops s input now) (machine.asks s input now) (machine.lacks_room s input now)
      reply (machine.act s input now) may

  step-given : (now : ℕ) (input : Input C) → MayTake takes input → (s : S)
      → MayMeet (stepped machine side now input s)
  step-given = replied-given []

  tell-given : (now : ℕ) (telling : Telling C) → IsTaken takes telling → (s : S)
      → MayMeet (tells machine side now telling s)
  tell-given now (Tells command reply) may s = replied-given reply now (Command command) may s
  tell-given now (Says text) may s = tt
  tell-given now Stops may s = tt
  tell-given now IsOther may s = tt

  told-given : (now : ℕ) (tellings : List (Telling C)) → All (IsTaken takes) tellings → (s : S)
      → MayMeet (all_told machine side now tellings s)
  told-given now [] may s = tt
  told-given now (telling ∷ tellings) may s =
      more-given (tells machine side now telling s) (all_told machine side now tellings)
      (tell-given now telling (All-head (IsTaken takes) telling tellings may) s)
      (told-given now tellings (All-tail (IsTaken takes) telling tellings may))

  answered-given :
      (now : ℕ) (coming : Q) (input : Input C) → May coming → MayTake takes input → (s : S)
      → MayMeet (answered machine side now (commands.come now coming) input s)
  answered-given now coming input may takes-it s =
      more-given (all_told machine side now (commands.come now coming) s) (stepped machine side now input)
      (told-given now (commands.come now coming) (brings.come now coming may) s) (step-given now input takes-it)

  turned-given :
      (coming : Q) (before : ℕ) (answer : LinkIn) (answers : List LinkIn)
      → May coming → GiveBytes (answer ∷ answers) → (s : S)
      → MayMeet (turned machine due commands side coming before answer s)
  turned-given coming before (link.Char byte now) answers may bytes s =
      given-both takes (met_by (upon machine due commands side coming before (link.Char byte now) s).acts) []
      (answered-given now coming (Char byte) may bytes.0 s) tt
  turned-given coming before (link.Quiet now) answers may bytes s =
      given-both takes (met_by (upon machine due commands side coming before (link.Quiet now) s).acts) []
      (answered-given now coming Time may tt s) tt
  turned-given coming before link.Closed answers may bytes s = tt
  turned-given coming before link.Failed answers may bytes s = tt

  polled-given :
      (n : ℕ) (coming : Q) (before : ℕ) (answers : List LinkIn) → May coming
      → GiveBytes answers → (s : S) → MayMeet (polled machine due commands side n coming before answers s)
  polled-given zero coming before answers may bytes s = tt
  polled-given (suc n) coming before [] may bytes s = tt
  polled-given (suc n) coming before (answer ∷ answers) may bytes s =
      let now = moment_after before answer in
      more-given (turned machine due commands side coming before answer s)
      (polled machine due commands side n (commands.later now coming) now answers)
      (turned-given coming before answer answers may bytes s)
      (polled-given n (commands.later now coming) now answers (brings.later now coming may) bytes.1)

  pub run-given :
      (start : Step S Happening) (coming : Q) (polls : ℕ) (answers : List LinkIn)
      → May coming → GiveBytes answers
      → AreGiven takes (met_by (commanded_run machine due commands side start coming polls answers).acts)
  run-given start coming polls answers may bytes =
      more-given (begun machine side start) (polled machine due commands side polls coming 0 answers)
      (more-given (started {C = C} side start) (stepped machine side 0 Time) tt
      (step-given 0 Time tt))
      (polled-given polls coming 0 answers may bytes)
