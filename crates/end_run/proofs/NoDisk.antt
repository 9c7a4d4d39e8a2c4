-- A run of an end that no disk may stop doesn't end so.
use Rattle.std.proofs.Common.{◌≡◌, zero, suc, ℕ, Bool, List, [], ◌∷◌, ◌++◌, map, Option, Some, None, ap, subst}
use Rattle.gl_base.specs.Events.{moment_after}
use Rattle.gl_base.specs.declared.link.LinkIn.{LinkIn}
use Rattle.gl_base.specs.declared.link.LinkIn.TheVariants as link
use Rattle.gl_base.specs.declared.side.Side.{Side}
use Rattle.message_end.specs.Core.{Step, Went}
use Rattle.message_end.specs.Core.Went.{Goes, Spent}
use Rattle.message_end.specs.Ends.{Asked, Input, Machine}
use Rattle.message_end.specs.Ends.Input.{Char, Command, Time}
use Rattle.message_end.specs.Own.{Has}
use Rattle.trace_log.specs.Log.{Entry, Happening}
use Rattle.end_run.specs.declared.ending.Ending.{Ending}
use Rattle.end_run.specs.declared.ending.Ending.TheVariants as ending
use Rattle.end_run.specs.Acts.{Act, StepAt}
use Rattle.end_run.specs.Acts.Act.{Connects, Polls, Sends, Stands, Writes}
use Rattle.end_run.specs.Commands.{Commands, Telling}
use Rattle.end_run.specs.Commands.Telling.{IsOther, Says, Stops, Tells}
use Rattle.end_run.specs.Outcome.{DiskFails, RunsOver}
use Rattle.end_run.specs.Pieces.{Piece, and_more, and_on}
use Rattle.end_run.specs.Run.{begun, commanded_run, polled, turned, upon}
use Rattle.end_run.specs.Scenes.{Scene}
use Rattle.end_run.specs.Steps.{all_told, answered, entries_at, made, replied, sends, started, step_at, stepped, tells}

-- its machine lists nothing at which a disk may stop it
abbrev pub StopsNowhere : {S C : Type 0} → Machine S C → Type 0
StopsNowhere {S} {C} machine =
    (s : S) (input : Input C) (now : ℕ) → machine.stops s input now ≡ []

-- no step among these acts may be stopped
abbrev GoOn : {S C : Type 0} → List (Act S C) → Type 0
GoOn [] = Unit {0}
GoOn (Stands at stops asked end ∷ acts) = (stops ≡ []) × GoOn acts
GoOn (Connects ∷ acts) = GoOn acts
GoOn (Polls until answer early ∷ acts) = GoOn acts
GoOn (Writes entries text ∷ acts) = GoOn acts
GoOn (Sends characters ∷ acts) = GoOn acts

go-both : {S C : Type 0} (first second : List (Act S C)) → GoOn first → GoOn second → GoOn (first ++ second)
go-both [] second one two = two
go-both (Stands at stops asked end ∷ first) second one two = (one.0, go-both first second one.1 two)
go-both (Connects ∷ first) second one two = go-both first second one two
go-both (Polls until answer early ∷ first) second one two = go-both first second one two
go-both (Writes entries text ∷ first) second one two = go-both first second one two
go-both (Sends characters ∷ first) second one two = go-both first second one two

go-behind : {S C : Type 0} (first second : List (Act S C)) → GoOn (first ++ second) → GoOn second
go-behind [] second all = all
go-behind (Stands at stops asked end ∷ first) second all = go-behind first second all.1
go-behind (Connects ∷ first) second all = go-behind first second all
go-behind (Polls until answer early ∷ first) second all = go-behind first second all
go-behind (Writes entries text ∷ first) second all = go-behind first second all
go-behind (Sends characters ∷ first) second all = go-behind first second all

never : {S C : Type 0} (a b : Scene S C) (acts : List (Act S C)) → GoOn acts → DiskFails a b acts → ⊥
never {S} {C} a b acts on fails =
    let all = subst (λ (acts : List (Act S C)). GoOn acts) fails.whole on in
    let none = go-behind fails.done _ all in
    subst (λ (stops : List (List Entry)). Has stops fails.entries) none.0 fails.may

module _ {S C Q : Type 0} (machine : Machine S C) (due : S → Option ℕ) (commands : Commands Q C) (side : Side)
    (nowhere : StopsNowhere machine) where
  sends-on : (characters : List ℕ) → GoOn (sends {S = S} {C = C} characters)
  sends-on [] = tt
  sends-on (byte ∷ bytes) = tt

  made-on : (at : StepAt S C) (stops : List (List Happening)) (asked : Asked) (lacks_room : Bool) (reply : List ℕ)
      (went : Went S Happening) → stops ≡ [] → GoOn (made at stops asked lacks_room reply went).acts
  made-on at stops asked lacks_room reply (Goes step) none =
      (ap (map (entries_at at.side at.moment)) none, sends-on step.written)
  made-on at stops asked lacks_room reply (Spent step) none = (ap (map (entries_at at.side at.moment)) none, tt)

  replied-on : (reply : List ℕ) (now : ℕ) (input : Input C) (s : S)
      → GoOn (replied machine side reply now input s).acts
  replied-on reply now input s =
      made-on (step_at side now input s) (machine.stops s input now) (machine.asks s input now)
      (machine.lacks_room s input now) reply (machine.act s input now) (nowhere s input now)

  stepped-on : (now : ℕ) (input : Input C) (s : S) → GoOn (stepped machine side now input s).acts
  stepped-on = replied-on []

  more-on : (first : Piece S C) (more : S → Piece S C) → GoOn first.acts → ((s : S) → GoOn (more s).acts)
      → GoOn (and_more first more).acts
  more-on first more one two = go first.ended
    where
      go : (ended : Option Ending) → GoOn (and_on ended first more).acts
      go None = go-both first.acts (more first.end).acts one (two first.end)
      go (Some how) = one

  tells-on : (now : ℕ) (telling : Telling C) (s : S) → GoOn (tells machine side now telling s).acts
  tells-on now (Tells command reply) s = replied-on reply now (Command command) s
  tells-on now (Says text) s = tt
  tells-on now Stops s = tt
  tells-on now IsOther s = tt

  told-on : (now : ℕ) (tellings : List (Telling C)) (s : S) → GoOn (all_told machine side now tellings s).acts
  told-on now [] s = tt
  told-on now (telling ∷ tellings) s =
      more-on (tells machine side now telling s) (all_told machine side now tellings) (tells-on now telling s)
      (told-on now tellings)

  answered-on : (now : ℕ) (tellings : List (Telling C)) (input : Input C) (s : S)
      → GoOn (answered machine side now tellings input s).acts
  answered-on now tellings input s =
      more-on (all_told machine side now tellings s) (stepped machine side now input) (told-on now tellings s)
      (stepped-on now input)

  upon-on : (coming : Q) (before : ℕ) (answer : LinkIn) (s : S)
      → GoOn (upon machine due commands side coming before answer s).acts
  upon-on coming before (link.Char byte now) s = answered-on now (commands.come now coming) (Char byte) s
  upon-on coming before (link.Quiet now) s = answered-on now (commands.come now coming) Time s
  upon-on coming before link.Closed s = tt
  upon-on coming before link.Failed s = tt

  polled-on : (n : ℕ) (coming : Q) (before : ℕ) (answers : List LinkIn) (s : S)
      → GoOn (polled machine due commands side n coming before answers s).acts
  polled-on zero coming before answers s = tt
  polled-on (suc n) coming before [] s = upon-on coming before link.Closed s
  polled-on (suc n) coming before (answer ∷ answers) s =
      let now = moment_after before answer in
      more-on (turned machine due commands side coming before answer s)
      (polled machine due commands side n (commands.later now coming) now answers) (upon-on coming before answer s)
      (polled-on n (commands.later now coming) now answers)

  run-on : (start : Step S Happening) (coming : Q) (polls : ℕ) (answers : List LinkIn)
      → GoOn (commanded_run machine due commands side start coming polls answers).acts
  run-on start coming polls answers =
      more-on (begun machine side start) (polled machine due commands side polls coming 0 answers)
      (more-on (started side start) (stepped machine side 0 Time) tt (stepped-on 0 Time))
      (polled-on polls coming 0 answers)

  pub no_disk :
      (start : Step S Happening) (coming : Q) (polls : ℕ) (a b : Scene S C)
      → RunsOver a b (commanded_run machine due commands side start coming polls) ending.DiskFailed → ⊥
  no_disk start coming polls a b over =
      never a b (commanded_run machine due commands side start coming polls over.answers).acts
      (run-on start coming polls over.answers) over.runs
