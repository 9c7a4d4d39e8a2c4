-- That what a run writes are the lines of its notes, and replies behind them.
use Rattle.std.proofs.Common.{◌≡◌, refl, sym, ap, ◌∙◌, zero, suc, ℕ, Bool, List, [], ◌∷◌, ◌++◌, append-nil, All, Option, Some, None}
use Rattle.std.proofs.lemmas.List.Elements.{All-cons, All-head, All-nil, All-tail}
use Rattle.gl_base.specs.Events.{moment_after}
use Rattle.gl_base.specs.declared.link.LinkIn.{LinkIn}
use Rattle.gl_base.specs.declared.link.LinkIn.TheVariants as link
use Rattle.gl_base.specs.declared.side.Side.{Side}
use Rattle.line_schedule.specs.declared.script.ScriptStep.{ScriptStep}
use Rattle.line_schedule.specs.declared.script.ScriptStep.TheVariants as step
use Rattle.message_end.specs.Core.{Step, Went}
use Rattle.message_end.specs.Core.Went.{Goes, Spent}
use Rattle.message_end.specs.Ends.{Asked, Input, Machine}
use Rattle.message_end.specs.Ends.Input.{Char, Command, Time}
use Rattle.message_end.proofs.LogText.{text_of-append}
use Rattle.trace_log.specs.Log.{Happening}
use Rattle.trace_log.specs.Text.{text_of}
use Rattle.end_run.specs.Acts.{Act, StepAt, lines_of, log_of}
use Rattle.end_run.specs.Acts.Act.{Connects, Polls, Sends, Stands, Writes}
use Rattle.end_run.specs.Commands.{Commands, Telling}
use Rattle.end_run.specs.Commands.Telling.{IsOther, Says, Stops, Tells}
use Rattle.end_run.specs.Pieces.{Piece, and_more, and_on}
use Rattle.end_run.specs.Run.{begun, commanded_run, polled, turned, upon}
use Rattle.end_run.specs.Script.{ScriptLine, by_script, due_lines, told_by}
use Rattle.end_run.specs.Sides.{told_equipment, told_host}
use Rattle.end_run.specs.Steps.{all_told, answered, made, replied, sends, started, step_at, stepped, tells}
use Rattle.end_run.specs.declared.ending.Ending.{Ending}
use Rattle.link_courses.specs.Noting.{NoReply, RepliesSo, ReplySo, WriteSo}

-- ---- acts

pub write-both :
    {S C : Type 0} (Such : List ℕ → Type 0) (first second : List (Act S C)) → WriteSo Such first
    → WriteSo Such second → WriteSo Such (first ++ second)
write-both Such [] second one two = two
write-both Such (act ∷ first) second one two = (one.0, write-both Such first second one.1 two)

pub write-front :
    {S C : Type 0} (Such : List ℕ → Type 0) (first second : List (Act S C)) → WriteSo Such (first ++ second)
    → WriteSo Such first
write-front Such [] second all = tt
write-front Such (act ∷ first) second all = (all.0, write-front Such first second all.1)

-- where nothing is replied all that is written are the lines of the log
pub lines-alone : {S C : Type 0} (acts : List (Act S C)) → WriteSo NoReply acts → lines_of acts ≡ text_of (log_of acts)
lines-alone [] so = refl
lines-alone (Stands at stops asked end ∷ acts) so =
    lines-alone acts so.1 ∙ ap text_of (sym (append-nil (log_of acts)))
lines-alone (Connects ∷ acts) so = lines-alone acts so.1 ∙ ap text_of (sym (append-nil (log_of acts)))
lines-alone (Polls until answer early ∷ acts) so =
    lines-alone acts so.1 ∙ ap text_of (sym (append-nil (log_of acts)))
lines-alone (Writes entries text ∷ acts) so =
    ap (λ (t : List ℕ). t ++ lines_of acts)
    (so.0.1 ∙ ap (λ (reply : List ℕ). text_of entries ++ reply) so.0.2 ∙ append-nil (text_of entries))
    ∙ ap (λ (t : List ℕ). text_of entries ++ t) (lines-alone acts so.1)
    ∙ sym (text_of-append (log_of acts) entries)
lines-alone (Sends characters ∷ acts) so = lines-alone acts so.1 ∙ ap text_of (sym (append-nil (log_of acts)))

-- ---- a script replies nothing

module _ {C : Type 0} (told : ScriptStep → Telling C) (silent : (step : ScriptStep) → RepliesSo NoReply (told step))
  where
    told-silent : (lines : List ScriptLine) → All (RepliesSo NoReply) (told_by told lines)
    told-silent [] = All-nil (RepliesSo NoReply)
    told-silent (line ∷ lines) =
        All-cons (RepliesSo NoReply) (told line.1) (told_by told lines) (silent line.1) (told-silent lines)

    pub script-silent : ReplySo NoReply (by_script told)
    script-silent now lines = told-silent (due_lines now lines)

pub host-silent : (step : ScriptStep) → RepliesSo NoReply (told_host step)
host-silent (step.Tool command) = tt
host-silent (step.Host command) = refl
host-silent step.Stop = tt

pub tool-silent : (step : ScriptStep) → RepliesSo NoReply (told_equipment step)
tool-silent (step.Tool command) = refl
tool-silent (step.Host command) = tt
tool-silent step.Stop = tt

-- ---- a run

module _ {S C Q : Type 0} (Such : List ℕ → Type 0) (none : Such []) (machine : Machine S C) (due : S → Option ℕ)
    (commands : Commands Q C) (each : ReplySo Such commands) (side : Side) where
  abbrev Writing : Piece S C → Type 0
  Writing piece = WriteSo Such piece.acts

  more-writes : (first : Piece S C) (more : S → Piece S C) → Writing first → ((s : S) → Writing (more s))
      → Writing (and_more first more)
  more-writes first more one two = go first.ended
    where
      go : (ended : Option Ending) → Writing (and_on ended first more)
      go (Some how) = one
      go None = write-both Such first.acts (more first.end).acts one (two first.end)

  sends-write : (characters : List ℕ) → WriteSo {S = S} {C = C} Such (sends characters)
  sends-write [] = tt
  sends-write (byte ∷ bytes) = (tt, tt)

  made-writes :
      (at : StepAt S C) (stops : List (List Happening)) (asked : Asked) (lacks_room : Bool) (reply : List ℕ)
      → Such reply → (went : Went S Happening) → Writing (made at stops asked lacks_room reply went)
  made-writes at stops asked lacks_room reply such (Goes step) = (tt, ((reply, refl, such), sends-write step.written))
  made-writes at stops asked lacks_room reply such (Spent step) = (tt, (([], refl, none), tt))

  replied-writes : (reply : List ℕ) → Such reply → (now : ℕ) (input : Input C) (s : S)
      → Writing (replied machine side reply now input s)
  replied-writes reply such now input s =
      made-writes (step_at side now input s) (machine.stops s input now) (machine.asks s input now)
      (machine.lacks_room s input now) reply such (machine.act s input now)

  step-writes : (now : ℕ) (input : Input C) (s : S) → Writing (stepped machine side now input s)
  step-writes = replied-writes [] none

  tell-writes : (now : ℕ) (telling : Telling C) → RepliesSo Such telling → (s : S)
      → Writing (tells machine side now telling s)
  tell-writes now (Tells command reply) such s = replied-writes reply such now (Command command) s
  tell-writes now (Says text) such s = ((text, refl, such), tt)
  tell-writes now Stops such s = tt
  tell-writes now IsOther such s = tt

  told-writes : (now : ℕ) (tellings : List (Telling C)) → All (RepliesSo Such) tellings → (s : S)
      → Writing (all_told machine side now tellings s)
  told-writes now [] such s = tt
  told-writes now (telling ∷ tellings) such s =
      more-writes (tells machine side now telling s) (all_told machine side now tellings)
      (tell-writes now telling (All-head (RepliesSo Such) telling tellings such) s)
      (told-writes now tellings (All-tail (RepliesSo Such) telling tellings such))

  answered-writes : (now : ℕ) (coming : Q) (input : Input C) (s : S)
      → Writing (answered machine side now (commands.come now coming) input s)
  answered-writes now coming input s =
      more-writes (all_told machine side now (commands.come now coming) s) (stepped machine side now input)
      (told-writes now (commands.come now coming) (each now coming) s) (step-writes now input)

  upon-writes : (coming : Q) (before : ℕ) (answer : LinkIn) (s : S)
      → Writing (upon machine due commands side coming before answer s)
  upon-writes coming before (link.Char byte now) s = answered-writes now coming (Char byte) s
  upon-writes coming before (link.Quiet now) s = answered-writes now coming Time s
  upon-writes coming before link.Closed s = (([], refl, none), tt)
  upon-writes coming before link.Failed s = tt

  polled-writes : (n : ℕ) (coming : Q) (before : ℕ) (answers : List LinkIn) (s : S)
      → Writing (polled machine due commands side n coming before answers s)
  polled-writes zero coming before answers s = tt
  polled-writes (suc n) coming before [] s = (tt, upon-writes coming before link.Closed s)
  polled-writes (suc n) coming before (answer ∷ answers) s =
      let now = moment_after before answer in
      more-writes (turned machine due commands side coming before answer s)
      (polled machine due commands side n (commands.later now coming) now answers)
      (tt, upon-writes coming before answer s) (polled-writes n (commands.later now coming) now answers)

  pub run-writes : (start : Step S Happening) (coming : Q) (polls : ℕ) (answers : List LinkIn)
      → Writing (commanded_run machine due commands side start coming polls answers)
  run-writes start coming polls answers =
      more-writes (begun machine side start) (polled machine due commands side polls coming 0 answers)
      (more-writes (started {C = C} side start) (stepped machine side 0 Time) (([], refl, none), (tt, tt))
      (step-writes 0 Time))
      (polled-writes polls coming 0 answers)
