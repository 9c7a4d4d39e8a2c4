-- What the code says of the texts that it has made.
use Rattle.std.specs.Prelude.{◌≡◌, ◌≤◌, ℕ, true, false, List, length, Option, Some, None, Result, Ok, Err}
use Rattle.block_codec.specs.Protocol.{longest_text}
use Rattle.message_flow.specs.declared.step.StepOut.{StepOut}
use Rattle.trace_log.specs.declared.names.Name.{Name}
use Rattle.trace_log.specs.Names.{Spooled}
use Rattle.message_end.specs.declared.end.Stop.{Stop}
use Rattle.message_end.specs.declared.end.Stop.TheVariants.{DiskFailed, Full, NoMemory, NumbersSpent}
use Rattle.message_end.specs.Parts.{Node, Takes}
use Rattle.equipment_tables.specs.declared.answers.Answer.{Answer}
use Rattle.equipment_tables.specs.declared.answers.Answer.TheVariants as answer
use Rattle.tool_step.specs.declared.kind.Kind.{Kind}
use Rattle.tool_step.specs.Own.{OwnView, ToolTurn, is_communicating, is_online}
use Rattle.tool_step.specs.Reports.{judged_turn}
use Rattle.tool_step.specs.Spooling.{is_spooled}

-- a body that a message can carry, if it is one
abbrev pub IsShort : Answer → Type 0
IsShort (answer.Body body) = length body ≤ longest_text
IsShort answer.TooLong = Unit {0}

-- a report of this name
abbrev pub report_named : Name → List ℕ → Spooled
report_named name body = record { stream = name.stream; function = name.function; body = body }

-- the report is to be sent, and nothing was done yet
pub record MayGo (report : List ℕ → Spooled) (text : Answer) (old : Node OwnView Kind) (out_old : StepOut)
    (new : Node OwnView Kind) (out_new : StepOut) (body : List ℕ) : Type 0 where
  pub is : text ≡ answer.Body body
  pub short : length body ≤ longest_text
  pub online : is_online old.own ≡ true
  pub unspooled : is_spooled (report body) old.own ≡ false
  pub communicating : is_communicating old.own ≡ true
  pub same : new ≡ old
  pub out : out_new ≡ out_old

-- all that its turn does is done, whatever that would do with a report that is to be sent
abbrev pub IsJudgedSo :
    (List ℕ → Spooled) → Answer → Node OwnView Kind → StepOut → Node OwnView Kind → StepOut
    → Result (Unit {0}) Stop → Type 0
IsJudgedSo report text old out_old new out_new result =
    (going : Spooled → ToolTurn) → Takes (judged_turn report going text old.own) old out_old new out_new result

-- a report that was made is to be sent, or nothing is left to do with it
abbrev pub IsJudged :
    (List ℕ → Spooled) → Answer → Node OwnView Kind → StepOut → Node OwnView Kind → StepOut
    → Result (Option (List ℕ)) Stop → Type 0
IsJudged report text old out_old new out_new (Ok (Some body)) = MayGo report text old out_old new out_new body
IsJudged report text old out_old new out_new (Ok None) = IsJudgedSo report text old out_old new out_new (Ok tt)
IsJudged report text old out_old new out_new (Err NumbersSpent) =
    IsJudgedSo report text old out_old new out_new (Err NumbersSpent)
IsJudged report text old out_old new out_new (Err Full) = ⊥
IsJudged report text old out_old new out_new (Err DiskFailed) = ⊥
IsJudged report text old out_old new out_new (Err NoMemory) = Unit {0}
