-- What the code of the equipment says of a step.
use Rattle.std.specs.Prelude.{◌≡◌, List, Result, Ok, Err}
use Rattle.message_flow.specs.declared.step.Note.{Note}
use Rattle.message_flow.specs.declared.step.StepOut.{StepOut}
use Rattle.trace_log.specs.Text.{printed_note}
use Rattle.message_end.specs.declared.end.Stop.{Stop}
use Rattle.message_end.specs.declared.end.Stop.TheVariants.{DiskFailed, Full, NoMemory, NumbersSpent}
use Rattle.message_end.specs.Core.{Went}
use Rattle.message_end.specs.Core.Went.{Goes, Spent}
use Rattle.message_end.specs.Parts.{Node, after_parts, after_turn, on_the_way}
use Rattle.tool_step.specs.declared.kind.Kind.{Kind}
use Rattle.tool_step.specs.Own.{OwnView, ToolPart, ToolTurn}

-- the numbers are spent: of what is kept beside the core the ledger alone is told, since what it owes is done still
pub record IsSpent (went : Went (Node OwnView Kind) Note) (new : Node OwnView Kind) (out : StepOut) : Type 0 where
  pub own : OwnView
  pub ledger : own.ledger ≡ new.own.ledger
  pub is : went ≡ Spent (on_the_way (record new { own = own }) out)

-- unless memory runs out, this comes of it. No part of a step asks the disk
abbrev pub IsReached :
    {A : Type 0} → Went (Node OwnView Kind) Note → Node OwnView Kind → StepOut → Result A Stop → Type 0
IsReached went new out (Ok done) = went ≡ Goes (on_the_way new out)
IsReached went new out (Err NumbersSpent) = IsSpent went new out
IsReached went new out (Err Full) = ⊥
IsReached went new out (Err DiskFailed) = ⊥
IsReached went new out (Err NoMemory) = Unit {0}

-- the turn is taken so
abbrev pub Reaches :
    {A : Type 0} → ToolTurn → Node OwnView Kind → StepOut → Node OwnView Kind → StepOut → Result A Stop → Type 0
Reaches turn old out_old new out_new result =
    IsReached (after_turn printed_note turn (on_the_way old out_old)) new out_new result

-- the parts are carried out so
abbrev pub ReachesAll :
    {A : Type 0} → List ToolPart → Node OwnView Kind → StepOut → Node OwnView Kind → StepOut → Result A Stop → Type 0
ReachesAll parts old out_old new out_new result =
    IsReached (after_parts printed_note parts (on_the_way old out_old)) new out_new result
