-- What a method of the tool says of what it does, over the value before the call and behind it.
use Rattle.std.specs.Prelude.{List, Result}
use Rattle.message_flow.specs.declared.step.StepOut.{StepOut}
use Rattle.message_end.specs.declared.end.Stop.{Stop}
use Rattle.message_end.specs.Parts.{Takes, TakesAll}
use Rattle.tool_step.specs.Own.{OwnView, ToolPart, ToolTurn}
use Rattle.tool_core.specs.declared.own.Tool.{Tool}
use Rattle.tool_core.specs.Calls.{Reaches, ReachesAll}
use Rattle.tool_core.specs.Carried.{IsTaken}
use Rattle.tool_core.specs.Node.{node_of, own_of}

-- a part of a step is carried out, unless memory runs out
abbrev pub TakesPart : {A : Type 0} → ToolPart → Tool → StepOut → Tool → StepOut → Result A Stop → Type 0
TakesPart part old out_old new out_new result =
    Takes (part (own_of old.own) old.core) (node_of old) out_old (node_of new) out_new result

-- a turn is taken that is decided by what is kept beside the core alone
abbrev pub TakesTurn :
    {A : Type 0} → (OwnView → ToolTurn) → Tool → StepOut → Tool → StepOut → Result A Stop → Type 0
TakesTurn turn old out_old new out_new result =
    Takes (turn (own_of old.own)) (node_of old) out_old (node_of new) out_new result

-- parts are carried out, one after the other
abbrev pub TakesParts : {A : Type 0} → List ToolPart → Tool → StepOut → Tool → StepOut → Result A Stop → Type 0
TakesParts parts old out_old new out_new result =
    TakesAll parts (node_of old) out_old (node_of new) out_new result

-- the same where numbers may be spent on the way, of which the ledger alone is told
abbrev pub ReachesPart : {A : Type 0} → ToolPart → Tool → StepOut → Tool → StepOut → Result A Stop → Type 0
ReachesPart part old out_old new out_new result =
    Reaches (part (own_of old.own) old.core) (node_of old) out_old (node_of new) out_new result

abbrev pub ReachesParts : {A : Type 0} → List ToolPart → Tool → StepOut → Tool → StepOut → Result A Stop → Type 0
ReachesParts parts old out_old new out_new result =
    ReachesAll parts (node_of old) out_old (node_of new) out_new result

-- the same of a call that has done all of it
abbrev pub HasTakenPart : ToolPart → Tool → StepOut → Tool → StepOut → Type 0
HasTakenPart part old out_old new out_new =
    IsTaken (part (own_of old.own) old.core) (node_of old) out_old (node_of new) out_new
