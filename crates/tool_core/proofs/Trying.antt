-- A message of the spool is taken up behind one that was tried before.
use Rattle.std.proofs.Common.{◌≡◌, ap, subst, true, ℕ, Option, Some, None}
use Rattle.std.specs.Prelude.{Result}
use Rattle.message_flow.specs.declared.step.Note.{Note}
use Rattle.message_flow.specs.declared.step.StepOut.{StepOut}
use Rattle.trace_log.specs.Names.{Spooled}
use Rattle.message_end.specs.declared.end.Stop.{Stop}
use Rattle.message_end.specs.Core.{EndView, Went}
use Rattle.message_end.specs.Core.Command.{Remove}
use Rattle.message_end.specs.Parts.{Takes, next_of}
use Rattle.tool_step.specs.declared.kind.Kind.{Kind}
use Rattle.tool_core.specs.Carried.{IsTakenBack, drawing_turn}
use Rattle.tool_step.specs.Own.{OwnView, ToolTurn}
use Rattle.tool_step.specs.Spooling.{stopped_turn, taking_turn}
use Rattle.tool_core.proofs.Following.{node}
use Rattle.tool_core.proofs.Taking.{leads_so}
use Rattle.tool_core.proofs.Turned.{ToolNode}

-- a turn behind that one, which waits no longer
stopped_so :
    {A : Type 0} (tried : Option ℕ) (own : OwnView) (turn : EndView Kind → ToolTurn) (old middle : EndView Kind)
    (out : StepOut) (new : ToolNode) (out_new : StepOut) (result : Result A Stop)
    → IsTakenBack tried old middle
    → Takes (turn middle) (node own middle) out new out_new result
    → Takes (stopped_turn tried turn old) (node own old) out new out_new result
stopped_so None own turn old middle out new out_new result same is =
    subst (λ (e : EndView Kind). Takes (turn e) (node own e) out new out_new result) same is
stopped_so (Some system) own turn old middle out new out_new result stopped is =
    leads_so own (Remove true system) turn old middle out out new out_new result (stopped out)
    (ap (λ (w : Went (EndView Kind) Note). next_of w) (stopped out)) is

pub taken_so :
    {A : Type 0} (number : ℕ) (message : Spooled) (own own_stopped : OwnView) (old middle : EndView Kind)
    (out : StepOut) (new : ToolNode) (out_new : StepOut) (result : Result A Stop)
    → own_stopped ≡ own → IsTakenBack own.tried old middle
    → Takes (drawing_turn number message own_stopped middle) (node own_stopped middle) out new out_new result
    → Takes (taking_turn (Some number) (Some message) own old) (node own old) out new out_new result
taken_so number message own own_stopped old middle out new out_new result same stopped is =
    stopped_so own.tried own (λ later. drawing_turn number message own later) old middle out new out_new result stopped
    (subst (λ (o : OwnView). Takes (drawing_turn number message o middle) (node o middle) out new out_new result) same
    is)
