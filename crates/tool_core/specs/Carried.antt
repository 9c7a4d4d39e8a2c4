-- What the code of the equipment says of what its core does, where memory alone may be wanting.
use Rattle.std.specs.Prelude.{◌≡◌, ℕ, true, Option, Some, None}
use Rattle.gem_states.specs.Control.{ControlView, control_next}
use Rattle.gem_states.specs.declared.control.ControlIn.TheVariants.{AttemptFailed}
use Rattle.gem_states.specs.declared.control.ControlState.{ControlState}
use Rattle.message_flow.specs.declared.step.StepOut.{StepOut}
use Rattle.trace_log.specs.Names.{Spooled}
use Rattle.trace_log.specs.Text.{printed_note}
use Rattle.transact.specs.Numbers.{next_number}
use Rattle.message_end.specs.Core.{EndView, carry}
use Rattle.message_end.specs.Core.Command.{Draw, Remove}
use Rattle.message_end.specs.Core.Went.{Goes}
use Rattle.message_end.specs.Parts.{Node, after_turn, leads, on_the_way}
use Rattle.tool_step.specs.declared.kind.Kind.{Kind}
use Rattle.tool_step.specs.Own.{OwnView, ToolTurn}
use Rattle.tool_step.specs.Spooling.{tried_turn}

-- the turn is taken
abbrev pub IsTaken : ToolTurn → Node OwnView Kind → StepOut → Node OwnView Kind → StepOut → Type 0
IsTaken turn old out_old new out_new =
    after_turn printed_note turn (on_the_way old out_old) ≡ Goes (on_the_way new out_new)

-- a failed attempt leaves the control as it leaves this one, which stood in this state
pub record FailsAlike (first : ControlView) (state : ControlState) (control : ControlView) : Type 0 where
  pub stood : state ≡ first.state
  pub fails : control_next control AttemptFailed ≡ control_next first AttemptFailed

-- the message with these system bytes waits no longer
abbrev pub IsTakenBack : Option ℕ → EndView Kind → EndView Kind → Type 0
IsTakenBack None old new = new ≡ old
IsTakenBack (Some system) old new =
    (out : StepOut) → carry printed_note (Remove true system) (on_the_way old out) ≡ Goes (on_the_way new out)

-- a message is taken up, with none before it on its way
abbrev pub drawing_turn : ℕ → Spooled → OwnView → EndView Kind → ToolTurn
drawing_turn number message own e = leads Draw (tried_turn (next_number e.numbers) number message own) e
