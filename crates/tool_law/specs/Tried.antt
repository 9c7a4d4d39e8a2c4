-- What the equipment owes for the messages of its spool that it tries to send, over its doings; and what has to be so
-- of its core that it can keep it.
use Rattle.std.specs.Prelude.{◌≡◌, ◌<◌, ℕ, true, List, [], ◌∷◌, Option, Some, None}
use Rattle.message_flow.specs.declared.message.Message.{Message}
use Rattle.message_flow.specs.declared.waiting.Waiting.{Waiting}
use Rattle.message_flow.specs.Message.{is_primary}
use Rattle.message_end.specs.Core.{EndView}
use Rattle.message_end.specs.Doings.{Doing}
use Rattle.message_end.specs.Own.{Has}
use Rattle.message_end.specs.Plan.{EndPlan}
use Rattle.spool_law.specs.Tries.{IsNewest, MayDoTried}
use Rattle.tool_step.specs.declared.kind.Kind.{Kind}

-- each doing of a start at those before it
abbrev pub AreTried : EndPlan → List Doing → Type 0
AreTried plan [] = Unit {0}
AreTried plan (doing ∷ before) = MayDoTried plan before doing × AreTried plan before

-- the newest of these tries
abbrev pub newest_of : List ℕ → Option ℕ
newest_of [] = None
newest_of (system ∷ tries) = Some system

-- a message that waits
pub record WaitsIn (waiting : List Waiting) (message : Message) : Type 0 where
  pub one : Waiting
  pub has : Has waiting one
  pub is : one.message ≡ message

-- with these tries, the newest first: their numbers are drawn, and the only ones of their messages that wait, or are
-- still to go out under the number drawn by itself, are of the newest
pub record AreInTurn (tries : List ℕ) (e : EndView Kind) : Type 0 where
  pub below : (system : ℕ) → Has tries system → system < e.numbers.next
  pub drawn : (number : ℕ) → e.drawn ≡ Some number → Has tries number → IsNewest tries number
  pub waits :
      (message : Message) → is_primary message ≡ true → WaitsIn e.outgoing.waiting message
      → Has tries message.system → IsNewest tries message.system
