-- A run of an end that can be followed by hand.
use Rattle.std.specs.Prelude.{◌≡◌, ℕ, true, false, List, [], ◌∷◌, ◌++◌, Some, is_some}
use Rattle.gl_base.specs.declared.side.Side.TheVariants.{Host}
use Rattle.line_end.specs.Plan.{LinePlanFits}
use Rattle.message_flow.specs.declared.message.Message.{Message}
use Rattle.trace_log.specs.Log.{Happening}
use Rattle.transact.specs.Numbers.{numbers_from}
use Rattle.message_end.specs.declared.unsent.Unsent.{Unsent}
use Rattle.message_end.specs.Core.{Command, EndView, Step, MayCarryAll, at_first, carried, step_in}
use Rattle.message_end.specs.Core.Command.{Offer, Primary, Take}
use Rattle.message_end.specs.Laws.{new_end}
use Rattle.message_end.specs.Plan.{EndPlan}

abbrev pub host : EndPlan
host = record {
  side = Host;
  line = record {
    device = 1;
    times = record { t1 = 500; t2 = 10000; rty = 3 };
    t3 = 45000;
    t4 = 45000;
    max_body = 4096;
  };
}

-- S1F3 W with a text of two bytes, and its reply
abbrev pub asking : Unsent ℕ
asking = record { stream = 1; function = 3; kind = Some 7; body = 1 ∷ 0 ∷ [] }

abbrev pub question : Message
question = record { stream = 1; function = 3; wait = true; system = 0; body = 1 ∷ 0 ∷ [] }

abbrev pub answer : Message
answer = record { stream = 1; function = 4; wait = false; system = 0; body = 1 ∷ 0 ∷ [] }

-- 0C 80 01 01 04 80 01 00 00 00 00 01 00 01 08
abbrev pub answer_frame : List ℕ
answer_frame = 12 ∷ 128 ∷ 1 ∷ 1 ∷ 4 ∷ 128 ∷ 1 ∷ 0 ∷ 0 ∷ 0 ∷ 0 ∷ 1 ∷ 0 ∷ 1 ∷ 8 ∷ []

abbrev pub taking : List ℕ → List (Command ℕ)
taking [] = []
taking (byte ∷ bytes) = Take byte 0 ∷ taking bytes

-- the host asks, its frame goes out, and another character than its acknowledgement comes; then both ends ask for the
-- line, the host yields, and the equipment's answer comes
abbrev pub yielding : List (Command ℕ)
yielding = Primary asking ∷ Offer 0 ∷ taking (4 ∷ 21 ∷ 5 ∷ [])

abbrev pub hearing : List (Command ℕ)
hearing = yielding ++ taking answer_frame

abbrev pub after : List (Command ℕ) → Step (EndView ℕ) Happening
after commands = step_in (carried Some commands (at_first (new_end host (numbers_from 0 16))))

-- the question is held until its answer has come, and no longer, though it was never acknowledged; the answer is
-- delivered
pub record IsSilent : Type 0 where
  pub fits : LinePlanFits host.line
  pub may : MayCarryAll hearing
  pub held_before : is_some (after yielding).next.line.held ≡ true
  pub held_after : is_some (after hearing).next.line.held ≡ false
  pub notes : (after hearing).notes ≡ Happening.Sent question ∷ Happening.Received answer ∷ []
