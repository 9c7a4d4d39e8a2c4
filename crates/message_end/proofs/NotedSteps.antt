-- Notes in the step that an end makes, as its doings in that step have brought them.
use Rattle.std.proofs.Common.{◌≡◌, refl, List, ◌∷◌}
use Rattle.gl_base.specs.declared.side.Side.{Side}
use Rattle.trace_log.specs.InStep.{noted_in_step}
use Rattle.trace_log.specs.Log.{Happening}
use Rattle.message_end.specs.Doings.{IsPlain}
use Rattle.message_end.specs.InStep.{IsNotedInStep, asked_among, asked_behind}

-- a note of no message is of no reply, and leaves who asks; but with the end of a step none asks any more
pub record IsPlainNote (side : Side) (what : Happening) : Type 0 where
  pub noted : (before : List Happening) → IsNotedInStep side before what
  pub asked :
      (before : List Happening)
      → asked_among (noted_in_step (what ∷ before)) ≡ asked_behind what (asked_among (noted_in_step before))

pub plain-note : (side : Side) (what : Happening) → IsPlain what → IsPlainNote side what
plain-note side (Happening.EquipmentStarted found base) plain = absurd plain
plain-note side (Happening.HostStarted journal) plain = absurd plain
plain-note side (Happening.Sent message) plain = absurd plain
plain-note side (Happening.Received message) plain = absurd plain
plain-note side what plain = record { noted = λ before. tt; asked = λ before. refl }
