-- Whether a step makes a slip.
use Rattle.std.specs.Prelude.{◌≡◌, ℕ, Bool, true, false, List, [], ◌∷◌, Option, Some, None}
use Rattle.gl_base.specs.declared.side.Side.{Side}
use Rattle.line_end.specs.declared.event.Phase.{Phase}
use Rattle.line_end.specs.declared.event.Phase.TheVariants.{Gathering}
use Rattle.line_end.specs.Step.{is_due}
use Rattle.line_end.specs.Step.LineCall.{Tick}
use Rattle.line_order.specs.Acts.{line_after_deed, received, slips}
use Rattle.line_order.specs.Acts.Act.{Hand}
use Rattle.line_order.specs.Characters.{Character, Origin}
use Rattle.line_order.specs.Characters.Origin.{Framed, Control, Noise}
use Rattle.line_order.specs.Line.{Line, seen_from}
use Rattle.line_way.specs.declared.slip.Slip.{Slip}
use Rattle.line_way.specs.Step.{call_deed, phase_of}
use Rattle.line_way.specs.Ways.{StandsFor, Ways, bytes_of, way_to}

-- the frame of a character
abbrev pub frame_number : Origin → Option ℕ
frame_number (Framed frame place) = Some frame
frame_number Control = None
frame_number Noise = None

abbrev pub first_frame : List Character → Option ℕ
first_frame [] = None
first_frame (character ∷ rest) = frame_number character.origin

-- the line after the end's timer, which a step looks at first
abbrev pub after_tick : Side → ℕ → Line → Line
after_tick side now line = line_after_deed line (call_deed side (Tick now))

-- the character that a step gives the end makes a slip
abbrev pub slips_in_step : Side → ℕ → Line → Bool
slips_in_step side now line = slips (after_tick side now line) (record { side = side; act = Hand now })

-- the next one of them, where there is one
abbrev pub next_of : List Character → List Character
next_of [] = []
next_of (character ∷ rest) = character ∷ []

-- the characters that the end then has of a frame, that one among them
abbrev pub received_in_step : Side → ℕ → Line → List Character
received_in_step side now line =
    let after = after_tick side now line in received (seen_from side after).here (next_of (way_to side after))

-- the phase of the end, and whether T1 has run out since its last character (SEMI E4, T1)
pub record IsWaiting (line : Line) (side : Side) (now : ℕ) (phase : Phase) (is_late : Bool) : Type 0 where
  pub phase_is : phase_of side line ≡ phase
  pub late : phase ≡ Gathering → is_due (seen_from side line).here.state.deadline now ≡ is_late

-- the slip, with the frame of its first character and its characters; none exactly where the step makes none
abbrev pub IsSlipOfStep : Side → ℕ → Line → Option Slip → Type 0
IsSlipOfStep side now line None = slips_in_step side now line ≡ false
IsSlipOfStep side now line (Some slip) =
    (slips_in_step side now line ≡ true)
    × (slip.frame ≡ first_frame (received_in_step side now line))
    × (slip.characters.items ≡ bytes_of (received_in_step side now line))

-- whatever line the directions stand for, and at whatever moment the step is to come
abbrev pub TellsSlip : Ways → Side → Phase → Bool → Option Slip → Type 0
TellsSlip ways side phase is_late result =
    (line : Line) (now : ℕ) → StandsFor ways line → IsWaiting line side now phase is_late
    → IsSlipOfStep side now line result
