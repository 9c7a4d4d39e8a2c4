-- A step of an end, as deeds on the line.
use Rattle.std.specs.Prelude.{◌≡◌, ℕ, Bool, true, false, List, [], ◌∷◌, ◌++◌}
use Rattle.gl_base.specs.declared.side.Side.{Side}
use Rattle.line_end.specs.declared.event.Phase.{Phase}
use Rattle.line_end.specs.State.{LineState}
use Rattle.line_end.specs.Step.{LineCall, line_step}
use Rattle.line_end.specs.Step.LineCall.{Send, Resume, Cancel, Take, Tick}
use Rattle.line_order.specs.Acts.{Act, Deed, IsRun, line_after}
use Rattle.line_order.specs.Acts.Act.{Hand, Lose, Change, Add, Call, PowerLoss}
use Rattle.line_order.specs.Characters.{Character}
use Rattle.line_order.specs.Line.{Line, View, seen_from}
use Rattle.line_way.specs.Ways.{StandsFor, Ways}

-- calls on which the layer above decides, behind the timer and the character
abbrev pub IsDecision : LineCall → Type 0
IsDecision (Send block now) = Unit {0}
IsDecision (Resume now) = Unit {0}
IsDecision Cancel = Unit {0}
IsDecision (Take byte now) = ⊥
IsDecision (Tick now) = ⊥

abbrev pub AreDecisions : List LineCall → Type 0
AreDecisions [] = Unit {0}
AreDecisions (call ∷ before) = IsDecision call × AreDecisions before

abbrev pub call_deed : Side → LineCall → Deed
call_deed side call = record { side = side; act = Call call }

-- the timer, and the next character where the end is given one
abbrev pub taking_deeds : Side → ℕ → Bool → List Deed
taking_deeds side now true = record { side = side; act = Hand now } ∷ call_deed side (Tick now) ∷ []
taking_deeds side now false = call_deed side (Tick now) ∷ []

-- one step of an end: the timer, the character, and then the calls of the layer above (this profile). Lists of deeds
-- have the newest first
abbrev pub step_deeds : Side → ℕ → Bool → List LineCall → List Deed
step_deeds side now gives [] = taking_deeds side now gives
step_deeds side now gives (call ∷ before) = call_deed side call ∷ step_deeds side now gives before

-- what an end writes in an act
abbrev pub written_in_hand : ℕ → List Character → LineState → List ℕ
written_in_hand now [] s = []
written_in_hand now (character ∷ rest) s = (line_step s (Take character.byte now)).written

abbrev pub written_here : Act → View → List ℕ
written_here (Hand now) view = written_in_hand now view.there.under_way view.here.state
written_here Lose view = []
written_here (Change place byte) view = []
written_here (Add byte) view = []
written_here (Call call) view = (line_step view.here.state call).written
written_here PowerLoss view = []

-- what was written in the deeds, one after another
abbrev pub written_in : Line → List Deed → List ℕ
written_in start [] = []
written_in start (deed ∷ before) =
    written_in start before ++ written_here deed.act (seen_from deed.side (line_after start before))

abbrev pub phase_of : Side → Line → Phase
phase_of side line = (seen_from side line).here.state.phase

-- the end makes this step, each of its calls on its condition; it is in this phase then, and has written this
pub record IsStep
    (line : Line) (side : Side) (now : ℕ) (gives : Bool) (calls : List LineCall) (phase : Phase) (written : List ℕ)
    : Type 0 where
  pub decided : AreDecisions calls
  pub run : IsRun line (step_deeds side now gives calls)
  pub phase_is : phase_of side (line_after line (step_deeds side now gives calls)) ≡ phase
  pub written_is : written_in line (step_deeds side now gives calls) ≡ written

-- whatever line the directions stand for, and whatever the layer above decides: after the step they stand for the line
-- after its deeds
abbrev pub DoesStep : Ways → Side → Bool → Phase → List ℕ → Ways → Type 0
DoesStep before side gives phase written after =
    (line : Line) (now : ℕ) (calls : List LineCall) → StandsFor before line
    → IsStep line side now gives calls phase written
    → StandsFor after (line_after line (step_deeds side now gives calls))
