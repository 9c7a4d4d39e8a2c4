-- Of a log: that the notes of a step are of one moment and its end is noted, and that replies go in the steps of their
-- primaries (this profile).
use Rattle.std.specs.Prelude.{◌≡◌, ◌⊎◌, ℕ, false, List, [], ◌∷◌, ◌++◌}
use Rattle.end_pair.specs.Noted.{noted_by, timed_by}
use Rattle.equipment_tables.specs.declared.plan.Plans.{Plans}
use Rattle.gl_base.specs.declared.side.Side.{Side}
use Rattle.gl_base.specs.declared.side.Side.TheVariants as side
use Rattle.gl_base.specs.Side.{other_side}
use Rattle.message_end.specs.InStep.{RepliesAreOfSteps}
use Rattle.message_end.specs.Own.{Has, IsReplyTo}
use Rattle.message_flow.specs.Blocks.{header_of}
use Rattle.message_flow.specs.Message.{is_primary}
use Rattle.message_flow.specs.declared.message.Message.{Message}
use Rattle.trace_log.specs.Log.{Entry, Happening}
use Rattle.trace_log.specs.Log.Happening.{EquipmentStarted, HostStarted, StepEnded, Wrote}
use Rattle.line_world.specs.Safe.{IsSafe}

-- ---- the end of a step

abbrev pub IsStepsEnd : Happening → Type 0
IsStepsEnd StepEnded = Unit {0}
IsStepsEnd _ = ⊥

abbrev pub AreAtAnEnd : List (ℕ × Happening) → Type 0
AreAtAnEnd [] = ⊥
AreAtAnEnd (note ∷ before) = IsStepsEnd note.1

-- behind this note a step may begin: it is the end of one, with what that has written at most behind it, or a start
abbrev pub MayStepBehind : Happening → List (ℕ × Happening) → Type 0
MayStepBehind StepEnded before = Unit {0}
MayStepBehind (Wrote characters) before = AreAtAnEnd before
MayStepBehind (EquipmentStarted found base) before = Unit {0}
MayStepBehind (HostStarted journal) before = Unit {0}
MayStepBehind _ before = ⊥

-- a note of this moment comes behind one of the same moment, or a step may begin there
abbrev pub IsOfAStep : ℕ → List (ℕ × Happening) → Type 0
IsOfAStep moment [] = Unit {0}
IsOfAStep moment (note ∷ before) = (moment ≡ note.0) ⊎ MayStepBehind note.1 before

abbrev pub NotesAreOfSteps : List (ℕ × Happening) → Type 0
NotesAreOfSteps [] = Unit {0}
NotesAreOfSteps (note ∷ before) = IsOfAStep note.0 before × NotesAreOfSteps before

-- no step of an end goes on past its moment: between two notes of the end that are of two moments it has noted that a
-- step has ended, or that it has started
pub record HasSteps (log : List Entry) : Type 0 where
  pub equipment : NotesAreOfSteps (timed_by side.Equipment log)
  pub host : NotesAreOfSteps (timed_by side.Host log)

-- so it is in each safe log
abbrev pub SafeLogsHaveSteps : Type 0
SafeLogsHaveSteps = (plans : Plans) (log : List Entry) → IsSafe plans log → HasSteps log

-- ---- replies

-- the primary of this reply was noted as received at the same moment
pub record IsReplyAtOnce (side : Side) (before : List (ℕ × Happening)) (moment : ℕ) (message : Message) : Type 0 where
  pub asked : Message
  pub received : Has before (moment, Happening.Received asked)
  pub reply : IsReplyTo (other_side side) asked (header_of side 0 message 1)

-- so it is of each reply that an end notes as sent
abbrev pub RepliesAreAtOnce : Side → List Entry → Type 0
RepliesAreAtOnce side log =
    (later before : List (ℕ × Happening)) (moment : ℕ) (message : Message)
    → timed_by side log ≡ later ++ (moment, Happening.Sent message) ∷ before → is_primary message ≡ false
    → IsReplyAtOnce side before moment message

-- each reply that an end notes as sent goes in the step in which that end has noted its primary, with W, as received,
-- and so at the same moment; and one reply alone goes to it
pub record ReplyInSteps (log : List Entry) : Type 0 where
  pub equipment : RepliesAreOfSteps side.Equipment (noted_by side.Equipment log)
  pub host : RepliesAreOfSteps side.Host (noted_by side.Host log)
  pub equipment_at_once : RepliesAreAtOnce side.Equipment log
  pub host_at_once : RepliesAreAtOnce side.Host log

-- so it is of each safe log
abbrev pub SafeLogsReplyInSteps : Type 0
SafeLogsReplyInSteps = (plans : Plans) (log : List Entry) → IsSafe plans log → ReplyInSteps log
