-- That the moves of a run come step by step, and that the end of each step which goes on is noted, once: so what doings
-- keep between two steps they keep at each move (this profile).
use Rattle.std.specs.Prelude.{◌≡◌, ℕ, List, [], ◌∷◌}
use Rattle.gl_base.specs.declared.side.Side.{Side}
use Rattle.gl_base.specs.declared.side.Side.TheVariants.{Equipment, Host}
use Rattle.message_end.specs.Doings.{Doing}
use Rattle.message_end.specs.Doings.Doing.{Says}
use Rattle.message_end.specs.Ends.{AreBegunOf, AreOfStep, Input}
use Rattle.message_end.specs.InStep.{EndsOnce, HasNoEnd}
use Rattle.message_end.specs.LineCalls.{calls_in}
use Rattle.message_end.specs.Moves.{Kind, LinePlans, Move, run_at}
use Rattle.message_end.specs.Moves.Kind.{Added, Changed, Did, Lost, Started}
use Rattle.message_end.specs.Starts.{AreOfStart, IsStartOf}
use Rattle.trace_log.specs.Log.{Happening}
use Rattle.trace_log.specs.Log.Happening.{Power, Wrote}

-- ---- what an end does in a step

-- what it has written is noted behind all else, where it has written something
abbrev pub with_wrote : List ℕ → List Doing → List Doing
with_wrote [] done = done
with_wrote (byte ∷ bytes) done = Says (Wrote (byte ∷ bytes)) ∷ done

-- all of a step that goes on, at this moment: its timer, the character that it is given, if it is given one, what it
-- decides then, and last that it has come to its end, once; only what it has written is noted behind that
pub record AreOfWholeStep (moment : ℕ) (done : List Doing) : Type 0 where
  pub input : Input (Unit {0})
  pub made : List Doing
  pub calls : AreOfStep input moment (calls_in made)
  pub ends : EndsOnce made
  pub written : List ℕ
  pub is : done ≡ with_wrote written made

-- the first ones of a step, or none, and not its end
pub record AreOfCutStep (moment : ℕ) (done : List Doing) : Type 0 where
  pub input : Input (Unit {0})
  pub calls : AreBegunOf input moment (calls_in done)
  pub unended : HasNoEnd done

-- ---- as moves

-- what an end does at a moment, behind these moves
abbrev pub moves_with : Side → ℕ → List Doing → List Move → List Move
moves_with side moment [] moves = moves
moves_with side moment (doing ∷ before) moves =
    record { side = side; moment = moment; kind = Did doing } ∷ moves_with side moment before moves

abbrev pub started_at : Side → ℕ → Happening → ℕ → Move
started_at side moment note base = record { side = side; moment = moment; kind = Started note base }

-- an end starts, and notes at once what it says behind that, the newest of this first
abbrev pub starts_with : Side → ℕ → Happening → ℕ → List Doing → List Move → List Move
starts_with side moment note base said moves =
    moves_with side moment said (started_at side moment note base ∷ moves)

-- the world notes that an end has lost its power
abbrev pub power_at : Side → ℕ → Move
power_at side moment = record { side = side; moment = moment; kind = Did (Says Power) }

-- what becomes of a character that is under way
abbrev pub IsFate : Kind → Type 0
IsFate (Did doing) = ⊥
IsFate (Started note base) = ⊥
IsFate Lost = Unit {0}
IsFate (Changed place byte) = Unit {0}
IsFate (Added byte) = Unit {0}

-- the doings of both ends have made states of theirs, where `did` says so of each
pub record AreAtStates {S T : Type 0}
    (equipment : ℕ → List Doing → S → Type 0) (host : ℕ → List Doing → T → Type 0) (plans : LinePlans)
    (moves : List Move) : Type 0 where
  pub state_of_equipment : S
  pub state_of_host : T
  pub equipment_did :
      equipment (run_at Equipment plans moves).base (run_at Equipment plans moves).doings state_of_equipment
  pub host_did : host (run_at Host plans moves).base (run_at Host plans moves).doings state_of_host

-- a step of this end is cut short behind the moves before: its first doings are there, and could have gone on to states
-- of both ends
pub record IsCutBehind {S T : Type 0}
    (equipment : ℕ → List Doing → S → Type 0) (host : ℕ → List Doing → T → Type 0) (plans : LinePlans) (side : Side)
    (moment : ℕ) (before moves : List Move) : Type 0 where
  pub done : List Doing
  pub is : moves ≡ moves_with side moment done before
  pub begun : AreOfCutStep moment done
  pub later : List Doing
  pub could : AreAtStates equipment host plans (moves_with side moment later moves)

-- the moves so far come step by step, and no step is under way: both ends start; one end makes a step, to its end; a
-- character under way is lost or changed, or one is added; or an end loses its power, in a step or between two,
-- which is noted, and starts anew. Both ends are then in states that their doings have made
pub data AreSteps {S T : Type 0}
    (equipment : ℕ → List Doing → S → Type 0) (host : ℕ → List Doing → T → Type 0) (plans : LinePlans)
    : List Move → Type 0 where
  both_start :
      (moves : List Move) (note note_there : Happening) (base base_there : ℕ) (said said_there : List Doing)
      → moves ≡ starts_with Host 0 note_there base_there said_there (starts_with Equipment 0 note base said [])
      → IsStartOf Equipment note base → IsStartOf Host note_there base_there → AreOfStart said
      → AreOfStart said_there → AreAtStates equipment host plans moves → AreSteps equipment host plans moves
  one_step :
      (moves before : List Move) (side : Side) (moment : ℕ) (done : List Doing)
      → moves ≡ moves_with side moment done before → AreOfWholeStep moment done
      → AreAtStates equipment host plans moves → AreSteps equipment host plans before
      → AreSteps equipment host plans moves
  line_changes :
      (moves before : List Move) (side : Side) (moment : ℕ) (kind : Kind)
      → moves ≡ record { side = side; moment = moment; kind = kind } ∷ before → IsFate kind
      → AreSteps equipment host plans before → AreSteps equipment host plans moves
  starts_anew :
      (moves cut before : List Move) (side : Side) (moment : ℕ) (note : Happening) (base : ℕ) (said : List Doing)
      → moves ≡ starts_with side moment note base said (power_at side moment ∷ cut) → IsStartOf side note base
      → AreOfStart said → IsCutBehind equipment host plans side moment before cut
      → AreAtStates equipment host plans moves
      → AreSteps equipment host plans before → AreSteps equipment host plans moves

-- all moves of a run are such; or the last step is cut short, with which the run ends; or so it is with the end's loss
-- of power behind it, where no numbers are left to start anew with
pub data ComeInSteps {S T : Type 0}
    (equipment : ℕ → List Doing → S → Type 0) (host : ℕ → List Doing → T → Type 0) (plans : LinePlans)
    (moves : List Move) : Type 0 where
  at_a_step : AreSteps equipment host plans moves → ComeInSteps equipment host plans moves
  in_a_step :
      (before : List Move) (side : Side) (moment : ℕ) → IsCutBehind equipment host plans side moment before moves
      → AreSteps equipment host plans before → ComeInSteps equipment host plans moves
  without_power :
      (cut before : List Move) (side : Side) (moment : ℕ) → moves ≡ power_at side moment ∷ cut
      → IsCutBehind equipment host plans side moment before cut → AreSteps equipment host plans before
      → ComeInSteps equipment host plans moves
